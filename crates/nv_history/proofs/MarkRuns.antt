-- After each entry of a history the marks stand where the splices left them.
use Rattle.std.proofs.Common.{◌≡◌, ◌⊎◌, inl, inr, ℕ, ℤ, pos, ◌≤◌, List, [], ◌∷◌, ◌++◌, length, refl, ap, sym, ◌∙◌, subst, Bool, true, false, cond, Option, Some, None}
use Rattle.std.specs.Prelude.{option_and_then, ◌||◌}
use Rattle.std.specs.List.{list_any}
use Rattle.std.specs.Ordering.{int_eq}
use Rattle.std.proofs.lemmas.Option.{none-some, same_Some}
use Rattle.nv_marks.specs.declared.extmark.Mark.{Mark}
use Rattle.nv_model.specs.Buffers.{SetMark, ModelBuffer, fresh_buffer}
use Rattle.nv_model.specs.Editors.{ModelEditor, at_handle}
use Rattle.nv_model.specs.Operations.{Operation, mark_set, set_now, after_operation, after_operations}
use Rattle.nv_model.specs.Laws.{IsNumbered, splices_among}
use Rattle.nv_model.specs.declared.parts.Limits.{Limits}
use Rattle.nv_model.proofs.Numbering.{stays_below}
use Rattle.nv_model.proofs.Texts.{operations_make_texts}
use Rattle.nv_model.proofs.MarkOrders.{marks_are_in_order}
use Rattle.nv_dispatch.specs.Laws.{FactsTellPasts, SoundnessIsKept}
use Rattle.nv_history.specs.Events.{Entry}
use Rattle.nv_history.specs.Worlds.{World, fresh_world, step, world_made}
use Rattle.nv_history.specs.Runs.{run_from}
use Rattle.nv_history.specs.MarkPlaces.{operations_of, IsMarkAmong, names_mark, WasMoved, WasSet, MarksStand, EachMarkStands}
use Rattle.nv_history.proofs.MarksKept.{stands_moved, stands_set, OperationMarks, operation_marks, AllMarksAreSet, stay_set}
use Rattle.nv_history.proofs.GoneBuffers.{gone_for_good, operations_append}
use Rattle.nv_history.proofs.GoingRuns.{run_sound}
use Rattle.nv_history.proofs.SameBuffers.{step_buffers}

stay_below : (cs : List Operation) (m : ModelEditor) → IsNumbered m → IsNumbered (after_operations cs m)
stay_below [] m is = is
stay_below (c ∷ cs) m is = stay_below cs (after_operation c m) (stays_below c m is)

-- ---- which marks are there after operations
-- a mark was there before operations, or one of them set it
abbrev ThereBefore : Option ModelBuffer → SetMark → Type 0
ThereBefore None k = ⊥
ThereBefore (Some b) k = IsMarkAmong k b.marks

record SetAmong (n : ℤ) (m : ModelEditor) (cs : List Operation) (k : SetMark) : Type 0 where
  before : List Operation
  mark : Mark
  behind : List Operation
  whole : cs ≡ before ++ mark_set n mark ∷ behind
  buffer : ModelBuffer
  there : at_handle (after_operations before m).buffers n ≡ Some buffer
  set_as : k ≡ set_now buffer mark

set_later : (n : ℤ) (c : Operation) (m : ModelEditor) (cs : List Operation) (k : SetMark) → SetAmong n (after_operation c m) cs k → SetAmong n m (c ∷ cs) k
set_later n c m cs k h = record {
  before = c ∷ h.before;
  mark = h.mark;
  behind = h.behind;
  whole = ap (λ (l : List Operation). c ∷ l) h.whole;
  buffer = h.buffer;
  there = h.there;
  set_as = h.set_as;
}

set_first : (n : ℤ) (c : Operation) (m : ModelEditor) (cs : List Operation) (k : SetMark) (b : ModelBuffer) (mark : Mark) → at_handle m.buffers n ≡ Some b
    → c ≡ mark_set n mark → k ≡ set_now b mark → SetAmong n m (c ∷ cs) k
set_first n c m cs k b mark there e f = record {
  before = [];
  mark = mark;
  behind = cs;
  whole = ap (λ (d : Operation). d ∷ cs) e;
  buffer = b;
  there = there;
  set_as = f;
}

-- one operation earlier
earlier : (n : ℤ) (c : Operation) (m : ModelEditor) (cs : List Operation) (k : SetMark) (o p : Option ModelBuffer) → at_handle m.buffers n ≡ o
    → ((x : ModelBuffer) → p ≡ Some x → OperationMarks n c o x) → ThereBefore p k → ThereBefore o k ⊎ SetAmong n m (c ∷ cs) k
earlier n c m cs k o None was marks h = absurd h
earlier n c m cs k None (Some x) was marks h = absurd (subst (λ (ms : List SetMark). IsMarkAmong k ms) (marks x refl) h)
earlier n c m cs k (Some b) (Some x) was marks h = by_case ((marks x refl).each k h)
  where
    by_case : IsMarkAmong k b.marks ⊎ ((mark : Mark) × (c ≡ mark_set n mark) × (k ≡ set_now b mark)) → IsMarkAmong k b.marks ⊎ SetAmong n m (c ∷ cs) k
    by_case (inl g) = inl g
    by_case (inr g) = inr (set_first n c m cs k b g.0 was g.1 g.2)

from_where : (n : ℤ) (cs : List Operation) (m : ModelEditor) (d : ModelBuffer) (k : SetMark) → at_handle (after_operations cs m).buffers n ≡ Some d → IsMarkAmong k d.marks
    → ThereBefore (at_handle m.buffers n) k ⊎ SetAmong n m cs k
from_where n [] m d k is h = inl (subst (λ (o : Option ModelBuffer). ThereBefore o k) (sym is) h)
from_where n (c ∷ cs) m d k is h = by_case (from_where n cs (after_operation c m) d k is h)
  where
    by_case : ThereBefore (at_handle (after_operation c m).buffers n) k ⊎ SetAmong n (after_operation c m) cs k
        → ThereBefore (at_handle m.buffers n) k ⊎ SetAmong n m (c ∷ cs) k
    by_case (inl g) =
        earlier n c m cs k (at_handle m.buffers n) (at_handle (after_operation c m).buffers n) refl
        (λ x e. operation_marks c m n (at_handle m.buffers n) x refl e) g
    by_case (inr g) = inr (set_later n c m cs k g)

-- a mark that no operation names stays
no_first : (a b : Bool) → (a || b) ≡ false → (a ≡ false) × (b ≡ false)
no_first true b e = absurd (let c : true ≡ false = e in cc)
no_first false b e = (refl, e)

kept_on : (n : ℤ) (cs : List Operation) (m : ModelEditor) (b d : ModelBuffer) (k : SetMark) → IsNumbered m → at_handle m.buffers n ≡ Some b
    → at_handle (after_operations cs m).buffers n ≡ Some d → IsMarkAmong k b.marks → list_any (names_mark n k) cs ≡ false → IsMarkAmong k d.marks
kept_on n [] m b d k is was now h e = subst (λ (x : ModelBuffer). IsMarkAmong k x.marks) (same_Some b d (sym was ∙ now)) h
kept_on n (c ∷ cs) m b d k is was now h e =
    let unnamed = no_first (names_mark n k c) (list_any (names_mark n k) cs) e in
    by_case unnamed.0 (λ x there g. kept_on n cs (after_operation c m) x d k (stays_below c m is) there now g unnamed.1) (at_handle (after_operation c m).buffers n) refl
  where
    by_case : names_mark n k c ≡ false
        → ((x : ModelBuffer) → at_handle (after_operation c m).buffers n ≡ Some x → IsMarkAmong k x.marks → IsMarkAmong k d.marks)
        → (o : Option ModelBuffer) → at_handle (after_operation c m).buffers n ≡ o → IsMarkAmong k d.marks
    by_case f rest None none = absurd (gone_for_good n c cs m b d is was none now)
    by_case f rest (Some x) there = rest x there ((operation_marks c m n (Some b) x was there).kept k h f)

-- ---- where they stand
was_set : (n : ℤ) (m : ModelEditor) (cs : List Operation) (d : ModelBuffer) (k : SetMark) → IsNumbered m → at_handle (after_operations cs m).buffers n ≡ Some d
    → SetAmong n m cs k → WasSet n m cs d k
was_set n m cs d k is now h =
    let later : ModelEditor = after_operations h.before m in
    let once : ModelEditor = after_operation (mark_set n h.mark) (after_operations h.before m) in
    let parts : after_operations cs m ≡ after_operations (mark_set n h.mark ∷ h.behind) (after_operations h.before m) =
    ap (λ (l : List Operation). after_operations l m) h.whole ∙ operations_append h.before (mark_set n h.mark ∷ h.behind) m in
    let there : at_handle (after_operations (mark_set n h.mark ∷ h.behind) (after_operations h.before m)).buffers n ≡ Some d =
    subst (λ (e : ModelEditor). at_handle e.buffers n ≡ Some d) parts now in
    let grown = (operations_make_texts (mark_set n h.mark ∷ h.behind) (after_operations h.before m) n (stay_below h.before m is) h.buffer d h.there there).grown.splices in
    record {
      before = h.before;
      mark = h.mark;
      behind = h.behind;
      whole = h.whole;
      buffer = h.buffer;
      there = h.there;
      set_as = h.set_as;
      stands = stands_set h.buffer d (splices_among n h.behind) k grown (ap (λ (j : SetMark). j.since) h.set_as);
    }

was_moved : (n : ℤ) (m : ModelEditor) (cs : List Operation) (d : ModelBuffer) (k : SetMark) (o : Option ModelBuffer) → IsNumbered m → AllMarksAreSet m
    → at_handle m.buffers n ≡ o → at_handle (after_operations cs m).buffers n ≡ Some d → ThereBefore o k → WasMoved n cs o d k
was_moved n m cs d k None is set was now h = h
was_moved n m cs d k (Some b) is set was now h =
    (h, stands_moved b d (splices_among n cs) k (operations_make_texts cs m n is b d was now).grown.splices (set n b was k h))

pub marks_stand : (n : ℤ) (m : ModelEditor) (cs : List Operation) (d : ModelBuffer) → IsNumbered m → AllMarksAreSet m → at_handle (after_operations cs m).buffers n ≡ Some d
    → MarksStand n m cs d
marks_stand n m cs d is set now = record {
  kept = λ b k was h e. kept_on n cs m b d k is was now h e;
  each = λ k h. by_case k (from_where n cs m d k now h);
  order = marks_are_in_order d;
}
  where
    by_case : (k : SetMark) → ThereBefore (at_handle m.buffers n) k ⊎ SetAmong n m cs k → WasMoved n cs (at_handle m.buffers n) d k ⊎ WasSet n m cs d k
    by_case k (inl g) = inl (was_moved n m cs d k (at_handle m.buffers n) is set refl now g)
    by_case k (inr g) = inr (was_set n m cs d k is now g)

-- ---- along a run
same_set : (m later : ModelEditor) → later.buffers ≡ m.buffers → AllMarksAreSet m → AllMarksAreSet later
same_set m later e set n b is = set n b (ap (λ (es : List (ℤ × ModelBuffer)). at_handle es n) (sym e) ∙ is)

set_next : (v : World) (es : List Entry) (o : Option World) → ((u : World) → o ≡ Some u → AllMarksAreSet u.editor)
    → ((u : World) → AllMarksAreSet u.editor → run_from u es ≡ Some v → AllMarksAreSet v.editor)
    → option_and_then (λ u. run_from u es) o ≡ Some v → AllMarksAreSet v.editor
set_next v es None first rest e = absurd (none-some v e)
set_next v es (Some u) first rest e = rest u (first u refl) e

pub run_set : (w v : World) (es : List Entry) → AllMarksAreSet w.editor → run_from w es ≡ Some v → AllMarksAreSet v.editor
run_set w v [] set e = subst (λ (u : World). AllMarksAreSet u.editor) (same_Some w v e) set
run_set w v (x ∷ es) set e =
    set_next v es (world_made (step w x.event))
    (λ u f. same_set (after_operations (operations_of w x.event) w.editor) u.editor (step_buffers w u x.event f) (stay_set (operations_of w x.event) w.editor set))
    (λ u g f. run_set u v es g f) e

fresh_set : (capacity : ℕ) (limits : Limits) → AllMarksAreSet (fresh_world capacity limits).editor
fresh_set capacity limits n b is k h = by_case (int_eq (pos 1) n) is
  where
    by_case : (t : Bool) → cond t (Some (fresh_buffer true)) None ≡ Some b → k.since ≤ length b.splices
    by_case true e = absurd (subst (λ (x : ModelBuffer). IsMarkAmong k x.marks) (sym (same_Some (fresh_buffer true) b e)) h)
    by_case false e = absurd (none-some b e)

module _ (facts_tell : FactsTellPasts) (stay_sound : SoundnessIsKept) where
  pub each_mark_stands : EachMarkStands
  unfolding EachMarkStands
  each_mark_stands capacity limits history w v event n d e f now =
      marks_stand n w.editor (operations_of w event) d (run_sound facts_tell stay_sound capacity limits history w e).numbered
      (run_set (fresh_world capacity limits) w history (fresh_set capacity limits) e)
      (ap (λ (es : List (ℤ × ModelBuffer)). at_handle es n) (sym (step_buffers w v event f)) ∙ now)
