-- An editor with a mark set or removed.
use Rattle.std.proofs.Common.{◌≡◌, ◌≢◌, ℕ, ℤ, pos, ◌+ℤ◌, ◌≤ℤ◌, ◌<◌, List, [], ◌∷◌, filter, fold, refl, ap, sym, ◌∙◌, Bool, true, false, cond, subst, Option, Some, None, Result, Ok, Err, OnOk, OnErr, All, arith, not}
use Rattle.std.specs.Ordering.{int_eq}
use Rattle.std.proofs.lemmas.Int.{ints}
use Rattle.std.proofs.lemmas.List.Elements.{All-cons, All-filter}
use Rattle.std.proofs.lemmas.List.Sorted.{All-permutation}
use Rattle.nv_marks.specs.Marks.{Marks, is_named, numbered_mark, without}
use Rattle.nv_marks.specs.Queries.{is_cleared}
use Rattle.nv_marks.specs.declared.extmark.Mark.{Mark}
use Rattle.nv_buffer.specs.Content.{Content}
use Rattle.nv_buffer.specs.Marks.{IsMarked, IsUnmarked, IsMarkIn, marks_cleared}
use Rattle.nv_windows.specs.Sound.{IsRisingFrom}
use Rattle.nv_model.specs.Buffers.{ModelBuffer, with_mark, without_mark}
use Rattle.nv_model.specs.Answering.{removal_operations}
use Rattle.nv_model.specs.Editors.{ModelEditor, at_handle, handles_of, updated_at}
use Rattle.nv_model.specs.Keeping.{most_settings}
use Rattle.nv_model.specs.Operations.{set_now, with_buffer, after_operations}
use Rattle.nv_model.specs.Stage.{Stage}
use Rattle.nv_model.specs.Standing.{PresentEditor, StandsFor, Stands}
use Rattle.nv_model.proofs.Lookups.{same_int, int_eq-itself}
use Rattle.nv_places.specs.declared.place.Pos.{Pos}
use Rattle.nv_model.proofs.Marking.{mark_is_kept, unmark_is_kept, clear_is_kept}
use Rattle.nv_editor.specs.Sound.{IsSoundEditor, IsOfGroups}
use Rattle.nv_editor.specs.inside.Table.{IsUpdatedAt, content_in, AreKeptBuffers}
use Rattle.nv_editor.proofs.StageKept.{editor_of}
use Rattle.nv_editor.proofs.Updating.{text_same_sound, painted_there, option_kept, buffer_done, stands_as, either_handle}

-- a buffer but for its marks
abbrev with_marks : Content → Marks → Content
with_marks b marks = record b { marks = marks }

-- ---- marks of a buffer removed one after another
abbrev without_all : ℤ → List Mark → ModelBuffer → ModelBuffer
without_all n marks b = fold (λ (x : ModelBuffer) (k : Mark). without_mark k.ns k.id x) b marks

left_as : (n : ℤ) (es : List (ℤ × ModelBuffer)) → updated_at n (λ b. b) es ≡ es
left_as n [] = refl
left_as n (e ∷ es) = λ i. by_case (int_eq e.0 n) i ∷ left_as n es i
  where
    by_case : (t : Bool) → cond t (e.0, e.1) e ≡ e
    by_case true = refl
    by_case false = refl

updated_twice : (n : ℤ) (f g : ModelBuffer → ModelBuffer) (es : List (ℤ × ModelBuffer)) → updated_at n f (updated_at n g es) ≡ updated_at n (λ b. f (g b)) es
updated_twice n f g [] = refl
updated_twice n f g (e ∷ es) = λ i. by_case (int_eq e.0 n) refl i ∷ updated_twice n f g es i
  where
    by_case : (t : Bool) → int_eq e.0 n ≡ t
        → (let x = cond t (e.0, g e.1) e in cond (int_eq x.0 n) (x.0, f x.1) x) ≡ cond t (e.0, f (g e.1)) e
    by_case true is = ap (λ (t : Bool). cond t (e.0, f (g e.1)) (e.0, g e.1)) is
    by_case false is = ap (λ (t : Bool). cond t (e.0, f e.1) e) is

all_removed : (n : ℤ) (marks : List Mark) (m : ModelEditor) → after_operations (removal_operations n marks) m ≡ with_buffer n (without_all n marks) m
all_removed n [] m = λ i. record m { buffers = sym (left_as n m.buffers) i }
all_removed n (k ∷ ks) m =
    all_removed n ks (with_buffer n (without_mark k.ns k.id) m)
    ∙ (λ i. record m { buffers = updated_twice n (without_all n ks) (without_mark k.ns k.id) m.buffers i })

-- a buffer whose marks are cleared has its name
pub name_stays : {T E : Type 0} (r : Result T E) (ns : Option ℕ) (from to : Pos) (b d : Content)
    → OnOk r (d ≡ record b { marks = marks_cleared ns from to b.marks }) → OnErr r (d ≡ b) → d.name ≡ b.name
name_stays (Ok value) ns from to b d ok err = ap (λ (x : Content). x.name) ok
name_stays (Err e) ns from to b d ok err = ap (λ (x : Content). x.name) err

module _ (bs later : List (ℤ × Content)) (stage : Stage) (n : ℤ) (is : IsUpdatedAt n bs later)
    (rest : content_in later n ≡ with_marks (content_in bs n) (content_in later n).marks) where
  pub marks_kept : (edited : List ℤ) → AreKeptBuffers edited bs → AreKeptBuffers edited later
  marks_kept edited kept = option_kept edited bs later n kept is (ap (λ (b : Content). b.undo) rest) (ap (λ (b : Content). b.unsealed) rest)

  pub mark_sound : (k : Mark) → IsSoundEditor (editor_of bs stage) → IsMarked (content_in bs n).marks (content_in later n).marks k
      → IsOfGroups stage.groups k → IsSoundEditor (editor_of later stage)
  mark_sound k sound marked of =
      text_same_sound bs later stage n sound is (ap (λ (b : Content). b.text) rest)
      (All-permutation (IsOfGroups stage.groups) (numbered_mark (content_in bs n).marks.settings k ∷ without k.ns k.id (content_in bs n).marks.marks)
      (content_in later n).marks.marks marked.marks.same_marks
      (All-cons (IsOfGroups stage.groups) (numbered_mark (content_in bs n).marks.settings k) (without k.ns k.id (content_in bs n).marks.marks) of
      (All-filter (λ (m : Mark). not (is_named k.ns k.id m)) (IsOfGroups stage.groups) (content_in bs n).marks.marks (painted_there bs later stage n sound is))))

  pub unmark_sound : (ns id : ℕ) → IsSoundEditor (editor_of bs stage) → IsUnmarked (content_in bs n).marks (content_in later n).marks ns id
      → IsSoundEditor (editor_of later stage)
  unmark_sound ns id sound unmarked =
      text_same_sound bs later stage n sound is (ap (λ (b : Content). b.text) rest)
      (subst (λ (ms : List Mark). All (IsOfGroups stage.groups) ms) (sym unmarked.marks)
      (All-filter (λ (m : Mark). not (is_named ns id m)) (IsOfGroups stage.groups) (content_in bs n).marks.marks (painted_there bs later stage n sound is)))

  pub mark_done : (old : PresentEditor) (k : Mark) → editor_of bs stage ≡ old → IsMarked (content_in bs n).marks (content_in later n).marks k
      → IsMarkIn (content_in bs n).text k → k.hidden ≡ false → (content_in bs n).marks.settings < most_settings
      → (m : ModelEditor) → Stands old m → Stands (editor_of later stage) (with_buffer n (λ (b : ModelBuffer). with_mark (set_now b k) b) m)
  mark_done old k view marked within shown few =
      buffer_done bs later stage old n (λ (b : ModelBuffer). with_mark (set_now b k) b) view is
      (λ x stands. stands_as (content_in later n) (with_marks (content_in bs n) (content_in later n).marks) (with_mark (set_now x k) x) rest
      (mark_is_kept (content_in bs n) (content_in later n).marks k x marked within shown few stands))

  pub unmark_done : (old : PresentEditor) (ns id : ℕ) → editor_of bs stage ≡ old → IsUnmarked (content_in bs n).marks (content_in later n).marks ns id
      → (m : ModelEditor) → Stands old m → Stands (editor_of later stage) (with_buffer n (without_mark ns id) m)
  unmark_done old ns id view unmarked =
      buffer_done bs later stage old n (without_mark ns id) view is
      (λ x stands. stands_as (content_in later n) (with_marks (content_in bs n) (content_in later n).marks) (without_mark ns id x) rest
      (unmark_is_kept (content_in bs n) (content_in later n).marks ns id x unmarked stands))

  pub clear_sound : (ns : Option ℕ) (from to : Pos) → IsSoundEditor (editor_of bs stage)
      → (content_in later n).marks ≡ marks_cleared ns from to (content_in bs n).marks → IsSoundEditor (editor_of later stage)
  clear_sound ns from to sound cleared =
      text_same_sound bs later stage n sound is (ap (λ (b : Content). b.text) rest)
      (subst (λ (ms : Marks). All (IsOfGroups stage.groups) ms.marks) (sym cleared)
      (All-filter (λ (m : Mark). not (is_cleared ns from to m)) (IsOfGroups stage.groups) (content_in bs n).marks.marks (painted_there bs later stage n sound is)))

  pub clear_done : (old : PresentEditor) (ns : Option ℕ) (from to : Pos) → editor_of bs stage ≡ old
      → (content_in later n).marks ≡ marks_cleared ns from to (content_in bs n).marks → (m : ModelEditor) → Stands old m
      → Stands (editor_of later stage) (after_operations (removal_operations n (filter (is_cleared ns from to) (content_in bs n).marks.marks)) m)
  clear_done old ns from to view cleared m stands =
      let marks : List Mark = filter (is_cleared ns from to) (content_in bs n).marks.marks in
      let now : content_in later n ≡ with_marks (content_in bs n) (marks_cleared ns from to (content_in bs n).marks) =
      rest ∙ ap (with_marks (content_in bs n)) cleared in
      subst (λ (x : ModelEditor). Stands (editor_of later stage) x) (sym (all_removed n marks m))
      (buffer_done bs later stage old n (without_all n marks) view is
      (λ x here. stands_as (content_in later n) (with_marks (content_in bs n) (marks_cleared ns from to (content_in bs n).marks)) (without_all n marks x) now
      (clear_is_kept (content_in bs n) ns from to x here)) m stands)

-- ---- where nothing changed
none_lower : (low k : ℤ) (es : List (ℤ × Content)) → IsRisingFrom low (handles_of es) → (k +ℤ pos 1) ≤ℤ low → at_handle es k ≡ None
none_lower low k [] rise h = refl
none_lower low k (e ∷ es) rise h =
    ap (λ (t : Bool). cond t (Some e.1) (at_handle es k)) (apart e.0 k (omega (arith, ints, rise.0, h)))
    ∙ none_lower (e.0 +ℤ pos 1) k es rise.1 (omega (arith, ints, rise.0, h))
  where
    apart : (a b : ℤ) → (b +ℤ pos 1) ≤ℤ a → int_eq a b ≡ false
    apart a b h = grind (arith, ints)

head_handle : (e f : ℤ × Content) (es fs : List (ℤ × Content)) → handles_of (f ∷ fs) ≡ handles_of (e ∷ es) → f.0 ≡ e.0
head_handle e f es fs same = ap (head_or e.0) same
  where
    head_or : ℤ → List ℤ → ℤ
    head_or d [] = d
    head_or d (k ∷ ks) = k

tail_handles : (e f : ℤ × Content) (es fs : List (ℤ × Content)) → handles_of (f ∷ fs) ≡ handles_of (e ∷ es) → handles_of fs ≡ handles_of es
tail_handles e f es fs same = ap rest_of same
  where
    rest_of : List ℤ → List ℤ
    rest_of [] = []
    rest_of (k ∷ ks) = ks

some_same : (a b : Content) → Some a ≡ Some b → a ≡ b
some_same a b e = cc

same_entries : (low : ℤ) (es fs : List (ℤ × Content)) → IsRisingFrom low (handles_of es) → handles_of fs ≡ handles_of es
    → ((k : ℤ) → at_handle fs k ≡ at_handle es k) → fs ≡ es
same_entries low [] [] rise handles same = refl
same_entries low [] (f ∷ fs) rise handles same = absurd (cc)
same_entries low (e ∷ es) [] rise handles same = absurd (cc)
same_entries low (e ∷ es) (f ∷ fs) rise handles same =
    let key : f.0 ≡ e.0 = head_handle e f es fs handles in
    let rest : handles_of fs ≡ handles_of es = tail_handles e f es fs handles in
    let value : f.1 ≡ e.1 =
    some_same f.1 e.1
    (sym (ap (λ (t : Bool). cond t (Some f.1) (at_handle fs e.0)) (subst (λ (k : ℤ). int_eq k e.0 ≡ true) (sym key) (int_eq-itself e.0)))
    ∙ same e.0
    ∙ ap (λ (t : Bool). cond t (Some e.1) (at_handle es e.0)) (int_eq-itself e.0)) in
    let tails : fs ≡ es = same_entries (e.0 +ℤ pos 1) es fs rise.1 rest (λ k. behind k (int_eq e.0 k) refl) in
    λ i. (key i, value i) ∷ tails i
  where
    behind : (k : ℤ) (t : Bool) → int_eq e.0 k ≡ t → at_handle fs k ≡ at_handle es k
    behind k true is =
        let at : (k +ℤ pos 1) ≤ℤ (e.0 +ℤ pos 1) = equal_low e.0 k (same_int e.0 k is) in
        none_lower (e.0 +ℤ pos 1) k fs (subst (IsRisingFrom (e.0 +ℤ pos 1)) (sym (tail_handles e f es fs handles)) rise.1) at
        ∙ sym (none_lower (e.0 +ℤ pos 1) k es rise.1 at)
      where
        equal_low : (a k : ℤ) → a ≡ k → (k +ℤ pos 1) ≤ℤ (a +ℤ pos 1)
        equal_low a k e = omega (arith, ints)
    behind k false is =
        sym (ap (λ (t : Bool). cond t (Some f.1) (at_handle fs k)) (subst (λ (j : ℤ). int_eq j k ≡ false) (sym (head_handle e f es fs handles)) is))
        ∙ same k
        ∙ ap (λ (t : Bool). cond t (Some e.1) (at_handle es k)) is

pub unchanged_is : (bs later : List (ℤ × Content)) (n : ℤ) → IsRisingFrom (pos 1) (handles_of bs) → IsUpdatedAt n bs later
    → content_in later n ≡ content_in bs n → later ≡ bs
unchanged_is bs later n rise is same =
    same_entries (pos 1) bs later rise is.handles
    (λ k. either_handle (at_handle later k ≡ at_handle bs k) k n
    (λ e. subst (λ (j : ℤ). at_handle later j ≡ at_handle bs j) (sym e) (is.becomes ∙ ap (λ (b : Content). Some b) same ∙ sym is.was))
    (λ other. is.others k other))
