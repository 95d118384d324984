-- What operations make of the marks of a buffer.
use Rattle.std.proofs.Common.{◌≡◌, ◌⊎◌, inl, inr, ℕ, ℤ, ◌≤◌, List, [], ◌∷◌, ◌++◌, length, fold, drop, refl, ap, sym, ◌∙◌, subst, length-append, arith, Bool, true, false, not, cond, filter, Option, Some, None}
use Rattle.std.specs.Prelude.{map, option_map, ◌&&◌}
use Rattle.std.specs.Option.{option_or}
use Rattle.std.specs.Ordering.{int_eq}
use Rattle.std.proofs.lemmas.Option.{none-some, same_Some}
use Rattle.nv_marks.specs.declared.extmark.Mark.{Mark}
use Rattle.nv_model.specs.Buffers.{Splice, SetMark, MarkState, ModelBuffer, keys_of, reach_of, state_after, state_set, state_now, state_behind, is_set, without_set, with_mark, without_mark, with_seal, with_splice, with_splice_back, fresh_buffer}
use Rattle.nv_model.specs.Editors.{ModelEditor, at_handle, updated_at}
use Rattle.nv_model.specs.Operations.{Operation, spliced, spliced_back, stepped, sealed_in, mark_set, mark_removed, name_put, modifiable_put, modified_put, listed_put, tabstop_put, buffer_made, buffer_dropped, set_now, after_operation, after_operations}
use Rattle.nv_model.specs.Laws.{IsGrown, splices_in}
use Rattle.nv_model.proofs.Lookups.{same_int, at_updated, at_append, at_dropped}
use Rattle.nv_model.proofs.Growing.{operations_add_splices}
use Rattle.nv_model.proofs.Behind.{behind_grown, behind_now}
use Rattle.nv_history.specs.MarkPlaces.{StandsAfter, IsMarkAmong, names_mark}

-- ---- where marks stand
pub stands_moved : (b d : ModelBuffer) (splices : List Splice) (k : SetMark) → d.splices ≡ b.splices ++ splices → k.since ≤ length b.splices
    → StandsAfter d splices k (state_now b k)
stands_moved b d splices k grown low =
    ap (λ (l : List Splice). state_behind k (drop k.since l)) grown ∙ behind_grown b.splices splices k low

pub stands_set : (b d : ModelBuffer) (splices : List Splice) (k : SetMark) → d.splices ≡ b.splices ++ splices → k.since ≡ length b.splices
    → StandsAfter d splices k (state_set k)
stands_set b d splices k grown now =
    ap (λ (l : List Splice). state_behind k (drop k.since l)) grown
    ∙ behind_grown b.splices splices k (omega (arith, now))
    ∙ ap (λ (x : MarkState). fold (state_after (keys_of k)) x (map reach_of splices))
    (ap (λ (j : ℕ). state_behind k (drop j b.splices)) now ∙ behind_now b.splices k)

-- ---- marks among others
among_less : (k : SetMark) (ns id : ℕ) (ms : List SetMark) → IsMarkAmong k (without_set ns id ms) → IsMarkAmong k ms
among_less k ns id [] h = h
among_less k ns id (m ∷ ms) h = by_case (is_set ns id m) (λ g. among_less k ns id ms g) h
  where
    by_case : (b : Bool) → (IsMarkAmong k (without_set ns id ms) → IsMarkAmong k ms)
        → IsMarkAmong k (cond (not b) (m ∷ without_set ns id ms) (without_set ns id ms)) → IsMarkAmong k (m ∷ ms)
    by_case true rest g = inr (rest g)
    by_case false rest (inl e) = inl e
    by_case false rest (inr g) = inr (rest g)

among_kept : (k : SetMark) (ns id : ℕ) (ms : List SetMark) → is_set ns id k ≡ false → IsMarkAmong k ms → IsMarkAmong k (without_set ns id ms)
among_kept k ns id [] e h = h
among_kept k ns id (m ∷ ms) e h = by_case (is_set ns id m) refl (λ g. among_kept k ns id ms e g) h
  where
    by_case : (b : Bool) → is_set ns id m ≡ b → (IsMarkAmong k ms → IsMarkAmong k (without_set ns id ms)) → IsMarkAmong k (m ∷ ms)
        → IsMarkAmong k (cond (not b) (m ∷ without_set ns id ms) (without_set ns id ms))
    by_case true f rest (inl g) = absurd (let c : true ≡ false = sym f ∙ ap (is_set ns id) (sym g) ∙ e in cc)
    by_case true f rest (inr g) = rest g
    by_case false f rest (inl g) = inl g
    by_case false f rest (inr g) = inr (rest g)

-- ---- one operation
-- what an operation makes of the marks of a buffer
pub record KeepsMarks (n : ℤ) (c : Operation) (b x : ModelBuffer) : Type 0 where
  pub kept : (k : SetMark) → IsMarkAmong k b.marks → names_mark n k c ≡ false → IsMarkAmong k x.marks
  pub each : (k : SetMark) → IsMarkAmong k x.marks → IsMarkAmong k b.marks ⊎ ((mark : Mark) × (c ≡ mark_set n mark) × (k ≡ set_now b mark))

-- of a buffer that the operation makes
abbrev pub OperationMarks : ℤ → Operation → Option ModelBuffer → ModelBuffer → Type 0
OperationMarks n c None x = x.marks ≡ []
OperationMarks n c (Some b) x = KeepsMarks n c b x

same_marks : (n : ℤ) (c : Operation) (b x : ModelBuffer) → x.marks ≡ b.marks → KeepsMarks n c b x
same_marks n c b x e = record {
  kept = λ k h f. subst (λ (ms : List SetMark). IsMarkAmong k ms) (sym e) h;
  each = λ k h. inl (subst (λ (ms : List SetMark). IsMarkAmong k ms) e h);
}

same_buffer : (n : ℤ) (c : Operation) (o : Option ModelBuffer) (x : ModelBuffer) → o ≡ Some x → OperationMarks n c o x
same_buffer n c None x e = absurd (none-some x e)
same_buffer n c (Some b) x e = same_marks n c b x (ap (λ (y : ModelBuffer). y.marks) (sym (same_Some b x e)))

updated_marks : (j n : ℤ) (c : Operation) (f : ModelBuffer → ModelBuffer) (m : ModelEditor) → ((b : ModelBuffer) → int_eq j n ≡ true → KeepsMarks n c b (f b))
    → (o : Option ModelBuffer) (x : ModelBuffer) → at_handle m.buffers n ≡ o → at_handle (updated_at j f m.buffers) n ≡ Some x → OperationMarks n c o x
updated_marks j n c f m keeps o x was is =
    by_case o (int_eq j n) refl (sym (at_updated j n f m.buffers ∙ ap (λ (p : Option ModelBuffer). cond (int_eq j n) (option_map f p) p) was) ∙ is)
  where
    by_case : (o : Option ModelBuffer) (t : Bool) → int_eq j n ≡ t → cond t (option_map f o) o ≡ Some x → OperationMarks n c o x
    by_case None true e h = absurd (none-some x h)
    by_case None false e h = absurd (none-some x h)
    by_case (Some b) true e h = subst (λ (y : ModelBuffer). KeepsMarks n c b y) (same_Some (f b) x h) (keeps b e)
    by_case (Some b) false e h = same_buffer n c (Some b) x h

unmarked : (j n : ℤ) (c : Operation) (f : ModelBuffer → ModelBuffer) (m : ModelEditor) → ((b : ModelBuffer) → (f b).marks ≡ b.marks)
    → (o : Option ModelBuffer) (x : ModelBuffer) → at_handle m.buffers n ≡ o → at_handle (updated_at j f m.buffers) n ≡ Some x → OperationMarks n c o x
unmarked j n c f m same o x was is = updated_marks j n c f m (λ b e. same_marks n c b (f b) (same b)) o x was is

-- of two tests that don't both hold, where the first does
second_fails : (a b : Bool) → a ≡ true → (a && b) ≡ false → b ≡ false
second_fails true b e f = f
second_fails false b e f = absurd (let c : true ≡ false = sym e in cc)

set_marks : (j n : ℤ) (mark : Mark) (b : ModelBuffer) → int_eq j n ≡ true → KeepsMarks n (mark_set j mark) b (with_mark (set_now b mark) b)
set_marks j n mark b e = record {
  kept = λ k h f. inr (among_kept k mark.ns mark.id b.marks (second_fails (int_eq j n) (is_set mark.ns mark.id k) e f) h);
  each = λ k h. by_place k h;
}
  where
    by_place : (k : SetMark) → (k ≡ set_now b mark) ⊎ IsMarkAmong k (without_set mark.ns mark.id b.marks)
        → IsMarkAmong k b.marks ⊎ ((new : Mark) × (mark_set j mark ≡ mark_set n new) × (k ≡ set_now b new))
    by_place k (inl g) = inr (mark, ap (λ (i : ℤ). mark_set i mark) (same_int j n e), g)
    by_place k (inr g) = inl (among_less k mark.ns mark.id b.marks g)

removed_marks : (j n : ℤ) (ns id : ℕ) (b : ModelBuffer) → int_eq j n ≡ true → KeepsMarks n (mark_removed j ns id) b (without_mark ns id b)
removed_marks j n ns id b e = record {
  kept = λ k h f. among_kept k ns id b.marks (second_fails (int_eq j n) (is_set ns id k) e f) h;
  each = λ k h. inl (among_less k ns id b.marks h);
}

made_marks : (listed : Bool) (m : ModelEditor) (n : ℤ) (c : Operation) (o : Option ModelBuffer) (x : ModelBuffer) → at_handle m.buffers n ≡ o
    → at_handle (m.buffers ++ (m.stage.next_buffer, fresh_buffer listed) ∷ []) n ≡ Some x → OperationMarks n c o x
made_marks listed m n c o x was is =
    by_case o (sym (at_append n m.buffers ((m.stage.next_buffer, fresh_buffer listed) ∷ [])
    ∙ ap (λ (p : Option ModelBuffer). option_or p (at_handle ((m.stage.next_buffer, fresh_buffer listed) ∷ []) n)) was) ∙ is)
  where
    by_new : (t : Bool) → cond t (Some (fresh_buffer listed)) None ≡ Some x → x.marks ≡ []
    by_new true e = ap (λ (y : ModelBuffer). y.marks) (sym (same_Some (fresh_buffer listed) x e))
    by_new false e = absurd (none-some x e)

    by_case : (o : Option ModelBuffer) → option_or o (at_handle ((m.stage.next_buffer, fresh_buffer listed) ∷ []) n) ≡ Some x → OperationMarks n c o x
    by_case None e = by_new (int_eq m.stage.next_buffer n) e
    by_case (Some b) e = same_buffer n c (Some b) x e

dropped_marks : (j : ℤ) (m : ModelEditor) (n : ℤ) (c : Operation) (o : Option ModelBuffer) (x : ModelBuffer) → at_handle m.buffers n ≡ o
    → at_handle (filter (λ (e : ℤ × ModelBuffer). not (int_eq e.0 j)) m.buffers) n ≡ Some x → OperationMarks n c o x
dropped_marks j m n c o x was is = by_case (int_eq j n) (sym (at_dropped j n m.buffers ∙ ap (λ (p : Option ModelBuffer). cond (int_eq j n) None p) was) ∙ is)
  where
    by_case : (t : Bool) → cond t None o ≡ Some x → OperationMarks n c o x
    by_case true e = absurd (none-some x e)
    by_case false e = same_buffer n c o x e

pub operation_marks : (c : Operation) (m : ModelEditor) (n : ℤ) (o : Option ModelBuffer) (x : ModelBuffer) → at_handle m.buffers n ≡ o
    → at_handle (after_operation c m).buffers n ≡ Some x → OperationMarks n c o x
operation_marks (spliced j s) m n o x was is = unmarked j n (spliced j s) (with_splice s) m (λ b. refl) o x was is
operation_marks (spliced_back j s) m n o x was is = unmarked j n (spliced_back j s) (with_splice_back s) m (λ b. refl) o x was is
operation_marks (stepped j leg) m n o x was is = unmarked j n (stepped j leg) _ m (λ b. refl) o x was is
operation_marks (sealed_in j) m n o x was is = unmarked j n (sealed_in j) with_seal m (λ b. refl) o x was is
operation_marks (mark_set j mark) m n o x was is = updated_marks j n (mark_set j mark) (λ b. with_mark (set_now b mark) b) m (λ b e. set_marks j n mark b e) o x was is
operation_marks (mark_removed j ns id) m n o x was is = updated_marks j n (mark_removed j ns id) (without_mark ns id) m (λ b e. removed_marks j n ns id b e) o x was is
operation_marks (name_put j name) m n o x was is = unmarked j n (name_put j name) _ m (λ b. refl) o x was is
operation_marks (modifiable_put j on) m n o x was is = unmarked j n (modifiable_put j on) _ m (λ b. refl) o x was is
operation_marks (modified_put j on) m n o x was is = unmarked j n (modified_put j on) _ m (λ b. refl) o x was is
operation_marks (listed_put j on) m n o x was is = unmarked j n (listed_put j on) _ m (λ b. refl) o x was is
operation_marks (tabstop_put j cells) m n o x was is = unmarked j n (tabstop_put j cells) _ m (λ b. refl) o x was is
operation_marks (buffer_made listed) m n o x was is = made_marks listed m n (buffer_made listed) o x was is
operation_marks (buffer_dropped j) m n o x was is = dropped_marks j m n (buffer_dropped j) o x was is
operation_marks c m n o x was is = same_buffer n c o x (sym was ∙ is)

-- ---- marks were set after splices that are there
abbrev pub MarksAreSet : ModelBuffer → Type 0
MarksAreSet b = (k : SetMark) → IsMarkAmong k b.marks → k.since ≤ length b.splices

abbrev pub AllMarksAreSet : ModelEditor → Type 0
AllMarksAreSet m = (n : ℤ) (b : ModelBuffer) → at_handle m.buffers n ≡ Some b → MarksAreSet b

set_on : (c : Operation) (n : ℤ) (o : Option ModelBuffer) (x : ModelBuffer) → OperationMarks n c o x
    → ((b : ModelBuffer) → o ≡ Some b → IsGrown b (splices_in n c) x) → ((b : ModelBuffer) → o ≡ Some b → MarksAreSet b) → MarksAreSet x
set_on c n None x h grown set k among = absurd (subst (λ (ms : List SetMark). IsMarkAmong k ms) h among)
set_on c n (Some b) x h grown set k among = by_case (h.each k among)
  where
    by_case : IsMarkAmong k b.marks ⊎ ((mark : Mark) × (c ≡ mark_set n mark) × (k ≡ set_now b mark)) → k.since ≤ length x.splices
    by_case (inl g) = omega (arith, set b refl k g, ap length (grown b refl).splices, length-append b.splices (splices_in n c))
    by_case (inr g) = omega (arith, ap (λ (j : SetMark). j.since) g.2, ap length (grown b refl).splices, length-append b.splices (splices_in n c))

pub stays_set : (c : Operation) (m : ModelEditor) → AllMarksAreSet m → AllMarksAreSet (after_operation c m)
stays_set c m set n x is =
    set_on c n (at_handle m.buffers n) x (operation_marks c m n (at_handle m.buffers n) x refl is)
    (λ b was. operations_add_splices c m n b x was is) (λ b was. set n b was)

pub stay_set : (cs : List Operation) (m : ModelEditor) → AllMarksAreSet m → AllMarksAreSet (after_operations cs m)
stay_set [] m set = set
stay_set (c ∷ cs) m set = stay_set cs (after_operation c m) (stays_set c m set)
