-- Each operation adds to each buffer the splices that it makes in it.
use Rattle.std.proofs.Common.{◌≡◌, ℤ, ◌+◌, List, [], ◌∷◌, ◌++◌, length, refl, ap, sym, ◌∙◌, length-append, arith, Bool, true, false, not, cond, Option, Some, None, subst}
use Rattle.std.specs.Prelude.{option_map, filter}
use Rattle.std.specs.Option.{option_or}
use Rattle.std.specs.Ordering.{int_eq}
use Rattle.std.proofs.lemmas.List.{append-nil}
use Rattle.std.proofs.lemmas.Option.{none-some, same_Some}
use Rattle.nv_model.specs.Buffers.{Splice, ModelBuffer, tick_of, with_seal, with_splice, with_splice_back, without_mark, fresh_buffer}
use Rattle.nv_model.specs.Editors.{ModelEditor, at_handle, updated_at}
use Rattle.nv_model.specs.Operations.{spliced, spliced_back, stepped, sealed_in, mark_set, mark_removed, name_put, modifiable_put, modified_put, listed_put, tabstop_put, buffer_made, buffer_dropped}
use Rattle.nv_model.specs.Laws.{IsGrown, OperationsAddSplices, SpliceRaisesOneTick}
use Rattle.nv_model.proofs.Lookups.{at_updated, at_append, at_dropped}

pub stays : (b : ModelBuffer) → IsGrown b [] b
stays b = record { first = refl; splices = sym (append-nil b.splices) }

-- a buffer that stands where none is updated
kept : (b d : ModelBuffer) (o : Option ModelBuffer) → o ≡ Some b → o ≡ Some d → IsGrown b [] d
kept b d o was is = subst (λ (e : ModelBuffer). IsGrown b [] e) (same_Some b d (sym was ∙ is)) (stays b)

-- an update of the buffer under k, which adds these splices to it
grown : (k n : ℤ) (f : ModelBuffer → ModelBuffer) (splices : List Splice) (m : ModelEditor)
    → ((b : ModelBuffer) → IsGrown b splices (f b)) → (b d : ModelBuffer) → at_handle m.buffers n ≡ Some b
    → at_handle (updated_at k f m.buffers) n ≡ Some d → IsGrown b (cond (int_eq k n) splices []) d
grown k n f splices m adds b d was is =
    by_case (int_eq k n) (sym (at_updated k n f m.buffers ∙ ap (λ (o : Option ModelBuffer). cond (int_eq k n) (option_map f o) o) was) ∙ is)
  where
    by_case : (t : Bool) → cond t (option_map f (Some b)) (Some b) ≡ Some d → IsGrown b (cond t splices []) d
    by_case true e = subst (λ (x : ModelBuffer). IsGrown b splices x) (same_Some (f b) d e) (adds b)
    by_case false e = subst (λ (x : ModelBuffer). IsGrown b [] x) (same_Some b d e) (stays b)

-- one that adds none
unspliced : (k n : ℤ) (f : ModelBuffer → ModelBuffer) (m : ModelEditor) → ((b : ModelBuffer) → IsGrown b [] (f b))
    → (b d : ModelBuffer) → at_handle m.buffers n ≡ Some b → at_handle (updated_at k f m.buffers) n ≡ Some d → IsGrown b [] d
unspliced k n f m adds b d was is =
    subst (λ (ss : List Splice). IsGrown b ss d) (either_none (int_eq k n)) (grown k n f [] m adds b d was is)
  where
    either_none : (t : Bool) → ◌≡◌ {A = List Splice} (cond t [] []) []
    either_none true = refl
    either_none false = refl

no_more : (b d : ModelBuffer) → d.first ≡ b.first → d.splices ≡ b.splices → IsGrown b [] d
no_more b d first splices = record { first = first; splices = splices ∙ sym (append-nil b.splices) }

made : (listed : Bool) (m : ModelEditor) (n : ℤ) (b d : ModelBuffer) → at_handle m.buffers n ≡ Some b
    → at_handle (m.buffers ++ (m.stage.next_buffer, fresh_buffer listed) ∷ []) n ≡ Some d → IsGrown b [] d
made listed m n b d was is =
    let new : List (ℤ × ModelBuffer) = (m.stage.next_buffer, fresh_buffer listed) ∷ [] in
    kept b d (Some b) refl
    (sym (at_append n m.buffers new ∙ ap (λ (o : Option ModelBuffer). option_or o (at_handle new n)) was) ∙ is)

dropped : (k : ℤ) (m : ModelEditor) (n : ℤ) (b d : ModelBuffer) → at_handle m.buffers n ≡ Some b
    → at_handle (filter (λ (e : ℤ × ModelBuffer). not (int_eq e.0 k)) m.buffers) n ≡ Some d → IsGrown b [] d
dropped k m n b d was is =
    by_case (int_eq k n) (sym (at_dropped k n m.buffers ∙ ap (λ (o : Option ModelBuffer). cond (int_eq k n) None o) was) ∙ is)
  where
    by_case : (t : Bool) → cond t None (Some b) ≡ Some d → IsGrown b [] d
    by_case true e = absurd (none-some d e)
    by_case false e = kept b d (Some b) refl e

pub operations_add_splices : OperationsAddSplices
operations_add_splices (spliced k s) m n = grown k n (with_splice s) (s ∷ []) m (λ b. record { first = refl; splices = refl })
operations_add_splices (spliced_back k s) m n = grown k n (with_splice_back s) (s ∷ []) m (λ b. record { first = refl; splices = refl })
operations_add_splices (stepped k leg) m n = unspliced k n _ m (λ b. no_more b _ refl refl)
operations_add_splices (sealed_in k) m n = unspliced k n with_seal m (λ b. no_more b _ refl refl)
operations_add_splices (mark_set k mark) m n = unspliced k n _ m (λ b. no_more b _ refl refl)
operations_add_splices (mark_removed k ns id) m n = unspliced k n (without_mark ns id) m (λ b. no_more b _ refl refl)
operations_add_splices (name_put k name) m n = unspliced k n _ m (λ b. no_more b _ refl refl)
operations_add_splices (modifiable_put k on) m n = unspliced k n _ m (λ b. no_more b _ refl refl)
operations_add_splices (modified_put k on) m n = unspliced k n _ m (λ b. no_more b _ refl refl)
operations_add_splices (listed_put k on) m n = unspliced k n _ m (λ b. no_more b _ refl refl)
operations_add_splices (tabstop_put k cells) m n = unspliced k n _ m (λ b. no_more b _ refl refl)
operations_add_splices (buffer_made listed) m n = made listed m n
operations_add_splices (buffer_dropped k) m n = dropped k m n
operations_add_splices _ m n = λ b d was is. kept b d (at_handle m.buffers n) was is

-- ---- ticks
one_tick : (s : Splice) (n k : ℤ) (b d : ModelBuffer) → IsGrown b (cond (int_eq n k) (s ∷ []) []) d
    → tick_of d ≡ cond (int_eq n k) (tick_of b + 1) (tick_of b)
one_tick s n k b d grows = by_case (int_eq n k) (ap length grows.splices)
  where
    by_case : (t : Bool) → length d.splices ≡ length (b.splices ++ cond t (s ∷ []) []) → tick_of d ≡ cond t (tick_of b + 1) (tick_of b)
    by_case true e = omega (arith, length-append b.splices (s ∷ []))
    by_case false e = omega (arith, length-append b.splices [])

pub splice_raises_one_tick : SpliceRaisesOneTick
splice_raises_one_tick s m n k = (
  λ b d was is. one_tick s n k b d (operations_add_splices (spliced n s) m k b d was is),
  λ b d was is. one_tick s n k b d (operations_add_splices (spliced_back n s) m k b d was is),
)
