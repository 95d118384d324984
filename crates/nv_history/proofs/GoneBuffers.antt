-- A buffer that is deleted doesn't come back.
use Rattle.std.proofs.Common.{◌≡◌, ℤ, ◌≤ℤ◌, ◌<ℤ◌, List, [], ◌∷◌, ◌++◌, refl, ap, sym, ◌∙◌, arith, All, Bool, true, false, cond, Option, Some, None, subst}
use Rattle.std.specs.Prelude.{option_map}
use Rattle.std.specs.Option.{option_or}
use Rattle.std.specs.Ordering.{int_eq}
use Rattle.std.proofs.lemmas.Int.{ints}
use Rattle.std.proofs.lemmas.List.Elements.{All-head, All-tail}
use Rattle.std.proofs.lemmas.Option.{none-some}
use Rattle.nv_model.specs.Buffers.{ModelBuffer, fresh_buffer}
use Rattle.nv_model.specs.Editors.{ModelEditor, at_handle, updated_at}
use Rattle.nv_model.specs.Operations.{Operation, spliced, spliced_back, stepped, sealed_in, mark_set, mark_removed, name_put, modifiable_put, modified_put, listed_put, tabstop_put, buffer_made, buffer_dropped, ui_put, uis_dropped, after_operation, after_operations}
use Rattle.nv_model.specs.Laws.{IsNumbered}
use Rattle.nv_model.proofs.Lookups.{at_updated, at_append, at_dropped, same_int}
use Rattle.nv_model.proofs.Numbering.{splice_alike, uis_alike}

-- what is there has a handle below the next
pub live_below : (next n : ℤ) (es : List (ℤ × ModelBuffer)) (b : ModelBuffer) → All (λ (e : ℤ × ModelBuffer). e.0 <ℤ next) es
    → at_handle es n ≡ Some b → n <ℤ next
live_below next n [] b low is = absurd (none-some b is)
live_below next n (e ∷ es) b low is = by_case (live_below next n es b (All-tail (λ (d : ℤ × ModelBuffer). d.0 <ℤ next) e es low)) (int_eq e.0 n) refl is
  where
    by_case : (at_handle es n ≡ Some b → n <ℤ next) → (t : Bool) → int_eq e.0 n ≡ t → cond t (Some e.1) (at_handle es n) ≡ Some b → n <ℤ next
    by_case rest true same is = subst (λ (k : ℤ). k <ℤ next) (same_int e.0 n same) (All-head (λ (d : ℤ × ModelBuffer). d.0 <ℤ next) e es low)
    by_case rest false same is = rest is

-- the next handle never falls
pub next_rises : (c : Operation) (m : ModelEditor) → m.stage.next_buffer ≤ℤ (after_operation c m).stage.next_buffer
next_rises (buffer_made listed) m = omega (arith, ints)
next_rises (spliced k s) m = let e = (splice_alike k s (at_handle m.buffers k) m.stage).buffer in subst (λ (n : ℤ). m.stage.next_buffer ≤ℤ n) (sym e) (omega (arith, ints))
next_rises (spliced_back k s) m = let e = (splice_alike k s (at_handle m.buffers k) m.stage).buffer in subst (λ (n : ℤ). m.stage.next_buffer ≤ℤ n) (sym e) (omega (arith, ints))
next_rises (ui_put ui) m = let e = (uis_alike _ m.stage).buffer in subst (λ (n : ℤ). m.stage.next_buffer ≤ℤ n) (sym e) (omega (arith, ints))
next_rises (uis_dropped sessions) m = let e = (uis_alike _ m.stage).buffer in subst (λ (n : ℤ). m.stage.next_buffer ≤ℤ n) (sym e) (omega (arith, ints))
next_rises _ m = omega (arith, ints)

none_updated : (k n : ℤ) (f : ModelBuffer → ModelBuffer) (es : List (ℤ × ModelBuffer)) → at_handle es n ≡ None
    → at_handle (updated_at k f es) n ≡ None
none_updated k n f es none =
    at_updated k n f es ∙ ap (λ (o : Option ModelBuffer). cond (int_eq k n) (option_map f o) o) none ∙ either_none (int_eq k n)
  where
    either_none : (t : Bool) → cond t (option_map f None) None ≡ None
    either_none true = refl
    either_none false = refl

gone_once : (c : Operation) (m : ModelEditor) (n : ℤ) → n <ℤ m.stage.next_buffer → at_handle m.buffers n ≡ None
    → at_handle (after_operation c m).buffers n ≡ None
gone_once (spliced k s) m n low none = none_updated k n _ m.buffers none
gone_once (spliced_back k s) m n low none = none_updated k n _ m.buffers none
gone_once (stepped k leg) m n low none = none_updated k n _ m.buffers none
gone_once (sealed_in k) m n low none = none_updated k n _ m.buffers none
gone_once (mark_set k mark) m n low none = none_updated k n _ m.buffers none
gone_once (mark_removed k ns id) m n low none = none_updated k n _ m.buffers none
gone_once (name_put k name) m n low none = none_updated k n _ m.buffers none
gone_once (modifiable_put k on) m n low none = none_updated k n _ m.buffers none
gone_once (modified_put k on) m n low none = none_updated k n _ m.buffers none
gone_once (listed_put k on) m n low none = none_updated k n _ m.buffers none
gone_once (tabstop_put k cells) m n low none = none_updated k n _ m.buffers none
gone_once (buffer_made listed) m n low none =
    let new : List (ℤ × ModelBuffer) = (m.stage.next_buffer, fresh_buffer listed) ∷ [] in
    let apart : int_eq m.stage.next_buffer n ≡ false = grind (arith, ints) in
    at_append n m.buffers new ∙ ap (λ (o : Option ModelBuffer). option_or o (at_handle new n)) none ∙ rw apart refl
gone_once (buffer_dropped k) m n low none =
    at_dropped k n m.buffers ∙ ap (λ (o : Option ModelBuffer). cond (int_eq k n) None o) none ∙ either_none (int_eq k n)
  where
    either_none : (t : Bool) → ◌≡◌ {A = Option ModelBuffer} (cond t None None) None
    either_none true = refl
    either_none false = refl
gone_once _ m n low none = none

gone_stays : (cs : List Operation) (m : ModelEditor) (n : ℤ) → n <ℤ m.stage.next_buffer → at_handle m.buffers n ≡ None
    → at_handle (after_operations cs m).buffers n ≡ None
gone_stays [] m n low none = none
gone_stays (c ∷ cs) m n low none =
    let grows = next_rises c m in
    gone_stays cs (after_operation c m) n (omega (arith, ints)) (gone_once c m n low none)

-- a live buffer that an operation deletes isn't there afterwards
pub gone_for_good : (n : ℤ) (c : Operation) (cs : List Operation) (m : ModelEditor) (b d : ModelBuffer) → IsNumbered m → at_handle m.buffers n ≡ Some b
    → at_handle (after_operation c m).buffers n ≡ None → at_handle (after_operations cs (after_operation c m)).buffers n ≡ Some d → ⊥
gone_for_good n c cs m b d is was none now =
    let low : n <ℤ m.stage.next_buffer = live_below m.stage.next_buffer n m.buffers b is.buffers was in
    let grows = next_rises c m in
    none-some d (sym (gone_stays cs (after_operation c m) n (omega (arith, ints)) none) ∙ now)

pub operations_append : (cs ds : List Operation) (m : ModelEditor) → after_operations (cs ++ ds) m ≡ after_operations ds (after_operations cs m)
operations_append [] ds m = refl
operations_append (c ∷ cs) ds m = operations_append cs ds (after_operation c m)
