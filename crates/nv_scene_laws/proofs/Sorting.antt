-- Marks can be put in the order in which they are laid over one another.
use Rattle.std.proofs.Common.{◌≡◌, ℕ, zero, suc, ◌+◌, Bool, true, false, cond, List, [], ◌∷◌, get_or, refl, subst, arith}
use Rattle.std.specs.Prelude.{IsPermutation, IsSorted}
use Rattle.std.specs.Ordering.{is_lt}
use Rattle.std.proofs.lemmas.Bool.Decides.{nat_tests}
use Rattle.std.proofs.lemmas.List.Sorted.{IsPermutation-cons, IsPermutation-middle, IsPermutation-refl, IsPermutation-sym, IsPermutation-trans}
use Rattle.nv_marks.specs.declared.extmark.Mark.{Mark}
use Rattle.nv_scene.specs.Panes.{paint_order}

-- the first is laid before the second
abbrev is_below : Mark → Mark → Bool
is_below m k = is_lt (paint_order m k)

abbrev Rises : List Mark → Type 0
Rises [] = Unit {0}
Rises (m ∷ []) = Unit {0}
Rises (m ∷ (k ∷ ks)) = (is_below k m ≡ false) × Rises (k ∷ ks)

rises_sorted : (ms : List Mark) → Rises ms → IsSorted paint_order ms
rises_sorted [] up k d low within = absurd (omega arith)
rises_sorted (m ∷ []) up k d low within = absurd (omega arith)
rises_sorted (m ∷ (n ∷ ns)) up zero d low within = up.0
rises_sorted (m ∷ (n ∷ ns)) up (suc k) d low within =
    let next : suc (k + 1) ≡ suc k + 1 = omega arith in
    subst (λ (i : ℕ). is_below (get_or (m ∷ n ∷ ns) i d) (get_or (n ∷ ns) k d) ≡ false) next (rises_sorted (n ∷ ns) up.1 k d (omega arith) (omega arith))

-- a mark among others, before the first that isn't laid before it
abbrev pub with_mark : Mark → List Mark → List Mark
with_mark m [] = m ∷ []
with_mark m (k ∷ ks) = cond (is_below k m) (k ∷ with_mark m ks) (m ∷ k ∷ ks)

other_way : (m k : Mark) → is_below k m ≡ true → is_below m k ≡ false
other_way m k is = grind (arith, nat_tests)

rises_on : (j m : Mark) (ks : List Mark) → is_below m j ≡ false → Rises (j ∷ ks) → Rises (with_mark m ks) → Rises (j ∷ with_mark m ks)
rises_on j m [] after up more = (after, tt)
rises_on j m (k ∷ ks) after up more = by (is_below k m) more
  where
    by : (b : Bool) → Rises (cond b (k ∷ with_mark m ks) (m ∷ k ∷ ks)) → Rises (j ∷ cond b (k ∷ with_mark m ks) (m ∷ k ∷ ks))
    by true rest = (up.0, rest)
    by false rest = (after, rest)

rises_tail : (k : Mark) (ks : List Mark) → Rises (k ∷ ks) → Rises ks
rises_tail k [] up = tt
rises_tail k (j ∷ js) up = up.1

rises_with : (m : Mark) (ks : List Mark) → Rises ks → Rises (with_mark m ks)
rises_with m [] up = tt
rises_with m (k ∷ ks) up = by (rises_with m ks (rises_tail k ks up)) (is_below k m) refl
  where
    by : Rises (with_mark m ks) → (b : Bool) → is_below k m ≡ b → Rises (cond b (k ∷ with_mark m ks) (m ∷ k ∷ ks))
    by more true is = rises_on k m ks (other_way m k is) up more
    by more false is = (is, up)

moves_with : (m : Mark) (ks : List Mark) → IsPermutation (m ∷ ks) (with_mark m ks)
moves_with m [] = IsPermutation-refl (m ∷ [])
moves_with m (k ∷ ks) = by (moves_with m ks) (is_below k m)
  where
    by : IsPermutation (m ∷ ks) (with_mark m ks) → (b : Bool) → IsPermutation (m ∷ k ∷ ks) (cond b (k ∷ with_mark m ks) (m ∷ k ∷ ks))
    by more true =
        IsPermutation-trans (m ∷ k ∷ ks) (k ∷ m ∷ ks) (k ∷ with_mark m ks)
        (IsPermutation-sym (k ∷ m ∷ ks) (m ∷ k ∷ ks) (IsPermutation-middle (k ∷ []) m ks))
        (IsPermutation-cons k (m ∷ ks) (with_mark m ks) more)
    by more false = IsPermutation-refl (m ∷ k ∷ ks)

abbrev pub in_paint_order : List Mark → List Mark
in_paint_order [] = []
in_paint_order (m ∷ ms) = with_mark m (in_paint_order ms)

rises_all : (ms : List Mark) → Rises (in_paint_order ms)
rises_all [] = tt
rises_all (m ∷ ms) = rises_with m (in_paint_order ms) (rises_all ms)

pub order_rises : (ms : List Mark) → IsSorted paint_order (in_paint_order ms)
order_rises ms = rises_sorted (in_paint_order ms) (rises_all ms)

pub order_moves : (ms : List Mark) → IsPermutation ms (in_paint_order ms)
order_moves [] = IsPermutation-refl []
order_moves (m ∷ ms) =
    IsPermutation-trans (m ∷ ms) (m ∷ in_paint_order ms) (with_mark m (in_paint_order ms))
    (IsPermutation-cons m ms (in_paint_order ms) (order_moves ms))
    (moves_with m (in_paint_order ms))
