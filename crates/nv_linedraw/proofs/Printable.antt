-- What holds of all of a list, by its parts.
use Rattle.std.proofs.Common.{◌≡◌, ℕ, zero, suc, ◌+◌, ◌≤◌, List, [], ◌∷◌, take, drop, Bool, true, ◌&&◌, refl, subst, arith}
use Rattle.std.proofs.lemmas.Bool.{and_parts}
use Rattle.std.specs.List.{list_all}

-- a front, and the elements behind it
pub all_more : (p : ℕ → Bool) (xs : List ℕ) (at n : ℕ) → list_all p (take at xs) ≡ true → list_all p (take n (drop at xs)) ≡ true
    → list_all p (take (at + n) xs) ≡ true
all_more p xs zero n front back = let same : n ≡ 0 + n = omega arith in subst (λ (k : ℕ). list_all p (take k xs) ≡ true) same back
all_more p [] (suc at) n front back =
    let same : suc (at + n) ≡ suc at + n = omega arith in subst (λ (k : ℕ). list_all p (take k []) ≡ true) same refl
all_more p (x ∷ xs) (suc at) n front back =
    let same : suc (at + n) ≡ suc at + n = omega arith in
    let parts = and_parts (p x) (list_all p (take at xs)) front in
    let rest = all_more p xs at n parts.1 back in
    subst (λ (k : ℕ). list_all p (take k (x ∷ xs)) ≡ true) same (λ i. parts.0 i && rest i)

-- a front, and what reaches into it from the end
pub all_parts : (p : ℕ → Bool) (xs : List ℕ) (at end : ℕ) → end ≤ at → list_all p (take at xs) ≡ true → list_all p (drop end xs) ≡ true
    → list_all p xs ≡ true
all_parts p xs at zero le front back = back
all_parts p [] at (suc end) le front back = refl
all_parts p (x ∷ xs) zero (suc end) le front back = absurd (omega (arith, le))
all_parts p (x ∷ xs) (suc at) (suc end) le front back =
    let parts = and_parts (p x) (list_all p (take at xs)) front in
    let rest = all_parts p xs at end (omega (arith, le)) parts.1 back in
    λ i. parts.0 i && rest i
