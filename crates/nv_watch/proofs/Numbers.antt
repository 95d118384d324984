-- Numbers by their places.
use Rattle.std.proofs.Common.{◌≡◌, ◌≢◌, refl, ap, sym, ◌∙◌, ℕ, zero, suc, ◌+◌, ◌<◌, Bool, true, false, List, [], ◌∷◌, ◌++◌, length, slice_set, arith}
use Rattle.std.specs.Prelude.{◌==◌}
use Rattle.std.proofs.lemmas.Bool.Decides.{nat_tests}
use Rattle.std.proofs.lemmas.List.{get_or-set_same, get_or-set_other}
use Rattle.nv_watch.specs.inside.Counts.{number_kept, added_for}

pub zero_behind : (xs : List ℕ) (s : ℕ) → number_kept (xs ++ 0 ∷ []) s ≡ number_kept xs s
zero_behind [] zero = refl
zero_behind [] (suc s) = refl
zero_behind (x ∷ xs) zero = refl
zero_behind (x ∷ xs) (suc s) = zero_behind xs s

pub added_at : (xs : List ℕ) (place more sum s : ℕ) → place < length xs → sum ≡ number_kept xs place + more
    → number_kept (slice_set xs place sum) s ≡ added_for place more s + number_kept xs s
added_at xs place more sum s within sum_is = by_place (place == s) refl
  where
    by_place : (t : Bool) → (place == s) ≡ t → number_kept (slice_set xs place sum) s ≡ added_for place more s + number_kept xs s
    by_place true t =
        let e : place ≡ s = grind (arith, nat_tests) in
        rw t (ap (λ (j : ℕ). number_kept (slice_set xs place sum) j) (sym e) ∙ get_or-set_same xs place sum 0 within
        ∙ omega (arith, sum_is, ap (λ (j : ℕ). number_kept xs j) e))
    by_place false t =
        let apart : s ≢ place = λ (e : s ≡ place). grind (arith, nat_tests) in
        rw t (let e = get_or-set_other xs place s sum 0 apart in omega (arith, e))
