-- Lemmas on counting rows.
use Rattle.std.proofs.Common.{◌≡◌, ◌<◌, ◌≤◌, ◌*◌, ◌/◌, min, ℕ, List, length, take, ap, ◌∙◌, arith, ⊎_elim}
use Rattle.std.proofs.Math.Nat.{mul-div_cancel, le-div_iff_mul-le, div-lt_iff_lt-mul}
use Rattle.std.proofs.lemmas.Bool.{cases_lt}
use Rattle.std.proofs.lemmas.List.{length-take-le, take_all}

-- the whole rows among the first cells
pub rows_among : {X : Type 0} (w most : ℕ) (xs cs : List X) → 0 < w → xs ≡ take (most * w) cs → length xs / w ≡ min most (length cs / w)
rows_among w most xs cs wide is =
    ⊎_elim
    (λ (few : length cs < most * w).
    let all : length xs ≡ length cs = ap length (is ∙ take_all (most * w) cs (omega (arith, few))) in
    let below : length cs / w < most = (div-lt_iff_lt-mul wide).1 few in
    ap (λ n. n / w) all ∙ omega (arith, below))
    (λ (many : most * w ≤ length cs).
    let some : length xs ≡ most * w = ap length is ∙ length-take-le (most * w) cs many in
    let below : most ≤ length cs / w = (le-div_iff_mul-le wide).1 many in
    ap (λ n. n / w) some ∙ mul-div_cancel most wide ∙ omega (arith, below))
    (cases_lt (length cs) (most * w))
