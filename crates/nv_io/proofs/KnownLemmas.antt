-- Lemmas on known bytes that grow.
use Rattle.std.proofs.Common.{◌≡◌, ℕ, ◌+◌, ◌-◌, List, ◌++◌, length, take, drop, refl, sym, ap, ◌∙◌, append_assoc, Some, None}
use Rattle.std.proofs.lemmas.List.{take_rest}
use Rattle.std.proofs.Math.Seq.{take-add}
use Rattle.std.specs.declared.option.Option.{Option}
use Rattle.std.specs.Io.KnownBytes.{append_known}

-- to append twice is to append both
pub append_known-append_known : (known : Option (List ℕ)) (xs ys : List ℕ) → append_known (append_known known xs) ys ≡ append_known known (xs ++ ys)
append_known-append_known None xs ys = refl
append_known-append_known (Some known) xs ys = ap (λ (l : List ℕ). Some l) (append_assoc known xs ys)

-- what was taken up to a place, and then more of what follows it
pub goes_on : (before now after : Option (List ℕ)) (bytes : List ℕ) (done n : ℕ) → now ≡ append_known before (take done bytes)
    → after ≡ append_known now (take n (take (length bytes - done) (drop done bytes))) → after ≡ append_known before (take (done + n) bytes)
goes_on before now after bytes done n p q =
    let more : List ℕ = take n (take (length bytes - done) (drop done bytes)) in
    let joined : take done bytes ++ more ≡ take (done + n) bytes =
    ap (λ rest. take done bytes ++ take n rest) (take_rest bytes done) ∙ sym (take-add done n bytes) in
    q ∙ ap (λ known. append_known known more) p ∙ append_known-append_known before (take done bytes) more ∙ ap (λ xs. append_known before xs) joined
