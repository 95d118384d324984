-- Entries of which those at the front were taken out.
use Rattle.std.proofs.Common.{◌≡◌, ℕ, ◌-◌, ◌≤◌, List, ◌++◌, length, take, drop, sym, ap, ◌∙◌, arith}
use Rattle.std.proofs.lemmas.List.{length-drop, take-append-le, take_all}
use Rattle.nv_core.specs.declared.entry.Entry.{Entry}

-- a list that was turned, without what came to its end
pub turned_front : (len count : ℕ) (items : List Entry) → len ≡ length items → count ≤ len → take (len - count) (drop count items ++ take count items) ≡ drop count items
turned_front len count items long within =
    let left : length (drop count items) ≡ len - count = length-drop count items ∙ ap (λ (n : ℕ). n - count) (sym long) in
    take-append-le (len - count) (drop count items) (take count items) (omega (arith, left)) ∙ take_all (len - count) (drop count items) (omega (arith, left))
