-- Lemmas on bytes that are given out in pieces.
use Rattle.std.proofs.Common.{◌≡◌, ℕ, ◌+◌, ◌≤◌, ◌↔◌, leb, List, [], length, take, drop, refl, ap, arith, IsTrue, length-drop}
use Rattle.std.proofs.lemmas.List.{drop-drop}
use Rattle.std.proofs.lemmas.Bool.{leb-true, le-leb}
use Rattle.std.proofs.Math.ListN.{drop_of_length-le}
use Rattle.std.proofs.Math.Seq.{take-add}
use Rattle.nv_io.specs.Memory.{Cutting, after_piece, next_turn}

-- nothing is left exactly at or past the end
pub drop-nil_iff : (xs : List ℕ) (at len : ℕ) → len ≡ length xs → IsTrue (leb len at) ↔ (drop at xs ≡ [])
drop-nil_iff xs at len e = (
  λ h. drop_of_length-le xs (let p : len ≤ at = leb-true len at h in omega arith),
  λ h. let none : length (drop at xs) ≡ 0 = ap length h in let p : len ≤ at = omega (arith, length-drop at xs) in le-leb len at p,
)

-- a piece moves on from what is left to what was taken
pub after_piece_is : (xs cuts : List ℕ) (at n turn count : ℕ) → count ≡ length cuts
    → (let start : Cutting = record { taken = take at xs; left = drop at xs; cuts = cuts; turn = turn } in
    record { taken = take (at + n) xs; left = drop (at + n) xs; cuts = cuts; turn = next_turn count turn } ≡ after_piece start n)
after_piece_is xs cuts at n turn count e =
    rw (take-add at n xs, ← drop-drop n at xs, e) refl
