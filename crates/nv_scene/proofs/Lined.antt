-- A line at a row, and numbers of a window.
use Rattle.std.proofs.Common.{◌≡◌, ℕ, zero, suc, ℤ, pos, negsuc, ◌+◌, ◌-◌, ◌^◌, ◌<◌, ◌≤ℤ◌, List, [], ◌∷◌, min, Some, refl, arith}
use Rattle.std.specs.Prelude.{nat_abs, slice_get}
use Rattle.std.proofs.lemmas.Bool.Decides.{nat_tests}
use Rattle.std.proofs.lemmas.Int.{ints}
use Rattle.nv_places.specs.Flat.{line_at}

pub got_line : (lines : List (List ℕ)) (row : ℕ) (line : List ℕ) → Some line ≡ slice_get lines row → line ≡ line_at lines row
got_line [] row line e = cc
got_line (l ∷ ls) zero line e = cc
got_line (l ∷ ls) (suc row) line e = got_line ls row line e

-- a changedtick is no negative number
pub tick_is : (t : ℤ) (n : ℕ) → pos n ≤ℤ t → t ≡ pos (nat_abs t)
tick_is (pos m) n h = refl
tick_is (negsuc m) n h = absurd (omega (arith, ints, h))

-- how many lines are shown
pub lines_shown : (top height count most : ℕ) → top < count → count < 2 ^ 32 → most ≡ min (min (top + height) 4294967295) count
    → most - top ≡ min height (count - top)
lines_shown top height count most within narrow is = grind (arith, nat_tests)
