-- Lemmas on places of which what lies outside the window isn't looked at.
use Rattle.std.proofs.Common.{◌≡◌, ◌<◌, ◌≤◌, ◌+◌, ◌-◌, ◌*◌, ◌/◌, ◌%◌, ℕ, zero, suc, Bool, true, false, cond, ◌==◌, ◌&&◌, nat_lt, min, Option, None, Some, List, ◌⊎◌, inl, inr, length, refl, sym, ap, ◌∙◌, arith, ⊎_elim, unwrap_or}
use Rattle.std.proofs.Math.Nat.{div-add-mod', zero-div}
use Rattle.std.proofs.lemmas.Bool.{cases_lt, true≢false}
use Rattle.std.proofs.lemmas.Bool.Decides.{nat_tests}
use Rattle.std.proofs.lemmas.Option.{none-some, same_Some}
use Rattle.nv_virt.specs.Texts.{eol_place, line_tail}
use Rattle.nv_virt.specs.inside.Capped.{IsPlaceNear, capped_by}

-- a place that is exact, but for its row up to the greatest one
pub comes_to : (most width row col n m : ℕ) → row ≡ min most n → col ≡ m → IsPlaceNear most width (row, col) (n, m)
comes_to most width row col n m row_is col_is = record { row = row_is; col = λ below. ap (min width) col_is }

-- ---- the end of a line, by the number of its cells

test : (b : Bool) → (b ≡ true) ⊎ (b ≡ false)
test true = inl refl
test false = inr refl

tail_by : (b : Bool) (w n : ℕ) → ((n % w == 0) && nat_lt 0 n) ≡ b → line_tail w n ≡ cond b (n / w - 1, w) (n / w, n % w)
tail_by b w n is = ap (λ t. cond t (n / w - 1, w) (n / w, n % w)) is

some_rows : (w n q r : ℕ) → n ≡ q * w + r → r ≡ 0 → 0 < n → 0 < q
some_rows w n zero r is none some = absurd (omega (arith, is, none, some))
some_rows w n (suc q) r is none some = omega arith

some_before : (w n : ℕ) → 0 < n / w → 0 < n
some_before w zero lt = absurd (omega (arith, lt, zero-div w))
some_before w (suc n) lt = omega arith

-- rows from the greatest one on count as that
past_rows : (most w n : ℕ) → most + 1 ≤ n / w → min most (line_tail w n).0 ≡ most
past_rows most w n past =
    ⊎_elim
    (λ (yes : ((n % w == 0) && nat_lt 0 n) ≡ true). omega (arith, past, ap (λ p. p.0) (tail_by true w n yes)))
    (λ (no : ((n % w == 0) && nat_lt 0 n) ≡ false). omega (arith, past, ap (λ p. p.0) (tail_by false w n no)))
    (test ((n % w == 0) && nat_lt 0 n))

module _ (most w row col n : ℕ) (row_is : row ≡ min (most + 1) (n / w)) (col_is : row < most + 1 → col ≡ n % w) where
  -- the next cell begins a row behind the first
  pub full_tail : ((col == 0) && nat_lt 0 row) ≡ true → IsPlaceNear most w (row - 1, w) (line_tail w n)
  full_tail begins =
      let first : col ≡ 0 = grind (arith, nat_tests, begins) in
      let behind : 0 < row = grind (arith, nat_tests, begins) in
      ⊎_elim
      (λ (below : row < most + 1).
      let none : n % w ≡ 0 = sym (col_is below) ∙ first in
      let some : 0 < n = some_before w n (omega (arith, row_is, behind)) in
      let yes : ((n % w == 0) && nat_lt 0 n) ≡ true = grind (arith, nat_tests, none, some) in
      let is = tail_by true w n yes in
      record {
        row = omega (arith, row_is, below, ap (λ p. p.0) is);
        col = λ lt. ap (min w) (sym (ap (λ p. p.1) is));
      })
      (λ (past : most + 1 ≤ row).
      record {
        row = omega (arith, row_is, past, past_rows most w n (omega (arith, row_is, past)));
        col = λ lt. absurd (omega (arith, lt, past));
      })
      (cases_lt row (most + 1))

  -- it doesn't
  pub part_tail : ((col == 0) && nat_lt 0 row) ≡ false → IsPlaceNear most w (min row most, col) (line_tail w n)
  part_tail stays =
      ⊎_elim
      (λ (below : row < most + 1).
      let exact : col ≡ n % w = col_is below in
      ⊎_elim
      (λ (yes : ((n % w == 0) && nat_lt 0 n) ≡ true).
      let none : n % w ≡ 0 = grind (arith, nat_tests, yes) in
      let some : 0 < n = grind (arith, nat_tests, yes) in
      let more : 0 < n / w = some_rows w n (n / w) (n % w) (sym (div-add-mod' n w)) none some in
      let begins : ((col == 0) && nat_lt 0 row) ≡ true = begins_too (exact ∙ none) (omega (arith, row_is, below, more)) in
      absurd (true≢false (sym begins ∙ stays)))
      (λ (no : ((n % w == 0) && nat_lt 0 n) ≡ false).
      let is = tail_by false w n no in
      record {
        row = omega (arith, row_is, below, ap (λ p. p.0) is);
        col = λ lt. ap (min w) (exact ∙ sym (ap (λ p. p.1) is));
      })
      (test ((n % w == 0) && nat_lt 0 n)))
      (λ (past : most + 1 ≤ row).
      record {
        row = omega (arith, row_is, past, past_rows most w n (omega (arith, row_is, past)));
        col = λ lt. absurd (omega (arith, lt, past));
      })
      (cases_lt row (most + 1))
    where
      begins_too : col ≡ 0 → 0 < row → ((col == 0) && nat_lt 0 row) ≡ true
      begins_too first behind = grind (arith, nat_tests, first, behind)

-- ---- behind a line, or the text before

next_col : (w : ℕ) (place tail : ℕ × ℕ) (before ends : Option ℕ) → before ≡ capped_by w ends → min w place.1 ≡ min w tail.1
    → min w (unwrap_or before place.1 + 1) ≡ min w (unwrap_or ends tail.1 + 1)
next_col w place tail None None is same = omega (arith, same)
next_col w place tail (Some b) None is same = absurd (none-some b (sym is))
next_col w place tail None (Some e) is same = absurd (none-some (min w e) is)
next_col w place tail (Some b) (Some e) is same =
    let one : b ≡ min w e = same_Some b (min w e) is in
    omega (arith, one)

pub eol_comes : (most w : ℕ) (place tail : ℕ × ℕ) (before ends : Option ℕ) (col : ℕ) → (tail.0 < most → before ≡ capped_by w ends)
    → IsPlaceNear most w place tail → min w col ≡ min w (unwrap_or before place.1 + 1) → IsPlaceNear most w (place.0, col) (eol_place tail ends)
eol_comes most w place tail before ends col is at next = record {
  row = at.row;
  col = λ below. next ∙ next_col w place tail before ends (is (omega (arith, below, at.row))) (at.col below);
}
