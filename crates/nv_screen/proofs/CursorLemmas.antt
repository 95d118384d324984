-- Lemmas on the cell of the cursor.
use Rattle.std.proofs.Common.{◌≡◌, ◌<◌, ◌≤◌, ◌+◌, ℕ, zero, suc, ◌-◌, ◌/◌, ◌%◌, min, List, [], ◌∷◌, length, take, get_or, refl, sym, ap, ◌∙◌, arith, ⊎_elim}
use Rattle.std.proofs.lemmas.Bool.{cases_lt}
use Rattle.std.proofs.lemmas.List.{take_all}
use Rattle.nv_linedraw.specs.LineCells.{cell_of_byte}
use Rattle.nv_screen.specs.declared.scene.Pane.{Pane}
use Rattle.nv_screen.specs.declared.scene.Spot.{Spot}
use Rattle.nv_screen.specs.declared.scene.SceneLine.{SceneLine}
use Rattle.nv_screen.specs.Cursor.{bytes_at, cursor_in_pane, rows_together}

pub bytes_there : (lines : List SceneLine) (k : ℕ) (d : SceneLine) → k < length lines → (get_or lines k d).bytes ≡ bytes_at lines k
bytes_there [] k d lt = absurd (omega (arith, lt))
bytes_there (l ∷ ls) zero d lt = refl
bytes_there (l ∷ ls) (suc k) d lt = bytes_there ls k d (omega (arith, lt))

pub bytes_past : (lines : List SceneLine) (k : ℕ) → length lines ≤ k → [] ≡ bytes_at lines k
bytes_past [] k le = refl
bytes_past (l ∷ ls) zero le = absurd (omega (arith, le))
bytes_past (l ∷ ls) (suc k) le = bytes_past ls k (omega (arith, le))

take_least : (n : ℕ) (xs : List SceneLine) → take (min n (length xs)) xs ≡ take n xs
take_least n xs =
    ⊎_elim
    (λ (lt : n < length xs). let is : min n (length xs) ≡ n = omega (arith, lt) in ap (λ k. take k xs) is)
    (λ (le : length xs ≤ n). take_all (min n (length xs)) xs (omega (arith, le)) ∙ sym (take_all n xs le))
    (cases_lt n (length xs))

pub cursor_is : (p : Pane) (cursor : Spot) (above row col sum : ℕ) (front : List SceneLine) (bytes : List ℕ)
    → front ≡ take (min (cursor.row - p.top) (length p.lines.items)) p.lines.items
    → bytes ≡ bytes_at p.lines.items (cursor.row - p.top)
    → above ≡ min p.rect.height (rows_together p.rect.width p.tabstop front)
    → row ≡ min p.rect.height (cell_of_byte p.rect.width p.tabstop bytes cursor.byte / p.rect.width)
    → col ≡ cell_of_byte p.rect.width p.tabstop bytes cursor.byte % p.rect.width
    → sum ≡ min (above + row) (p.rect.height - 1)
    → ◌≡◌ {A = ℕ × ℕ} (p.rect.row + sum, p.rect.col + col) (cursor_in_pane p cursor)
cursor_is p cursor above row col sum front bytes front_is bytes_is above_is row_is col_is sum_is =
    let w = p.rect.width in
    let n = cursor.row - p.top in
    let front_all : front ≡ take n p.lines.items = front_is ∙ take_least n p.lines.items in
    let cell = cell_of_byte w p.tabstop (bytes_at p.lines.items n) cursor.byte in
    let rows : above ≡ min p.rect.height (rows_together w p.tabstop (take n p.lines.items)) =
    above_is ∙ ap (λ ls. min p.rect.height (rows_together w p.tabstop ls)) front_all in
    let line : row ≡ min p.rect.height (cell / w) =
    row_is ∙ ap (λ b. min p.rect.height (cell_of_byte w p.tabstop b cursor.byte / w)) bytes_is in
    let total : sum ≡ min (p.rect.height - 1) (rows_together w p.tabstop (take n p.lines.items) + cell / w) =
    omega (arith, sum_is, rows, line) in
    let at : col ≡ cell % w = col_is ∙ ap (λ b. cell_of_byte w p.tabstop b cursor.byte % w) bytes_is in
    λ i. (p.rect.row + total i, p.rect.col + at i)
