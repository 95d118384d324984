-- A strip of cells shows where it lies.
use Rattle.std.proofs.Common.{◌≡◌, ◌≢◌, ℕ, suc, ◌+◌, ◌-◌, ◌<◌, ◌≤◌, true, false, cond, ◌&&◌, nat_le, nat_lt, List, [], ◌∷◌, length, get_or, set, sym, ap, subst, ◌∙◌, arith, ⊎_elim}
use Rattle.std.proofs.lemmas.Bool.{cases_eq, cases_lt, eq-eqb, ne_eqb}
use Rattle.std.proofs.lemmas.Bool.Decides.{nat_tests}
use Rattle.std.proofs.lemmas.List.{get_or-set_same, get_or-set_other, length-set}
use Rattle.nv_hl.specs.declared.cell.Cell.{Cell}
use Rattle.nv_hl.specs.Cells.{with_cells}
use Rattle.nv_screen.specs.Laws.{StripsShow, cell_over}

-- where the cells lie
pub inside : (col : ℕ) (cs : List Cell) (at : ℕ) (under : Cell) → col ≤ at → at < col + length cs → cell_over col cs at under ≡ get_or cs (at - col) under
inside col cs at under le lt =
    let yes : (nat_le col at && nat_lt at (col + length cs)) ≡ true = grind (arith, nat_tests) in
    ap (λ b. cond b (get_or cs (at - col) under) under) yes

pub before : (col : ℕ) (cs : List Cell) (at : ℕ) (under : Cell) → at < col → cell_over col cs at under ≡ under
before col cs at under lt =
    let no : (nat_le col at && nat_lt at (col + length cs)) ≡ false = grind (arith, nat_tests) in
    ap (λ b. cond b (get_or cs (at - col) under) under) no

pub behind : (col : ℕ) (cs : List Cell) (at : ℕ) (under : Cell) → col + length cs ≤ at → cell_over col cs at under ≡ under
behind col cs at under le =
    let no : (nat_le col at && nat_lt at (col + length cs)) ≡ false = grind (arith, nat_tests) in
    ap (λ b. cond b (get_or cs (at - col) under) under) no

-- one cell more in front
cons_over : (col : ℕ) (x : Cell) (xs : List Cell) (at : ℕ) (under : Cell) → col < at
    → cell_over (col + 1) xs at under ≡ cell_over col (x ∷ xs) at under
cons_over col x xs at under lt =
    let next : at - col ≡ suc (at - (col + 1)) = omega arith in
    ⊎_elim
    (λ (within : at < col + 1 + length xs).
    inside (col + 1) xs at under (omega (arith, lt)) within
    ∙ ap (λ k. get_or (x ∷ xs) k under) (sym next)
    ∙ sym (inside col (x ∷ xs) at under (omega (arith, lt)) (omega (arith, within))))
    (λ (out : col + 1 + length xs ≤ at).
    behind (col + 1) xs at under out ∙ sym (behind col (x ∷ xs) at under (omega (arith, out))))
    (cases_lt at (col + 1 + length xs))

row_shows : (row : List Cell) (col : ℕ) (cs : List Cell) (at : ℕ) (none : Cell) → at < length row
    → get_or (with_cells row col cs) at none ≡ cell_over col cs at (get_or row at none)
row_shows row col [] at none lt =
    ⊎_elim (λ (lo : at < col). sym (before col [] at (get_or row at none) lo))
    (λ (hi : col ≤ at). sym (behind col [] at (get_or row at none) (omega (arith, hi)))) (cases_lt at col)
row_shows row col (x ∷ xs) at none lt =
    let under = get_or row at none in
    let rest = row_shows (set row col x) (col + 1) xs at none (omega (arith, lt, length-set row col x)) in
    ⊎_elim
    (λ (lo : at < col).
    let other : at ≢ col = λ e. absurd (omega (arith, lo, e)) in
    rest ∙ before (col + 1) xs at _ (omega (arith, lo)) ∙ get_or-set_other row col at x none other
    ∙ sym (before col (x ∷ xs) at under lo))
    (λ (hi : col ≤ at).
    ⊎_elim
    (λ (far : col < at).
    let other : at ≢ col = λ e. absurd (omega (arith, far, e)) in
    rest ∙ ap (cell_over (col + 1) xs at) (get_or-set_other row col at x none other) ∙ cons_over col x xs at under far)
    (λ (near : at ≤ col).
    let same : at ≡ col = omega (arith, hi, near) in
    let first : at - col ≡ 0 = omega (arith, same) in
    rest ∙ before (col + 1) xs at _ (omega (arith, near))
    ∙ (λ i. get_or (set row (sym same i) x) at none) ∙ get_or-set_same row at x none lt
    ∙ ap (λ k. get_or (x ∷ xs) k under) (sym first)
    ∙ sym (inside col (x ∷ xs) at under hi (omega (arith, near))))
    (cases_lt col at))
    (cases_lt at col)

pub strips_show : StripsShow
strips_show rows row col cs r c none high wide =
    let old = get_or (get_or rows r []) c none in
    let new = with_cells (get_or rows row []) col cs in
    ⊎_elim
    (λ (same : row ≡ r).
    (λ i. get_or (get_or (set rows row new) (sym same i) []) c none)
    ∙ ap (λ t. get_or t c none) (get_or-set_same rows row new [] (omega (arith, high, same)))
    ∙ row_shows (get_or rows row []) col cs c none (subst (λ k. c < length (get_or rows k [])) (sym same) wide)
    ∙ (λ i. cell_over col cs c (get_or (get_or rows (same i) []) c none))
    ∙ sym (ap (λ b. cond b (cell_over col cs c old) old) (eq-eqb row r same)))
    (λ (apart : row ≢ r).
    ap (λ t. get_or t c none) (get_or-set_other rows row r new [] (λ e. apart (sym e)))
    ∙ sym (ap (λ b. cond b (cell_over col cs c old) old) (ne_eqb row r apart)))
    (cases_eq row r)
