-- Lemmas on rows that are laid one below another.
use Rattle.std.proofs.Common.{◌≡◌, ◌<◌, ◌≤◌, ◌+◌, ◌-◌, ℕ, zero, suc, List, [], ◌∷◌, ◌++◌, length, take, drop, replicate, get_or, set, map, refl, sym, ap, ◌∙◌, arith}
use Rattle.std.proofs.Math.Seq.{drop-append_seam}
use Rattle.std.proofs.lemmas.List.{set_past, set-get_or, take_all, take_at, append-nil, drop_all}
use Rattle.std.specs.List.{AllByRecursion}
use Rattle.nv_hl.specs.declared.cell.Cell.{Cell}
use Rattle.nv_hl.specs.Cells.{IsSized, Screen, space, with_cells, with_strip}
use Rattle.nv_hl.proofs.CellLemmas.{cells_past}
use Rattle.nv_screen.specs.Drawing.{last_as_space, rows_of_cells, with_rows}
use Rattle.nv_screen.specs.inside.Laying.{cells_behind}

-- ---- what lies outside

pub strip_below : (s : Screen) (row col : ℕ) (cs : List Cell) → length s.rows ≤ row
    → s ≡ record s { rows = with_strip s.rows row col cs }
strip_below s row col cs le = λ i. record s { rows = sym (set_past s.rows row (with_cells (get_or s.rows row []) col cs) le) i }

wide_at : (w : ℕ) (rows : List (List Cell)) (k : ℕ) → AllByRecursion (λ x. length x ≡ w) rows → length (get_or rows k []) ≤ w
wide_at w [] k all = omega arith
wide_at w (x ∷ xs) zero all = omega (arith, all.0)
wide_at w (x ∷ xs) (suc k) all = wide_at w xs k all.1

pub strip_beside : (s : Screen) (row col : ℕ) (cs : List Cell) → IsSized s → s.width ≤ col
    → s ≡ record s { rows = with_strip s.rows row col cs }
strip_beside s row col cs sized le =
    let short : length (get_or s.rows row []) ≤ col = omega (arith, le, wide_at s.width s.rows row sized.wide) in
    let put : with_strip s.rows row col cs ≡ s.rows =
    ap (λ r. set s.rows row r) (cells_past (get_or s.rows row []) col cs short) ∙ set-get_or s.rows row [] in
    λ i. record s { rows = sym put i }

-- ---- one row more

pub laid_step : (g h goal : Screen) (row next col : ℕ) (r : List Cell) (rs more : List (List Cell))
    → rs ≡ r ∷ more → next ≡ row + 1
    → h ≡ record g { rows = with_strip g.rows row col r }
    → record g { rows = with_rows g.rows row col rs } ≡ goal
    → record h { rows = with_rows h.rows next col more } ≡ goal
laid_step g h goal row next col r rs more is below put before =
    (λ i. record (put i) { rows = with_rows (put i).rows (below i) col more })
    ∙ (λ i. record g { rows = with_rows g.rows row col (sym is i) })
    ∙ before

pub laid_next : (g h goal : Screen) (row next col : ℕ) (r s : List Cell) (rs more left : List (List Cell))
    → rs ≡ s ∷ more → r ≡ s → more ≡ left → next ≡ row + 1
    → h ≡ record g { rows = with_strip g.rows row col r }
    → record g { rows = with_rows g.rows row col rs } ≡ goal
    → record h { rows = with_rows h.rows next col left } ≡ goal
laid_next g h goal row next col r s rs more left is same rest below put before =
    laid_step g h goal row next col r rs left (is ∙ (λ i. sym same i ∷ rest i)) below put before

pub laid_done : (g goal : Screen) (row col : ℕ) (rs : List (List Cell)) → rs ≡ []
    → record g { rows = with_rows g.rows row col rs } ≡ goal → g ≡ goal
laid_done g goal row col rs none before = (λ i. record g { rows = with_rows g.rows row col (sym none i) }) ∙ before

pub rows_next : (n k w : ℕ) (cs : List Cell) → k < n
    → rows_of_cells (n - k) w cs ≡ take w cs ∷ rows_of_cells (n - (k + 1)) w (drop w cs)
rows_next n k w cs lt =
    let more : n - k ≡ suc (n - (k + 1)) = omega arith in ap (λ m. rows_of_cells m w cs) more

pub rows_none : (n k w : ℕ) (cs : List Cell) → n ≤ k → rows_of_cells (n - k) w cs ≡ []
rows_none n k w cs le = let none : n - k ≡ 0 = omega arith in ap (λ m. rows_of_cells m w cs) none

pub behind_next : (n k w : ℕ) (cs : List Cell) → k < n → cells_behind (n - k) w cs ≡ cells_behind (n - (k + 1)) w (drop w cs)
behind_next n k w cs lt = let more : n - k ≡ suc (n - (k + 1)) = omega arith in ap (λ m. cells_behind m w cs) more

pub behind_none : (n k w : ℕ) (cs : List Cell) → n ≤ k → cells_behind (n - k) w cs ≡ cs
behind_none n k w cs le = let none : n - k ≡ 0 = omega arith in ap (λ m. cells_behind m w cs) none

pub equal_next : (n k : ℕ) (r : List Cell) → k < n → replicate (n - k) r ≡ r ∷ replicate (n - (k + 1)) r
equal_next n k r lt = let more : n - k ≡ suc (n - (k + 1)) = omega arith in ap (λ m. replicate m r) more

pub equal_none : (n k : ℕ) (r : List Cell) → n ≤ k → replicate (n - k) r ≡ []
equal_none n k r le = let none : n - k ≡ 0 = omega arith in ap (λ m. replicate m r) none

-- ---- the last cell

pub last_is_set : (xs : List Cell) (k : ℕ) (d : Cell) → suc k ≡ length xs → set xs k (space (get_or xs k d).attr) ≡ last_as_space xs
last_is_set [] k d e = absurd (omega (arith, e))
last_is_set (x ∷ []) zero d e = refl
last_is_set (x ∷ []) (suc k) d e = absurd (omega (arith, e))
last_is_set (x ∷ (y ∷ xs)) zero d e = absurd (omega (arith, e))
last_is_set (x ∷ (y ∷ xs)) (suc k) d e = ap (λ r. x ∷ r) (last_is_set (y ∷ xs) k d (omega (arith, e)))

-- ---- the next cells

pub taken_front : (cells rest all : List Cell) (n k : ℕ) → n ≤ k → k ≤ n → length cells ≡ k → cells ++ rest ≡ all → cells ≡ take n all
taken_front cells rest all n k le ge is e = sym (take_at cells rest n (omega (arith, is))) ∙ ap (take n) e

pub taken_rest : (cells rest all : List Cell) (n k : ℕ) → n ≤ k → k ≤ n → length cells ≡ k → cells ++ rest ≡ all → rest ≡ drop n all
taken_rest cells rest all n k le ge is e =
    let count : length cells ≡ n = omega (arith, is) in
    sym (drop-append_seam cells rest) ∙ (λ i. drop (count i) (e i))

pub taken_short : (cells rest all : List Cell) (n k : ℕ) → k < n → length cells ≡ k → rest ≡ [] → cells ++ rest ≡ all → cells ≡ take n all
taken_short cells rest all n k lt is none e =
    sym (take_all n cells (omega (arith, is))) ∙ ap (take n) (sym (append-nil cells) ∙ ap (λ r. cells ++ r) (sym none) ∙ e)

pub taken_none : (cells rest all : List Cell) (n k : ℕ) → k < n → length cells ≡ k → rest ≡ [] → cells ++ rest ≡ all → rest ≡ drop n all
taken_none cells rest all n k lt is none e =
    none ∙ sym (drop_all n cells (omega (arith, is))) ∙ ap (drop n) (sym (append-nil cells) ∙ ap (λ r. cells ++ r) (sym none) ∙ e)
