-- Lemmas on a screen that is being laid.
use Rattle.std.proofs.Common.{◌≡◌, ◌<◌, ◌≤◌, ◌+◌, ◌-◌, ℕ, zero, suc, List, [], ◌∷◌, ◌++◌, length, map, replicate, get_or, set, refl, sym, ap, ◌∙◌, arith, append_assoc, length-append}
use Rattle.std.specs.List.{AllByRecursion}
use Rattle.std.proofs.lemmas.List.{append-nil, length-replicate, replicate-append-replicate, set-get_or, set_past}
use Rattle.nv_hl.specs.declared.cell.Cell.{Cell}
use Rattle.nv_hl.specs.Attributes.{empty_attr}
use Rattle.nv_hl.specs.Cells.{IsSized, blank_rows, space, with_cells, with_strip}
use Rattle.nv_hl.proofs.CellLemmas.{cells_past, length-with_cells}
use Rattle.nv_screen.specs.Drawing.{cell_shown}
use Rattle.nv_screen.specs.inside.Laid.{AreNarrow, AreStrips, screen_of_strips, whole_row}

abbrev S : Cell
S = space empty_attr

-- ---- cells laid in a row

behind_first : (y : Cell) (ys : List Cell) (k : ℕ) (ds : List Cell) → with_cells (y ∷ ys) (suc k) ds ≡ y ∷ with_cells ys k ds
behind_first y ys k [] = refl
behind_first y ys k (d ∷ ds) =
    let next : suc k + 1 ≡ suc (k + 1) = omega arith in
    ap (λ n. with_cells (y ∷ set ys k d) n ds) next ∙ behind_first y (set ys k d) (k + 1) ds

-- over the first cells
over_first : (ys zs cs : List Cell) → length ys ≡ length cs → with_cells (ys ++ zs) 0 cs ≡ cs ++ zs
over_first [] zs [] e = refl
over_first [] zs (c ∷ cs) e = absurd (omega (arith, e))
over_first (y ∷ ys) zs [] e = absurd (omega (arith, e))
over_first (y ∷ ys) zs (c ∷ cs) e = behind_first c (ys ++ zs) 0 cs ∙ ap (λ r. c ∷ r) (over_first ys zs cs (omega (arith, e)))

-- behind a front
over_behind : (xs ys cs : List Cell) (k : ℕ) → length xs ≡ k → with_cells (xs ++ ys) k cs ≡ xs ++ with_cells ys 0 cs
over_behind [] ys cs k e = ap (λ n. with_cells ys n cs) (sym e)
over_behind (x ∷ xs) ys cs zero e = absurd (omega (arith, e))
over_behind (x ∷ xs) ys cs (suc k) e = behind_first x (xs ++ ys) k cs ∙ ap (λ r. x ∷ r) (over_behind xs ys cs k (omega (arith, e)))

-- a row as wide as the screen
pub whole_is : (w : ℕ) (row : List Cell) → w ≤ length row → whole_row w row ≡ row
whole_is w row le =
    let none : w - length row ≡ 0 = omega arith in ap (λ n. row ++ replicate n S) none ∙ append-nil row

pub length-whole : (w : ℕ) (row : List Cell) → length row ≤ w → length (whole_row w row) ≡ w
length-whole w row le = omega (arith, le, length-append row (replicate (w - length row) S), length-replicate (w - length row) S)

-- cells behind those that were laid
pub appended : (w col : ℕ) (row spaced new cells : List Cell) → length row ≤ col → col + length cells ≤ w
    → spaced ≡ row ++ replicate (col - length row) S → new ≡ spaced ++ cells
    → whole_row w new ≡ with_cells (whole_row w row) col cells
appended w col row spaced new cells le fits padded put =
    let b = length row in
    let n = length cells in
    let front = row ++ replicate (col - b) S in
    let rest = replicate (w - (col + n)) S in
    let wide : length front ≡ col = omega (arith, le, length-append row (replicate (col - b) S), length-replicate (col - b) S) in
    let all : new ≡ front ++ cells = put ∙ ap (λ r. r ++ cells) padded in
    let size : w - length new ≡ w - (col + n) = omega (arith, ap length all, length-append front cells, wide) in
    let split : w - b ≡ (col - b) + (n + (w - (col + n))) = omega arith in
    let blank : whole_row w row ≡ front ++ (replicate n S ++ rest) =
    ap (λ k. row ++ replicate k S) split
    ∙ ap (λ r. row ++ r) (sym (replicate-append-replicate (col - b) (n + (w - (col + n))) S))
    ∙ sym (append_assoc row (replicate (col - b) S) (replicate (n + (w - (col + n))) S))
    ∙ ap (λ r. front ++ r) (sym (replicate-append-replicate n (w - (col + n)) S)) in
    (λ i. all i ++ replicate (size i) S)
    ∙ append_assoc front cells rest
    ∙ ap (λ r. front ++ r) (sym (over_first (replicate n S) rest cells (length-replicate n S)))
    ∙ sym (over_behind front (replicate n S ++ rest) cells col wide)
    ∙ ap (λ r. with_cells r col cells) (sym blank)

pub laid_in_whole : (w col : ℕ) (row spaced new cells : List Cell) → length row ≤ w
    → spaced ≡ row ++ replicate (w - length row) S → new ≡ with_cells spaced col cells
    → whole_row w new ≡ with_cells (whole_row w row) col cells
laid_in_whole w col row spaced new cells le padded put =
    let all : new ≡ with_cells (whole_row w row) col cells = put ∙ ap (λ r. with_cells r col cells) padded in
    let wide : length new ≡ w = ap length all ∙ length-with_cells (whole_row w row) col cells ∙ length-whole w row le in
    whole_is w new (omega (arith, wide)) ∙ all

pub laid_width : (w col : ℕ) (row spaced new cells : List Cell) → length row ≤ w
    → spaced ≡ row ++ replicate (w - length row) S → new ≡ with_cells spaced col cells → length new ≤ w
laid_width w col row spaced new cells le padded put =
    omega (arith, ap length put, length-with_cells spaced col cells, ap length padded, length-whole w row le)

-- ---- rows of a screen

map-set : (w : ℕ) (rows : List (List Cell)) (k : ℕ) (r : List Cell) → map (whole_row w) (set rows k r) ≡ set (map (whole_row w) rows) k (whole_row w r)
map-set w [] k r = refl
map-set w (x ∷ xs) zero r = refl
map-set w (x ∷ xs) (suc k) r = ap (λ t. whole_row w x ∷ t) (map-set w xs k r)

pub map-at : (w : ℕ) (rows : List (List Cell)) (k : ℕ) (d : List Cell) → k < length rows → get_or (map (whole_row w) rows) k [] ≡ whole_row w (get_or rows k d)
map-at w [] k d lt = absurd (omega (arith, lt))
map-at w (x ∷ xs) zero d lt = refl
map-at w (x ∷ xs) (suc k) d lt = map-at w xs k d (omega (arith, lt))

pub narrow_at : (w : ℕ) (rows : List (List Cell)) (k : ℕ) (d : List Cell) → k < length rows → AreNarrow w rows → length (get_or rows k d) ≤ w
narrow_at w [] k d lt all = absurd (omega (arith, lt))
narrow_at w (x ∷ xs) zero d lt all = all.0
narrow_at w (x ∷ xs) (suc k) d lt all = narrow_at w xs k d (omega (arith, lt)) all.1

pub narrow_set : (w : ℕ) (rows : List (List Cell)) (k : ℕ) (r : List Cell) → length r ≤ w → AreNarrow w rows → AreNarrow w (set rows k r)
narrow_set w [] k r le all = tt
narrow_set w (x ∷ xs) zero r le all = (le, all.1)
narrow_set w (x ∷ xs) (suc k) r le all = (all.0, narrow_set w xs k r le all.1)

-- one row laid
pub row_laid : (w : ℕ) (rows : List (List Cell)) (k col : ℕ) (d new cells : List Cell) → k < length rows
    → whole_row w new ≡ with_cells (whole_row w (get_or rows k d)) col cells
    → map (whole_row w) (set rows k new) ≡ with_strip (map (whole_row w) rows) k col cells
row_laid w rows k col d new cells lt is =
    map-set w rows k new ∙ ap (set (map (whole_row w) rows) k) (is ∙ ap (λ r. with_cells r col cells) (sym (map-at w rows k d lt)))

length-whole_rows : (w : ℕ) (rows : List (List Cell)) → length (map (whole_row w) rows) ≡ length rows
length-whole_rows w [] = refl
length-whole_rows w (x ∷ xs) = ap suc (length-whole_rows w xs)

pub row_below : (w : ℕ) (rows : List (List Cell)) (k col : ℕ) (cells : List Cell) → length rows ≤ k
    → map (whole_row w) rows ≡ with_strip (map (whole_row w) rows) k col cells
row_below w rows k col cells le =
    sym (set_past (map (whole_row w) rows) k _ (omega (arith, le, length-whole_rows w rows)))

whole_at : (w : ℕ) (rows : List (List Cell)) (k : ℕ) → AreNarrow w rows → length (get_or (map (whole_row w) rows) k []) ≤ w
whole_at w [] k all = omega arith
whole_at w (x ∷ xs) zero all = omega (arith, length-whole w x all.0)
whole_at w (x ∷ xs) (suc k) all = whole_at w xs k all.1

pub row_beside : (w : ℕ) (rows : List (List Cell)) (k col : ℕ) (cells : List Cell) → AreNarrow w rows → w ≤ col
    → map (whole_row w) rows ≡ with_strip (map (whole_row w) rows) k col cells
row_beside w rows k col cells all le =
    let rs = map (whole_row w) rows in
    sym (ap (set rs k) (cells_past (get_or rs k []) col cells (omega (arith, le, whole_at w rows k all))) ∙ set-get_or rs k [])

-- ---- a blank screen, and a finished one

pub blank_is : (w h : ℕ) → map (whole_row w) (replicate h []) ≡ blank_rows w h
blank_is w zero = refl
blank_is w (suc h) =
    let all : w - 0 ≡ w = omega arith in (λ i. replicate (all i) S ∷ blank_is w h i)

pub blank_narrow : (w h : ℕ) → AreNarrow w (replicate h [])
blank_narrow w zero = tt
blank_narrow w (suc h) = (omega arith, blank_narrow w h)

whole_wide : (w : ℕ) (rows : List (List Cell)) → AreNarrow w rows → AllByRecursion (λ r. length r ≡ w) (map (whole_row w) rows)
whole_wide w [] all = tt
whole_wide w (x ∷ xs) all = (length-whole w x all.0, whole_wide w xs all.1)

pub finished : (w h : ℕ) (rows : List (List Cell)) → AreStrips w h rows → IsSized (screen_of_strips w h rows)
finished w h rows are = record {
  high = length-whole_rows w rows ∙ are.high;
  wide = whole_wide w rows are.narrow;
}

-- ---- a cell

in_front : (xs ys : List Cell) (k : ℕ) (d : Cell) → k < length xs → get_or (xs ++ ys) k d ≡ get_or xs k d
in_front [] ys k d lt = absurd (omega (arith, lt))
in_front (x ∷ xs) ys zero d lt = refl
in_front (x ∷ xs) ys (suc k) d lt = in_front xs ys k d (omega (arith, lt))

in_spaces : (n k : ℕ) → get_or (replicate n S) k S ≡ S
in_spaces zero k = refl
in_spaces (suc n) zero = refl
in_spaces (suc n) (suc k) = in_spaces n k

behind_row : (xs : List Cell) (n k : ℕ) → length xs ≤ k → get_or (xs ++ replicate n S) k S ≡ S
behind_row [] n k le = in_spaces n k
behind_row (x ∷ xs) n zero le = absurd (omega (arith, le))
behind_row (x ∷ xs) n (suc k) le = behind_row xs n k (omega (arith, le))

any_default : (xs : List Cell) (k : ℕ) (d e : Cell) → k < length xs → get_or xs k d ≡ get_or xs k e
any_default [] k d e lt = absurd (omega (arith, lt))
any_default (x ∷ xs) zero d e lt = refl
any_default (x ∷ xs) (suc k) d e lt = any_default xs k d e (omega (arith, lt))

no_row : (w : ℕ) (rows : List (List Cell)) (k : ℕ) → length rows ≤ k → get_or (map (whole_row w) rows) k [] ≡ []
no_row w [] k le = refl
no_row w (x ∷ xs) zero le = absurd (omega (arith, le))
no_row w (x ∷ xs) (suc k) le = no_row w xs k (omega (arith, le))

pub shown_below : (w : ℕ) (rows : List (List Cell)) (k col : ℕ) → length rows ≤ k → S ≡ cell_shown (map (whole_row w) rows) k col
shown_below w rows k col le = sym (ap (λ r. get_or r col S) (no_row w rows k le))

pub shown_beside : (w : ℕ) (rows : List (List Cell)) (k col : ℕ) (d : List Cell) → k < length rows → length (get_or rows k d) ≤ col
    → S ≡ cell_shown (map (whole_row w) rows) k col
shown_beside w rows k col d lt le =
    sym (ap (λ r. get_or r col S) (map-at w rows k d lt) ∙ behind_row (get_or rows k d) (w - length (get_or rows k d)) col le)

pub shown_in : (w : ℕ) (rows : List (List Cell)) (k col : ℕ) (d : List Cell) (e : Cell) → k < length rows → col < length (get_or rows k d)
    → get_or (get_or rows k d) col e ≡ cell_shown (map (whole_row w) rows) k col
shown_in w rows k col d e lt le =
    any_default (get_or rows k d) col e S le
    ∙ sym (in_front (get_or rows k d) (replicate (w - length (get_or rows k d)) S) col S le)
    ∙ sym (ap (λ r. get_or r col S) (map-at w rows k d lt))
