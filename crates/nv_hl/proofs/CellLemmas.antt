-- Lemmas on cells laid in a row.
use Rattle.std.proofs.Common.{◌≡◌, ◌≤◌, ◌<◌, ◌+◌, ℕ, zero, suc, List, [], ◌∷◌, length, refl, sym, ap, subst, ◌∙◌, arith, slice_set, slice_index_or}
use Rattle.std.proofs.lemmas.List.{set_past, length-set}
use Rattle.std.specs.List.{AllByRecursion}
use Rattle.nv_hl.specs.declared.cell.Cell.{Cell}
use Rattle.nv_hl.specs.Cells.{IsSized, with_cells, with_strip}

-- cells past the end of a row change nothing
pub cells_past : (row : List Cell) (col : ℕ) (cs : List Cell) → length row ≤ col → with_cells row col cs ≡ row
cells_past row col [] h = refl
cells_past row col (c ∷ cs) h =
    ap (λ r. with_cells r (col + 1) cs) (set_past row col c h) ∙ cells_past row (col + 1) cs (omega (arith, h))

-- ---- sizes stay

pub length-with_cells : (row : List Cell) (col : ℕ) (cs : List Cell) → length (with_cells row col cs) ≡ length row
length-with_cells row col [] = refl
length-with_cells row col (c ∷ cs) = length-with_cells (slice_set row col c) (col + 1) cs ∙ length-set row col c

wide-set : (w : ℕ) (rows : List (List Cell)) (k : ℕ) (r : List Cell)
    → (k < length rows → length r ≡ w) → AllByRecursion (λ x. length x ≡ w) rows
    → AllByRecursion (λ x. length x ≡ w) (slice_set rows k r)
wide-set w [] k r h all = tt
wide-set w (x ∷ xs) zero r h all = (h (omega arith), all.1)
wide-set w (x ∷ xs) (suc k) r h all = (all.0, wide-set w xs k r (λ lt. h (omega (arith, lt))) all.1)

wide-at : (w : ℕ) (rows : List (List Cell)) (k : ℕ) → k < length rows → AllByRecursion (λ x. length x ≡ w) rows
    → length (slice_index_or rows k []) ≡ w
wide-at w [] k lt all = absurd (omega (arith, lt))
wide-at w (x ∷ xs) zero lt all = all.0
wide-at w (x ∷ xs) (suc k) lt all = wide-at w xs k (omega (arith, lt)) all.1

pub sized-strip : (w h : ℕ) (rows new : List (List Cell)) (row col : ℕ) (cs : List Cell)
    → IsSized (record { width = w; height = h; rows = rows }) → new ≡ with_strip rows row col cs
    → IsSized (record { width = w; height = h; rows = new })
sized-strip w h rows new row col cs sized put =
    let under = slice_index_or rows row [] in
    record {
      high = ap length put ∙ length-set rows row (with_cells under col cs) ∙ sized.high;
      wide = subst (AllByRecursion (λ x. length x ≡ w)) (sym put)
          (wide-set w rows row (with_cells under col cs) (λ lt. length-with_cells under col cs ∙ wide-at w rows row lt sized.wide) sized.wide);
    }
