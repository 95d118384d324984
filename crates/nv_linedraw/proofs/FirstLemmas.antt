-- Lemmas on the first cells of a line.
use Rattle.std.proofs.Common.{◌≡◌, ◌<◌, ◌≤◌, ◌+◌, ℕ, List, ◌++◌, length, take, drop, replicate, refl, sym, ap, ◌∙◌, arith, append_assoc, ◌==◌, [], subst, ⊎_elim}
use Rattle.std.proofs.lemmas.Bool.{cases_lt}
use Rattle.std.proofs.lemmas.List.{take-append-drop, take_all, length-take, take-take, take-append-le}
use Rattle.nv_text.specs.declared.piece.Piece.{Piece}
use Rattle.nv_text.specs.Pieces.{pieces_of}
use Rattle.nv_hl.specs.declared.cell.Cell.{Cell}
use Rattle.nv_hl.specs.Cells.{space}
use Rattle.nv_linedraw.specs.declared.looks.Looks.{Looks}
use Rattle.nv_linedraw.specs.declared.looks.Span.{Span}
use Rattle.nv_linedraw.specs.LineCells.{atoms_from, cells_from_column, cells_of_line, col_after, filler_of, filling, rest_attr}
use Rattle.nv_linedraw.specs.declared.flow.Drawn.{Drawn}
use Rattle.nv_linedraw.specs.inside.DrawnCells.{PiecesAreLaid, LineFlow, stop_behind}
use Rattle.nv_linedraw.proofs.LayLemmas.{atoms_from-append, cells_from_column-append}

pub all_from_few : {X : Type 0} (n : ℕ) (xs ys : List X) → xs ≡ take n ys → length xs < n → xs ≡ ys
all_from_few n xs ys is few =
    let short : length ys ≤ n = omega (arith, ap length is, length-take n ys) in
    is ∙ take_all n ys short

module _ (w t : ℕ) (line : List ℕ) (spans : List Span) (looks : Looks) where
  -- the cells of pieces from the first column on, and the column behind them
  abbrev pub total : List Piece → List Cell
  total ps = cells_from_column w (filler_of looks) 0 (atoms_from t 0 line spans looks.special ps)

  abbrev behind : List Piece → ℕ
  behind ps = col_after w 0 (atoms_from t 0 line spans looks.special ps)

  abbrev blanks : ℕ → List Cell
  blanks col = replicate (filling w (length line == 0) col) (space (rest_attr spans (length line)))

  more_cells : (ps qs : List Piece) → (more : List Cell) × (total (ps ++ qs) ≡ total ps ++ more)
  more_cells ps qs =
      let xs = atoms_from t 0 line spans looks.special ps in
      let ys = atoms_from t (stop_behind t 0 ps) line spans looks.special qs in (
        cells_from_column w (filler_of looks) (col_after w 0 xs) ys,
        ap (cells_from_column w (filler_of looks) 0) (atoms_from-append t line spans looks.special 0 ps qs)
            ∙ cells_from_column-append w (filler_of looks) 0 xs ys,
      )

  whole : (most : ℕ) (some laid filled : List Cell) (col : ℕ) (ps : List Piece) → some ≡ laid → ps ≡ pieces_of line
      → laid ≡ total ps → col ≡ behind ps → filled ≡ laid ++ blanks col → take most filled ≡ take most (cells_of_line w t line spans looks)
  unfolding cells_of_line
  whole most some laid filled col ps same all laid_is col_is filled_is =
      ap (take most) filled_is
      ∙ (λ i. take most (laid_is i ++ blanks (col_is i)))
      ∙ ap (λ qs. take most (total qs ++ blanks (behind qs))) all

  front : (most : ℕ) (laid : List Cell) (ps : List Piece) → ps ≡ take most (pieces_of line) → most ≤ length laid
      → laid ≡ take (length laid) (total ps) → take most laid ≡ take most (cells_of_line w t line spans looks)
  unfolding cells_of_line
  front most laid ps is many laid_is =
      let all = pieces_of line in
      let more = more_cells (take most all) (drop most all) in
      let enough : most ≤ length (total ps) = omega (arith, many, ap length laid_is, length-take (length laid) (total ps)) in
      let split : total all ≡ total ps ++ more.0 =
      ap total (sym (take-append-drop most all)) ∙ more.1 ∙ ap (λ qs. total qs ++ more.0) (sym is) in
      ap (take most) laid_is
      ∙ take-take most (length laid) (total ps) many
      ∙ sym (take-append-le most (total ps) (more.0 ++ blanks (behind all)) enough)
      ∙ ap (take most) (sym (append_assoc (total ps) more.0 (blanks (behind all))))
      ∙ ap (λ cs. take most (cs ++ blanks (behind all))) (sym split)

  -- without what fills the last row
  pub laid_front : (most : ℕ) (laid : List Cell) (ps : List Piece) → ps ≡ take most (pieces_of line)
      → laid ≡ take (length laid) (total ps)
      → (length laid < most → laid ≡ total ps)
      → (length laid < most → length ps + 0 ≤ length laid)
      → take most laid ≡ take most (total (pieces_of line))
  laid_front most laid ps is laid_is all count =
      let every = pieces_of line in
      let more = more_cells (take most every) (drop most every) in
      let split : total every ≡ total ps ++ more.0 =
      ap total (sym (take-append-drop most every)) ∙ more.1 ∙ ap (λ qs. total qs ++ more.0) (sym is) in
      ⊎_elim
      (λ (few : length laid < most).
      ap (take most) (all few ∙ ap total (all_from_few most ps every is (omega (arith, few, count few)))))
      (λ (many : most ≤ length laid).
      let enough : most ≤ length (total ps) = omega (arith, many, ap length laid_is, length-take (length laid) (total ps)) in
      ap (take most) laid_is
      ∙ take-take most (length laid) (total ps) many
      ∙ sym (take-append-le most (total ps) more.0 enough)
      ∙ ap (take most) (sym split))
      (cases_lt (length laid) most)

  pub first_are : (most : ℕ) (laid filled : List Cell) (col : ℕ) (ps : List Piece) → ps ≡ take most (pieces_of line)
      → laid ≡ take (length laid) (total ps)
      → (length laid < most → laid ≡ total ps)
      → (length laid < most → col ≡ behind ps)
      → (length laid < most → length ps + 0 ≤ length laid)
      → (most ≤ length laid → filled ≡ laid)
      → (length laid < most → filled ≡ laid ++ blanks col)
      → take most filled ≡ take most (cells_of_line w t line spans looks)
  first_are most laid filled col ps is laid_is all col_is count kept put =
      ⊎_elim
      (λ (few : length laid < most).
      whole most laid laid filled col ps refl (all_from_few most ps (pieces_of line) is (omega (arith, few, count few))) (all few) (col_is few) (put few))
      (λ (many : most ≤ length laid). ap (take most) (kept many) ∙ front most laid ps is many laid_is)
      (cases_lt (length laid) most)

-- what was laid from nothing, filled and cut
pub first_laid : (d : Drawn) (most : ℕ) (start filled : List Cell) (after : LineFlow) (ps : List Piece) → ps ≡ take most (pieces_of d.line.now)
    → PiecesAreLaid d most ps (record { cells = start; col = 0; stop = 0 }) after → start ≡ []
    → (most ≤ length after.cells → filled ≡ after.cells)
    → (length after.cells < most
    → filled ≡ after.cells ++ replicate (filling d.width (length d.line.now == 0) after.col) (space (rest_attr d.spans.now (length d.line.now))))
    → take most filled ≡ take most (cells_of_line d.width d.tabstop d.line.now d.spans.now d.looks.now)
first_laid d most start filled after ps is laid none kept put =
    let all = subst (λ (cs : List Cell). PiecesAreLaid d most ps (record { cells = cs; col = 0; stop = 0 }) after) none laid in
    first_are d.width d.tabstop d.line.now d.spans.now d.looks.now most after.cells filled after.col ps is all.front all.all all.col all.count kept put
