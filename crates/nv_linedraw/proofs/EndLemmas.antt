-- Lemmas on where a line ends.
use Rattle.std.proofs.Common.{◌≡◌, ◌<◌, ◌≤◌, ◌+◌, ◌-◌, ◌*◌, ◌/◌, ◌%◌, ℕ, suc, Bool, true, false, cond, ◌==◌, min, List, [], ◌∷◌, ◌++◌, length, take, drop, refl, sym, ap, ◌∙◌, arith, ⊎_elim, length-append}
use Rattle.std.proofs.Math.Nat.{le-div_iff_mul-le}
use Rattle.std.proofs.lemmas.Bool.{cases_lt}
use Rattle.std.proofs.lemmas.List.{length-take, take-append-drop}
use Rattle.nv_text.specs.declared.piece.Kind.{Kind}
use Rattle.nv_text.specs.declared.piece.Kind.TheVariants.{Tab, Control, Escape, Cluster}
use Rattle.nv_text.specs.declared.piece.Piece.{Piece}
use Rattle.nv_text.specs.Pieces.{pieces_of}
use Rattle.nv_hl.specs.declared.cell.Cell.{Cell}
use Rattle.nv_hl.specs.Attributes.{empty_attr}
use Rattle.nv_hl.specs.Cells.{space}
use Rattle.nv_linedraw.specs.inside.DrawnCells.{stop_behind}
use Rattle.nv_linedraw.specs.LineCells.{atoms_from, cells_from_column, col_after, line_length, piece_atoms, round, stop_after}
use Rattle.nv_linedraw.specs.inside.Placing.{StandsAt, cells_taken}
use Rattle.nv_linedraw.proofs.FirstLemmas.{all_from_few}
use Rattle.nv_linedraw.proofs.LayLemmas.{atoms_from-append, cells_from_column-append, some_cells}
use Rattle.nv_linedraw.proofs.PlaceLemmas.{col_by_count, piece_count}
use Rattle.nv_linedraw.proofs.WholeLemmas.{round-lt}

either_below : (b : Bool) (t x y : ℕ) → x < t → y < t → cond b x y < t
either_below true t x y lt less = lt
either_below false t x y lt less = less

-- cells behind a tab stop stay below the width of a Tab
stop_below : (t stop : ℕ) (k : Kind) → stop < t → stop_after t stop k < t
stop_below t stop Tab lt = omega (arith, lt)
stop_below t stop (Control byte) lt = round-lt t (round t stop) (round-lt t stop lt)
stop_below t stop (Escape byte) lt =
    round-lt t (round t (round t (round t stop))) (round-lt t (round t (round t stop)) (round-lt t (round t stop) (round-lt t stop lt)))
stop_below t stop (Cluster n) lt =
    either_below (n == 2) t (round t (round t stop)) (round t stop) (round-lt t (round t stop) (round-lt t stop lt)) (round-lt t stop lt)

module _ (w t : ℕ) (line : List ℕ) where
  -- how many cells pieces have from a column on
  abbrev pub length_of : ℕ → ℕ → List Piece → ℕ
  length_of stop col ps = length (cells_from_column w (space empty_attr) col (atoms_from t stop line [] empty_attr ps))

  split : (stop col : ℕ) (p : Piece) (ps : List Piece)
      → length_of stop col (p ∷ ps)
      ≡ length (cells_from_column w (space empty_attr) col (piece_atoms t stop line [] empty_attr p))
      + length_of (stop_after t stop p.kind) (col_after w col (piece_atoms t stop line [] empty_attr p)) ps
  split stop col p ps =
      let f = space empty_attr in
      let xs = piece_atoms t stop line [] empty_attr p in
      let ys = atoms_from t (stop_after t stop p.kind) line [] empty_attr ps in
      ap length (cells_from_column-append w f col xs ys)
      ∙ length-append (cells_from_column w f col xs) (cells_from_column w f (col_after w col xs) ys)

  -- one piece more is counted
  pub length_step : (stop at next n : ℕ) (p : Piece) (ps : List Piece) → 0 < w
      → n ≡ cells_taken w (t - stop) (at % w) p.kind → next ≡ stop_after t stop p.kind
      → at + length_of stop (at % w) (p ∷ ps) ≡ (at + n) + length_of next ((at + n) % w) ps
  length_step stop at next n p ps wide count stopped =
      let f = space empty_attr in
      let xs = piece_atoms t stop line [] empty_attr p in
      let k = length (cells_from_column w f (at % w) xs) in
      let is : k ≡ n = piece_count w f (at % w) t stop line p ∙ sym count in
      let col : col_after w (at % w) xs ≡ (at + n) % w = col_by_count w f t stop line p at wide ∙ ap (λ m. (at + m) % w) is in
      let rest : length_of (stop_after t stop p.kind) (col_after w (at % w) xs) ps ≡ length_of next ((at + n) % w) ps =
      λ i. length_of (sym stopped i) (col i) ps in
      omega (arith, split stop (at % w) p ps, rest, is)

  -- each piece has a cell
  pub some_each : (stop col : ℕ) (ps : List Piece) → stop < t → length ps ≤ length_of stop col ps
  some_each stop col [] lt = omega arith
  some_each stop col (p ∷ ps) lt =
      let xs = piece_atoms t stop line [] empty_attr p in
      omega (
        arith,
        split stop col p ps,
        some_cells t stop line [] empty_attr p w (space empty_attr) col lt,
        some_each (stop_after t stop p.kind) (col_after w col xs) ps (stop_below t stop p.kind lt),
      )

  -- the first pieces have no more cells than all
  pub first_fewer : (n : ℕ) (ps : List Piece) → length_of 0 0 (take n ps) ≤ length_of 0 0 ps
  first_fewer n ps =
      let f = space empty_attr in
      let xs = atoms_from t 0 line [] empty_attr (take n ps) in
      let ys = atoms_from t (stop_behind t 0 (take n ps)) line [] empty_attr (drop n ps) in
      let whole : length_of 0 0 ps ≡ length (cells_from_column w f 0 xs) + length (cells_from_column w f (col_after w 0 xs) ys) =
      ap (length_of 0 0) (sym (take-append-drop n ps))
      ∙ ap (λ zs. length (cells_from_column w f 0 zs)) (atoms_from-append t line [] empty_attr 0 (take n ps) (drop n ps))
      ∙ ap length (cells_from_column-append w f 0 xs ys)
      ∙ length-append (cells_from_column w f 0 xs) (cells_from_column w f (col_after w 0 xs) ys) in
      omega (arith, whole)

-- of pieces that are as many as were asked for, the cells reach the last row
reaches : (w t most : ℕ) (line : List ℕ) (ps : List Piece) (cell : ℕ) → 0 < w → 0 < t → ps ≡ take (most * w) (pieces_of line)
    → cell ≡ length_of w t line 0 0 ps → most * w ≤ length ps
    → (most ≤ cell / w) × (most ≤ line_length w t line / w)
reaches w t most line ps cell wide tab is cell_is many =
    let some : most * w ≤ cell = omega (arith, many, cell_is, some_each w t line 0 0 ps tab) in
    let more : cell ≤ line_length w t line =
    omega (arith, cell_is, ap (length_of w t line 0 0) is, first_fewer w t line (most * w) (pieces_of line)) in
    ((le-div_iff_mul-le wide).1 some, (le-div_iff_mul-le wide).1 (omega (arith, some, more)))

every : (w t most : ℕ) (line : List ℕ) (ps : List Piece) (cell : ℕ) → ps ≡ take (most * w) (pieces_of line)
    → cell ≡ length_of w t line 0 0 ps → length ps < most * w → cell ≡ line_length w t line
every w t most line ps cell is cell_is few = cell_is ∙ ap (length_of w t line 0 0) (all_from_few (most * w) ps (pieces_of line) is few)

pub end_row : (w t most row col : ℕ) (line : List ℕ) (ps : List Piece) (cell : ℕ) → 0 < w → 0 < t → ps ≡ take (most * w) (pieces_of line)
    → StandsAt w most row col cell → cell ≡ length_of w t line 0 0 ps → row ≡ min most (line_length w t line / w)
end_row w t most row col line ps cell wide tab is at cell_is =
    ⊎_elim
    (λ (few : length ps < most * w). at.row_is ∙ ap (λ n. min most (n / w)) (every w t most line ps cell is cell_is few))
    (λ (many : most * w ≤ length ps).
    let both = reaches w t most line ps cell wide tab is cell_is many in
    omega (arith, at.row_is, both.0, both.1))
    (cases_lt (length ps) (most * w))

pub end_col : (w t most row col : ℕ) (line : List ℕ) (ps : List Piece) (cell : ℕ) → 0 < w → 0 < t → ps ≡ take (most * w) (pieces_of line)
    → StandsAt w most row col cell → cell ≡ length_of w t line 0 0 ps → row < most → col ≡ line_length w t line % w
end_col w t most row col line ps cell wide tab is at cell_is below =
    ⊎_elim
    (λ (few : length ps < most * w). at.col_is ∙ ap (λ n. n % w) (every w t most line ps cell is cell_is few))
    (λ (many : most * w ≤ length ps).
    let both = reaches w t most line ps cell wide tab is cell_is many in
    absurd (omega (arith, at.row_is, both.0, below)))
    (cases_lt (length ps) (most * w))
