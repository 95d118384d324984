-- inside: what pieces of a line are drawn as, and what stands there once they are laid.
use Rattle.std.specs.Prelude.{◌≡◌, ℕ, ◌+◌, ◌<◌, ◌≤◌, List, [], ◌∷◌, ◌++◌, length, take}
use Rattle.nv_text.specs.declared.piece.Piece.{Piece}
use Rattle.nv_hl.specs.declared.cell.Cell.{Cell}
use Rattle.nv_linedraw.specs.declared.flow.Drawn.{Drawn}
use Rattle.nv_linedraw.specs.declared.flow.Flow.{Flow}
use Rattle.nv_linedraw.specs.LineCells.{Atom, atoms_from, cells_from_column, col_after, filler_of, piece_atoms, stop_after}

abbrev pub drawn_atoms : Drawn → ℕ → List Piece → List Atom
drawn_atoms d stop ps = atoms_from d.tabstop stop d.line.now d.spans.now d.looks.now.special ps

abbrev pub drawn_piece : Drawn → ℕ → Piece → List Atom
drawn_piece d stop p = piece_atoms d.tabstop stop d.line.now d.spans.now d.looks.now.special p

-- the cells laid so far, the column behind them, and the cells of the line behind the last tab stop
pub record LineFlow : Type 0 where
  pub cells : List Cell
  pub col : ℕ
  pub stop : ℕ

abbrev pub line_flow : Flow → ℕ → LineFlow
line_flow flow stop = record { cells = flow.cells.items; col = flow.col; stop = stop }

-- the cells once pieces more are laid
abbrev pub laid_cells : Drawn → LineFlow → List Piece → List Cell
laid_cells d at ps =
    at.cells ++ cells_from_column d.width (filler_of d.looks.now) at.col (drawn_atoms d at.stop ps)

-- the column behind them
abbrev pub laid_col : Drawn → LineFlow → List Piece → ℕ
laid_col d at ps = col_after d.width at.col (drawn_atoms d at.stop ps)

-- the cells of the line behind the last tab stop
abbrev pub stop_behind : ℕ → ℕ → List Piece → ℕ
stop_behind tabstop stop [] = stop
stop_behind tabstop stop (p ∷ ps) = stop_behind tabstop (stop_after tabstop stop p.kind) ps

-- pieces were laid, or the first of them, by which there are `most` cells
pub record PiecesAreLaid (d : Drawn) (most : ℕ) (ps : List Piece)
    (before after : LineFlow) : Type 0 where
  pub front : after.cells ≡ take (length after.cells) (laid_cells d before ps)
  pub all : length after.cells < most → after.cells ≡ laid_cells d before ps
  pub col : length after.cells < most → after.col ≡ laid_col d before ps
  pub stop : length after.cells < most → after.stop ≡ stop_behind d.tabstop before.stop ps
  pub count : length after.cells < most → length ps + length before.cells ≤ length after.cells
