-- Lines as they are drawn: the cells of each piece, the column behind it, and where it stands.
use Rattle.std.specs.Prelude.{ℕ, ◌+◌, ◌-◌, ◌*◌, ◌/◌, ◌<◌, Bool, true, false, ◌==◌, if◌then◌else◌, List, [], ◌∷◌, length, map, replicate, slice_range}
use Rattle.nv_text.specs.declared.piece.Kind.{Kind}
use Rattle.nv_text.specs.declared.piece.Kind.TheVariants.{Tab, Control, Escape, Cluster}
use Rattle.nv_text.specs.declared.piece.Piece.{Piece}
use Rattle.nv_hl.specs.declared.attribute.Attr.{Attr}
use Rattle.nv_hl.specs.declared.cell.Cell.{Cell}
use Rattle.nv_hl.specs.Attributes.{combined}
use Rattle.nv_hl.specs.Cells.{cell_of, right_half, space}
use Rattle.nv_linedraw.specs.declared.looks.Looks.{Looks}
use Rattle.nv_linedraw.specs.declared.looks.Span.{Span}
use Rattle.nv_linedraw.specs.LineCells.{attr_at, cell_of_byte, cells_of_line, control_text, escape_text, filler_of}

-- a line with its attributes, drawn in rows of a width
pub record DrawnLine : Type 0 where
  pub line : List ℕ
  pub spans : List Span
  pub looks : Looks
  pub width : ℕ
  pub tabstop : ℕ
  pub wide : 0 < width
  pub stop : 0 < tabstop

-- its cells, row by row
abbrev pub line_cells : DrawnLine → List Cell
line_cells d = cells_of_line d.width d.tabstop d.line d.spans d.looks

-- ---- columns of a line, as if it stood in one endless row

-- the column behind a piece: a Tab goes on to the next multiple of the tabstop (help: 'tabstop')
abbrev pub column_after : ℕ → ℕ → Kind → ℕ
column_after tabstop column Tab = (column / tabstop + 1) * tabstop
column_after tabstop column (Control byte) = column + 2
column_after tabstop column (Escape byte) = column + 4
column_after tabstop column (Cluster n) = if n == 2 then column + 2 else column + 1

-- the column behind pieces
abbrev pub columns_of_pieces : ℕ → ℕ → List Piece → ℕ
columns_of_pieces tabstop column [] = column
columns_of_pieces tabstop column (p ∷ ps) =
    columns_of_pieces tabstop (column_after tabstop column p.kind) ps

-- ---- what a piece is drawn as, wherever its row ends

abbrev pub byte_cells : Attr → List ℕ → List Cell
byte_cells attr bytes = map (λ byte. cell_of (byte ∷ []) attr) bytes

-- a wide cluster is a pair, or a filler if a row has one column
abbrev pub cells_of_cluster : DrawnLine → Bool → Cell → List Cell
cells_of_cluster d true c =
    if d.width == 1 then filler_of d.looks ∷ [] else c ∷ right_half c.attr ∷ []
cells_of_cluster d false c = c ∷ []

-- the cells of a piece that begins at a column
abbrev pub cells_of_kind : DrawnLine → ℕ → Attr → List ℕ → Kind → List Cell
cells_of_kind d column attr text Tab =
    replicate (column_after d.tabstop column Tab - column) (space attr)
cells_of_kind d column attr text (Control byte) =
    byte_cells (combined d.looks.special attr) (control_text byte)
cells_of_kind d column attr text (Escape byte) =
    byte_cells (combined d.looks.special attr) (escape_text byte)
cells_of_kind d column attr text (Cluster n) = cells_of_cluster d (n == 2) (cell_of text attr)

-- the cells of a piece, with the pieces before it
abbrev pub piece_cells : DrawnLine → List Piece → Piece → List Cell
piece_cells d before p =
    cells_of_kind d (columns_of_pieces d.tabstop 0 before) (attr_at d.spans p.from)
    (slice_range d.line p.from p.to) p.kind

-- ---- where a piece stands

-- the number of its first cell
abbrev pub first_cell : DrawnLine → Piece → ℕ
first_cell d p = cell_of_byte d.width d.tabstop d.line p.from

-- the number of the cell behind its last one
abbrev pub next_cell : DrawnLine → List Piece → Piece → ℕ
next_cell d before p = first_cell d p + length (piece_cells d before p)
