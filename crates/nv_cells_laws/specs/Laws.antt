-- Laws of the cells of a line. They say of each cell what stands there: each piece of the line
-- shows its cells, each behind the piece before it or behind a filler, and spaces follow the last.
use Rattle.std.specs.Prelude.{◌≡◌, ℕ, ◌+◌, ◌*◌, ◌%◌, ◌<◌, ◌≤◌, ◌⊎◌, false, List, [], ◌∷◌, ◌++◌, Some, drop, flat_map, length, replicate, slice_get, slice_range}
use Rattle.nv_text.specs.declared.piece.Kind.TheVariants.{Tab, Cluster}
use Rattle.nv_text.specs.declared.piece.Piece.{Piece}
use Rattle.nv_text.specs.Pieces.{pieces_of}
use Rattle.nv_hl.specs.declared.cell.Cell.{Cell}
use Rattle.nv_hl.specs.Cells.{is_right_half, space}
use Rattle.nv_linedraw.specs.LineCells.{attr_at, cell_of_byte, filler_of, rest_attr}
use Rattle.nv_cells_laws.specs.DrawnLines.{DrawnLine, columns_of_pieces, first_cell, line_cells, next_cell, piece_cells}

-- the texts of a line's pieces, in order, are the line
abbrev pub PiecesSpellLines : Type 0
PiecesSpellLines =
    (line : List ℕ) → flat_map (λ p. slice_range line p.from p.to) (pieces_of line) ≡ line

-- ---- where each piece stands

-- a piece, with those before it, shows its cells from its first cell on, which is that of each of
-- its bytes; a pair stands in one row
pub record StandsInLine (d : DrawnLine) (before : List Piece) (p : Piece) : Type 0 where
  pub shown : slice_range (line_cells d) (first_cell d p) (next_cell d before p)
      ≡ piece_cells d before p
  pub bytes : (byte : ℕ) → p.from ≤ byte → byte < p.to
      → cell_of_byte d.width d.tabstop d.line byte ≡ first_cell d p
  pub whole : p.kind ≡ Cluster 2
      → first_cell d p % d.width + length (piece_cells d before p) ≤ d.width

abbrev pub PiecesStand : Type 0
PiecesStand =
    (d : DrawnLine) (before after : List Piece) (p : Piece)
    → pieces_of d.line ≡ before ++ p ∷ after → StandsInLine d before p

-- the first piece stands at the first cell
abbrev pub FirstPiecesStandFirst : Type 0
FirstPiecesStandFirst =
    (d : DrawnLine) (after : List Piece) (p : Piece)
    → pieces_of d.line ≡ p ∷ after → first_cell d p ≡ 0

-- a filler stands at a cell, the last of its row, and behind it a pair, which has no room there
pub record FollowsFiller (d : DrawnLine) (cell : ℕ) (p : Piece) : Type 0 where
  pub pair : p.kind ≡ Cluster 2
  pub last : cell % d.width + 1 ≡ d.width
  pub filler : slice_get (line_cells d) cell ≡ Some (filler_of d.looks)
  pub next : first_cell d p ≡ cell + 1

-- each other piece stands behind the one before it, or behind a filler that does
abbrev pub PiecesFollow : Type 0
PiecesFollow =
    (d : DrawnLine) (before after : List Piece) (p q : Piece)
    → pieces_of d.line ≡ before ++ p ∷ q ∷ after
    → (first_cell d q ≡ next_cell d before p) ⊎ FollowsFiller d (next_cell d before p) q

-- behind the last piece there are spaces, fewer than a row has
abbrev pub RestsAreBlank : Type 0
RestsAreBlank =
    (d : DrawnLine) (before : List Piece) (p : Piece)
    → pieces_of d.line ≡ before ++ p ∷ []
    → (n : ℕ) × (n < d.width)
    × (drop (next_cell d before p) (line_cells d)
    ≡ replicate n (space (rest_attr d.spans (length d.line))))

-- a line without bytes is one row of spaces
abbrev pub EmptyLinesAreBlank : Type 0
EmptyLinesAreBlank =
    (d : DrawnLine) → d.line ≡ []
    → line_cells d ≡ replicate d.width (space (rest_attr d.spans 0))

-- what stands past the last byte, as a cursor may, has the first cell
abbrev pub BytesPastLinesStandFirst : Type 0
BytesPastLinesStandFirst =
    (d : DrawnLine) (byte : ℕ) → length d.line ≤ byte
    → cell_of_byte d.width d.tabstop d.line byte ≡ 0

-- ---- Tabs

-- a Tab, with the pieces before it, shows one to tabstop spaces up to a multiple of the tabstop
pub record ShowsTab (d : DrawnLine) (before : List Piece) (p : Piece) : Type 0 where
  pub count : ℕ
  pub shown : slice_range (line_cells d) (first_cell d p) (first_cell d p + count)
      ≡ replicate count (space (attr_at d.spans p.from))
  pub some : 0 < count
  pub most : count ≤ d.tabstop
  pub ends : (columns_of_pieces d.tabstop 0 before + count) % d.tabstop ≡ 0

abbrev pub TabsEndAtStops : Type 0
TabsEndAtStops =
    (d : DrawnLine) (before after : List Piece) (p : Piece)
    → pieces_of d.line ≡ before ++ p ∷ after → p.kind ≡ Tab → ShowsTab d before p

-- columns count the cells of the pieces, without fillers, where a row has room for a pair
abbrev pub ColumnsAreCells : Type 0
ColumnsAreCells =
    (d : DrawnLine) (before : List Piece) (p : Piece) → 1 < d.width
    → columns_of_pieces d.tabstop 0 (before ++ p ∷ [])
    ≡ columns_of_pieces d.tabstop 0 before + length (piece_cells d before p)

-- ---- halves

-- no row begins with the right half of a pair
abbrev pub NoRowBeginsWithHalf : Type 0
NoRowBeginsWithHalf =
    (d : DrawnLine) (row : ℕ) (c : Cell) → slice_get (line_cells d) (row * d.width) ≡ Some c
    → is_right_half c ≡ false
