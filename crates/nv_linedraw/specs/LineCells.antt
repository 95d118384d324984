-- The cells that a line is drawn in, row by row.
use Rattle.std.specs.Prelude.{ℕ, ◌+◌, ◌-◌, ◌/◌, ◌%◌, Bool, true, false, not, ◌&&◌, ◌==◌, nat_le, nat_lt, if◌then◌else◌, List, [], ◌∷◌, ◌++◌, length, replicate, slice_range, bit_xor}
use Rattle.nv_text.specs.declared.piece.Kind.{Kind}
use Rattle.nv_text.specs.declared.piece.Kind.TheVariants.{Tab, Control, Escape, Cluster}
use Rattle.nv_text.specs.declared.piece.Piece.{Piece}
use Rattle.nv_text.specs.Pieces.{pieces_of}
use Rattle.nv_hl.specs.declared.attribute.Attr.{Attr}
use Rattle.nv_hl.specs.declared.cell.Cell.{Cell}
use Rattle.nv_hl.specs.Attributes.{combined, empty_attr}
use Rattle.nv_hl.specs.Cells.{cell_of, right_half, space}
use Rattle.nv_linedraw.specs.declared.looks.Looks.{Looks}
use Rattle.nv_linedraw.specs.declared.looks.Span.{Span}

-- ---- attributes

-- the range from its start to before its end holds the place (own rule)
abbrev pub span_holds : Span → ℕ → Bool
span_holds s offset = nat_le s.from offset && nat_lt offset s.to

-- the spans that hold a byte, each laid over those before it
abbrev pub attr_over : Attr → List Span → ℕ → Attr
attr_over low [] offset = low
attr_over low (s ∷ ss) offset =
    attr_over (if span_holds s offset then combined low s.attr else low) ss offset

-- the attribute of a byte
abbrev pub attr_at : List Span → ℕ → Attr
attr_at spans offset = attr_over empty_attr spans offset

abbrev pub rest_over : Attr → List Span → ℕ → Attr
rest_over low [] offset = low
rest_over low (s ∷ ss) offset =
    rest_over (if s.eol && span_holds s offset then combined low s.attr else low) ss offset

-- the attribute of what follows a line in its last row: of the spans with `eol` that hold the
-- line's end (help: nvim_buf_set_extmark(), hl_eol)
abbrev pub rest_attr : List Span → ℕ → Attr
rest_attr spans len = rest_over empty_attr spans len

-- ---- what a piece is drawn as

-- a cell by itself, or a pair of cells that shows one wide cluster
pub data Atom : Type 0 where
  single : Cell → Atom
  double : Cell → Atom

abbrev pub ones : List ℕ → Attr → List Atom
ones [] attr = []
ones (byte ∷ bytes) attr = single (cell_of (byte ∷ []) attr) ∷ ones bytes attr

-- a control character is `^` and a character (help: 'isprint')
abbrev pub control_text : ℕ → List ℕ
control_text byte = 0x5E ∷ bit_xor byte 0x40 ∷ []

-- a digit of base 16 in ASCII, with small letters
abbrev pub hex_digit : ℕ → ℕ
hex_digit n = if nat_lt n 10 then 0x30 + n else 0x57 + n

-- `<xx>`, with the byte in base 16 (help: 'display')
abbrev pub escape_text : ℕ → List ℕ
escape_text byte = 0x3C ∷ hex_digit (byte / 16) ∷ hex_digit (byte % 16) ∷ 0x3E ∷ []

abbrev pub cluster_atom : Bool → List ℕ → Attr → Atom
cluster_atom true text attr = double (cell_of text attr)
cluster_atom false text attr = single (cell_of text attr)

-- the atoms of a piece, where so many cells of the line stand behind the last tab stop (help:
-- 'tabstop')
abbrev pub kind_atoms : ℕ → ℕ → Attr → Attr → List ℕ → Kind → List Atom
kind_atoms tabstop stop attr special text Tab = replicate (tabstop - stop) (single (space attr))
kind_atoms tabstop stop attr special text (Control byte) =
    ones (control_text byte) (combined special attr)
kind_atoms tabstop stop attr special text (Escape byte) =
    ones (escape_text byte) (combined special attr)
kind_atoms tabstop stop attr special text (Cluster width) = cluster_atom (width == 2) text attr ∷ []

-- a piece has the attribute of its first byte; controls and escapes have `special` below it (own
-- rule)
abbrev pub piece_atoms : ℕ → ℕ → List ℕ → List Span → Attr → Piece → List Atom
piece_atoms tabstop stop line spans special p =
    kind_atoms tabstop stop (attr_at spans p.from) special (slice_range line p.from p.to) p.kind

-- a counter that goes round at n
abbrev pub round : ℕ → ℕ → ℕ
round n k = if k + 1 == n then 0 else k + 1

-- the cells behind the last tab stop, once a piece more stands there
abbrev pub stop_after : ℕ → ℕ → Kind → ℕ
stop_after tabstop stop Tab = 0
stop_after tabstop stop (Control byte) = round tabstop (round tabstop stop)
stop_after tabstop stop (Escape byte) =
    round tabstop (round tabstop (round tabstop (round tabstop stop)))
stop_after tabstop stop (Cluster width) =
    if width == 2 then round tabstop (round tabstop stop) else round tabstop stop

abbrev pub atoms_from : ℕ → ℕ → List ℕ → List Span → Attr → List Piece → List Atom
atoms_from tabstop stop line spans special [] = []
atoms_from tabstop stop line spans special (p ∷ ps) =
    piece_atoms tabstop stop line spans special p
    ++ atoms_from tabstop (stop_after tabstop stop p.kind) line spans special ps

-- the atoms of a line
abbrev pub line_atoms : ℕ → List ℕ → List Span → Looks → List Atom
line_atoms tabstop line spans looks = atoms_from tabstop 0 line spans looks.special (pieces_of line)

-- ---- rows

-- the cells of a pair at a column. Where one column is left the filler stands there and the pair on
-- the next row; in rows of one column the filler stands for it (help: 'wrap', 'listchars')
abbrev pub pair_cells : ℕ → Cell → ℕ → Cell → List Cell
pair_cells width filler col c =
    if width == 1 then filler ∷ []
    else if col + 1 == width then filler ∷ c ∷ right_half c.attr ∷ []
    else c ∷ right_half c.attr ∷ []

abbrev pub atom_cells : ℕ → Cell → ℕ → Atom → List Cell
atom_cells width filler col (single c) = c ∷ []
atom_cells width filler col (double c) = pair_cells width filler col c

abbrev pub pair_col : ℕ → ℕ → ℕ
pair_col width col =
    if width == 1 then 0
    else if col + 1 == width then round width 1
    else round width (round width col)

-- the column behind an atom
abbrev pub atom_col : ℕ → ℕ → Atom → ℕ
atom_col width col (single c) = round width col
atom_col width col (double c) = pair_col width col

-- the cells of atoms in rows of a width, from a column on
abbrev pub cells_from_column : ℕ → Cell → ℕ → List Atom → List Cell
cells_from_column width filler col [] = []
cells_from_column width filler col (a ∷ rest) =
    atom_cells width filler col a ++ cells_from_column width filler (atom_col width col a) rest

-- the column behind atoms
abbrev pub col_after : ℕ → ℕ → List Atom → ℕ
col_after width col [] = col
col_after width col (a ∷ rest) = col_after width (atom_col width col a) rest

-- how many spaces fill the last row; an empty line has one row
abbrev pub filling : ℕ → Bool → ℕ → ℕ
filling width true col = width
filling width false col = if col == 0 then 0 else width - col

-- the cells of atoms in whole rows
abbrev pub row_cells : ℕ → Cell → Cell → Bool → List Atom → List Cell
row_cells width filler blank none atoms =
    cells_from_column width filler 0 atoms
    ++ replicate (filling width none (col_after width 0 atoms)) blank

-- the cell that stands where a pair doesn't fit
abbrev pub filler_of : Looks → Cell
filler_of looks = cell_of (0x3E ∷ []) looks.nontext

-- the cells of a line in rows of a width, one row behind another
unfoldable pub cells_of_line : ℕ → ℕ → List ℕ → List Span → Looks → List Cell
cells_of_line width tabstop line spans looks =
    row_cells width (filler_of looks) (space (rest_attr spans (length line))) (length line == 0)
    (line_atoms tabstop line spans looks)

abbrev pub no_looks : Looks
no_looks = record { nontext = empty_attr; special = empty_attr; beyond = empty_attr }

-- how many rows of a width a line has
abbrev pub rows_of_line : ℕ → ℕ → List ℕ → ℕ
rows_of_line width tabstop line = length (cells_of_line width tabstop line [] no_looks) / width

-- ---- the cell of a byte

-- a pair that has one column left stands behind the filler, which is no cell of it
abbrev pub cells_ahead : ℕ → ℕ → Kind → ℕ
cells_ahead width col (Cluster n) =
    if (n == 2) && not (width == 1) && (col + 1 == width) then 1 else 0
cells_ahead width col kind = 0

-- the number of the first cell of the piece that holds a byte, where `at` cells stand before these
-- pieces; the line's first cell where none of them does (own rule)
abbrev pub cell_of_byte_from : ℕ → ℕ → List ℕ → ℕ → ℕ → ℕ → ℕ → List Piece → ℕ
cell_of_byte_from width tabstop line byte stop col at [] = 0
cell_of_byte_from width tabstop line byte stop col at (p ∷ ps) =
    let xs = piece_atoms tabstop stop line [] empty_attr p in
    if nat_lt byte p.to then at + cells_ahead width col p.kind
    else
    cell_of_byte_from width tabstop line byte (stop_after tabstop stop p.kind)
    (col_after width col xs)
    (at + length (cells_from_column width (space empty_attr) col xs))
    ps

abbrev pub cell_of_byte : ℕ → ℕ → List ℕ → ℕ → ℕ
cell_of_byte width tabstop line byte =
    cell_of_byte_from width tabstop line byte 0 0 0 (pieces_of line)

-- the number of cells of a line in rows of a width, fillers counted, and not the spaces behind them
abbrev pub line_length : ℕ → ℕ → List ℕ → ℕ
line_length width tabstop line =
    length (cells_from_column width (space empty_attr) 0
    (atoms_from tabstop 0 line [] empty_attr (pieces_of line)))

-- ---- a text in one row

-- a span over all of a text
abbrev pub whole_span : Attr → List ℕ → List Span
whole_span attr text = record { from = 0; to = length text; attr = attr; eol = false } ∷ []

-- the cells of a text in a row without end, all with one attribute (own rule)
abbrev pub cells_in_one_row : ℕ → Attr → List ℕ → List Cell
cells_in_one_row tabstop attr text =
    cells_from_column 0 (space attr) 0
    (atoms_from tabstop 0 text (whole_span attr text) empty_attr (pieces_of text))
