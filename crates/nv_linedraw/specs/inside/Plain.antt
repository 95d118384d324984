-- inside: lines of printable ASCII without spans, each byte of which is a cell by itself.
use Rattle.std.specs.Prelude.{ℕ, ◌%◌, ◌==◌, List, [], ◌∷◌, ◌++◌, length, map, replicate}
use Rattle.nv_hl.specs.declared.cell.Cell.{Cell}
use Rattle.nv_hl.specs.Attributes.{empty_attr}
use Rattle.nv_hl.specs.Cells.{cell_of, space}
use Rattle.nv_linedraw.specs.LineCells.{filling}

abbrev pub byte_cell : ℕ → Cell
byte_cell byte = cell_of (byte ∷ []) empty_attr

-- how many spaces fill the last row of so many cells
abbrev pub plain_filling : ℕ → ℕ → ℕ
plain_filling width count = filling width (count == 0) (count % width)

-- the cells of such a line in rows of a width
abbrev pub plain_line : ℕ → List ℕ → List Cell
plain_line width line =
    map byte_cell line ++ replicate (plain_filling width (length line)) (space empty_attr)
