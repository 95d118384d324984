-- Cells, rows of cells and screens (help: ui-linegrid).
use Rattle.std.specs.Prelude.{◌≡◌, ℕ, ◌+◌, Bool, ◌&&◌, ◌==◌, List, [], ◌∷◌, length, replicate, slice_set, slice_index_or}
use Rattle.std.specs.List.{AllByRecursion}
use Rattle.std.specs.Str.{bytes_eq}
use Rattle.nv_hl.specs.declared.attribute.Attr.{Attr}
use Rattle.nv_hl.specs.declared.cell.Cell.{Cell}
use Rattle.nv_hl.specs.Attributes.{empty_attr, same_attr}

abbrev pub cell_of : List ℕ → Attr → Cell
cell_of text attr = record { text = text; attr = attr }

abbrev pub space : Attr → Cell
space attr = cell_of (32 ∷ []) attr

-- the right cell of a pair has the empty text (help: ui-event-grid_line)
abbrev pub right_half : Attr → Cell
right_half attr = cell_of [] attr

abbrev pub is_right_half : Cell → Bool
is_right_half c = length c.text == 0

abbrev pub same_cell : Cell → Cell → Bool
same_cell a b = same_attr a.attr b.attr && bytes_eq a.text b.text

-- a row with cells in place of its own from a column on; what passes its end is left out
abbrev pub with_cells : List Cell → ℕ → List Cell → List Cell
with_cells row col [] = row
with_cells row col (c ∷ cs) = with_cells (slice_set row col c) (col + 1) cs

-- rows with cells laid in one of them
abbrev pub with_strip : List (List Cell) → ℕ → ℕ → List Cell → List (List Cell)
with_strip rows row col cs = slice_set rows row (with_cells (slice_index_or rows row []) col cs)

-- a screen: rows of cells from the top, each from the left
pub record Screen : Type 0 where
  pub width : ℕ
  pub height : ℕ
  pub rows : List (List Cell)

-- as many rows as it is high, each with as many cells as it is wide
pub record IsSized (s : Screen) : Type 0 where
  pub high : length s.rows ≡ s.height
  pub wide : AllByRecursion (λ r. length r ≡ s.width) s.rows

abbrev pub blank_rows : ℕ → ℕ → List (List Cell)
blank_rows width height = replicate height (replicate width (space empty_attr))

-- spaces with the empty attribute
abbrev pub blank_screen : ℕ → ℕ → Screen
blank_screen width height =
    record { width = width; height = height; rows = blank_rows width height }
