-- inside: how a place on a line goes on, cell by cell.
use Rattle.std.specs.Prelude.{◌≡◌, ℕ, ◌+◌, ◌/◌, ◌%◌, ◌==◌, min, if◌then◌else◌}
use Rattle.nv_text.specs.declared.piece.Kind.{Kind}
use Rattle.nv_text.specs.declared.piece.Kind.TheVariants.{Tab, Control, Escape, Cluster}

-- inside: the cells that a piece takes from a column on, fillers counted, where a Tab takes so many
abbrev pub cells_taken : ℕ → ℕ → ℕ → Kind → ℕ
cells_taken width tab col Tab = tab
cells_taken width tab col (Control byte) = 2
cells_taken width tab col (Escape byte) = 4
cells_taken width tab col (Cluster n) =
    if n == 2 then (if width == 1 then 1 else if col + 1 == width then 3 else 2) else 1

-- inside: the row and column of a cell, rows counted up to `most`
pub record StandsAt (width most row col cell : ℕ) : Type 0 where
  pub row_is : row ≡ min most (cell / width)
  pub col_is : col ≡ cell % width
