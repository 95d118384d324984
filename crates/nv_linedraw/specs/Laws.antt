-- Laws of the cells of a line.
use Rattle.std.specs.Prelude.{◌≡◌, ℕ, ◌*◌, ◌<◌, List, length}
use Rattle.nv_linedraw.specs.declared.looks.Looks.{Looks}
use Rattle.nv_linedraw.specs.declared.looks.Span.{Span}
use Rattle.nv_linedraw.specs.LineCells.{cells_of_line, rows_of_line}

-- the cells of a line fill whole rows, at least one, whatever its spans and looks are
abbrev pub RowsAreWhole : Type 0
RowsAreWhole =
    (width tabstop : ℕ) (line : List ℕ) (spans : List Span) (looks : Looks) → 0 < width
    → 0 < tabstop
    → (length (cells_of_line width tabstop line spans looks)
    ≡ rows_of_line width tabstop line * width)
    × (0 < rows_of_line width tabstop line)
