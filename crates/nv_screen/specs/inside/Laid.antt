-- inside: a screen that is being laid.
use Rattle.std.specs.Prelude.{◌≡◌, ℕ, ◌-◌, ◌≤◌, List, ◌++◌, length, map, replicate}
use Rattle.std.specs.List.{AllByRecursion}
use Rattle.nv_hl.specs.declared.cell.Cell.{Cell}
use Rattle.nv_hl.specs.Attributes.{empty_attr}
use Rattle.nv_hl.specs.Cells.{Screen, space}

-- inside: a row of a width, in which only the first cells were laid
abbrev pub whole_row : ℕ → List Cell → List Cell
whole_row width row = row ++ replicate (width - length row) (space empty_attr)

-- inside: the screen of such rows
abbrev pub screen_of_strips : ℕ → ℕ → List (List Cell) → Screen
screen_of_strips width height strips =
    record { width = width; height = height; rows = map (whole_row width) strips }

-- inside: rows none of which is wider
abbrev pub AreNarrow : ℕ → List (List Cell) → Type 0
AreNarrow width strips = AllByRecursion (λ r. length r ≤ width) strips

-- inside: as many rows as the screen is high, none wider than it is
pub record AreStrips (width height : ℕ) (strips : List (List Cell)) : Type 0 where
  pub high : length strips ≡ height
  pub narrow : AreNarrow width strips
