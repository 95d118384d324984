-- Laws of the order and of the moves of marks.
use Rattle.std.specs.Prelude.{◌≡◌, ℕ, ◌+◌, ◌*◌, ◌^◌, ◌≤◌, List, length}
use Rattle.std.specs.List.{IsDistinct}
use Rattle.nv_places.specs.declared.place.Pos.{Pos}
use Rattle.nv_places.specs.declared.place.Extent.{Extent}
use Rattle.nv_places.specs.Places.{IsNarrow, further}
use Rattle.nv_marks.specs.Order.{IsInOrder}
use Rattle.nv_marks.specs.Moves.{moved_mark, MovesNarrowly}
use Rattle.nv_marks.specs.Sound.{same_name}
use Rattle.nv_marks.specs.Cost.{count_within, most_steps, places_of}
use Rattle.nv_marks.specs.Bounds.{IsBelow, IsSpliceBelow}
use Rattle.nv_marks.specs.declared.extmark.Mark.{Mark}

-- marks of different names have one order only
abbrev pub OrderIsUnique : Type 0
OrderIsUnique = (marks a b : List Mark) → IsDistinct same_name marks → IsInOrder marks a
    → IsInOrder marks b → a ≡ b

-- what is below a third of 2 ^ 32 moves without passing 32 bits, and at most to three times the
-- bound
abbrev pub BoundedMoves : Type 0
BoundedMoves =
    (bound : ℕ) (start : Pos) (old new : Extent) (m : Mark) → IsSpliceBelow bound start old new
    → IsBelow bound m
    → 3 * bound ≤ 2 ^ 32
    → IsNarrow (further start old) × IsNarrow (further start new) × MovesNarrowly start old new m
    × IsBelow (3 * bound) (moved_mark start old new m)

-- among a thousand places a splice takes at most 192 steps and one for each in the replaced part
abbrev pub CostOfThousand : Type 0
CostOfThousand =
    (start : Pos) (old : Extent) (marks : List Mark) → length (places_of marks) ≡ 1000
    → most_steps start old marks
    ≡ count_within start (further start old) (places_of marks) + 192
