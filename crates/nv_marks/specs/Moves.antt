-- How a splice moves a mark: its start and its end, each by itself (help: api-extended-marks).
use Rattle.std.specs.Prelude.{option_map, IfSome}
use Rattle.nv_places.specs.declared.place.Pos.{Pos}
use Rattle.nv_places.specs.declared.place.Extent.{Extent}
use Rattle.nv_places.specs.Places.{IsNarrow}
use Rattle.nv_places.specs.Moves.{moved_place}
use Rattle.nv_marks.specs.declared.extmark.Far.{Far}
use Rattle.nv_marks.specs.declared.extmark.Mark.{Mark}

-- the end of a mark, by its own gravity
abbrev pub moved_far : Pos → Extent → Extent → Far → Far
moved_far start old new far = record far { pos = moved_place far.right start old new far.pos }

-- a mark after the extent `old` from `start` on became the extent `new`
abbrev pub moved_mark : Pos → Extent → Extent → Mark → Mark
moved_mark start old new m =
    record m {
      start = moved_place m.right start old new m.start;
      stop = option_map (moved_far start old new) m.stop;
    }

-- the places of a mark stay numbers of 32 bits
abbrev pub MovesNarrowly : Pos → Extent → Extent → Mark → Type 0
MovesNarrowly start old new m =
    IsNarrow (moved_place m.right start old new m.start)
    × IfSome m.stop (λ far. IsNarrow (moved_place far.right start old new far.pos))
