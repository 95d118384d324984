-- Laws that join the flat text, its places and the moves in it.
use Rattle.std.specs.Prelude.{◌≡◌, ℕ, ◌-◌, ◌≤◌, Bool, List, [], ◌∷◌, ◌++◌, length, take, drop, All, nat_lt}
use Rattle.std.specs.List.{splice, join_with_byte}
use Rattle.nv_places.specs.Flat.{flat, IsLine, row_start, line_at, lines_of}
use Rattle.nv_places.specs.Places.{place_of, end_of, extent_of, offset_of, IsPlaceIn, further, is_before}
use Rattle.nv_places.specs.Moves.{moved_offset, moved_place}
use Rattle.nv_places.specs.declared.place.Pos.{Pos}

-- the flat text of lines after lines is the one flat text after the other
abbrev pub FlatJoins : Type 0
FlatJoins = (a b : List (List ℕ)) → flat (a ++ b) ≡ flat a ++ flat b

-- the lines can be read back from their flat text
abbrev pub FlatKeepsLines : Type 0
FlatKeepsLines = (lines : List (List ℕ)) → All IsLine lines → lines_of (flat lines) ≡ lines

-- to replace whole lines is to replace the bytes from the start of the first up to the start of the
-- line after the last
abbrev pub FlatSplices : Type 0
FlatSplices =
    (lines new : List (List ℕ)) (from to : ℕ)
    → flat (splice lines from to new)
    ≡ splice (flat lines) (row_start lines from) (row_start lines to) (flat new)

-- joined lines lack nothing of their flat text but the last byte 10
abbrev pub FlatEndsInFeed : Type 0
FlatEndsInFeed = (line : List ℕ) (lines : List (List ℕ))
    → flat (line ∷ lines) ≡ join_with_byte 10 (line ∷ lines) ++ 10 ∷ []

-- the place of the whole text is the row after the last line, column 0
abbrev pub EndIsLineCount : Type 0
EndIsLineCount = (lines : List (List ℕ)) → All IsLine lines
    → end_of (flat lines) ≡ record { row = length lines; col = 0 }

-- whole lines reach as many rows on, to column 0
abbrev pub LinesReach : Type 0
LinesReach = (lines : List (List ℕ)) → All IsLine lines
    → extent_of (flat lines) ≡ record { rows = length lines; cols = 0 }

-- joined lines reach to the end of the last one
abbrev pub JoinedReach : Type 0
JoinedReach =
    (line : List ℕ) (lines : List (List ℕ)) → All IsLine (line ∷ lines)
    → extent_of (join_with_byte 10 (line ∷ lines))
    ≡ record { rows = length lines; cols = length (line_at (line ∷ lines) (length lines)) }

-- what follows a text ends its own extent further
abbrev pub PlacesAdd : Type 0
PlacesAdd = (a b : List ℕ) → end_of (a ++ b) ≡ further (end_of a) (extent_of b)

-- a place of a text is the place of its offset, which lies in the text
abbrev pub PlacesHaveOffsets : Type 0
PlacesHaveOffsets =
    (lines : List (List ℕ)) (p : Pos) → All IsLine lines → IsPlaceIn lines p
    → (offset_of lines p ≤ length (flat lines)) × (place_of (flat lines) (offset_of lines p) ≡ p)

-- an offset in a text is the offset of its place, which is a place of the text
abbrev pub OffsetsHavePlaces : Type 0
OffsetsHavePlaces =
    (lines : List (List ℕ)) (offset : ℕ) → All IsLine lines → offset ≤ length (flat lines)
    → IsPlaceIn lines (place_of (flat lines) offset)
    × (offset_of lines (place_of (flat lines) offset) ≡ offset)

-- places stand in the order of their offsets
abbrev pub PlacesKeepOrder : Type 0
PlacesKeepOrder =
    (text : List ℕ) (m n : ℕ) → m ≤ length text → n ≤ length text
    → is_before (place_of text m) (place_of text n) ≡ nat_lt m n

-- for each splice of a text, to move an offset and then take its place is to take its place and
-- then move that
abbrev pub MovesAgree : Type 0
MovesAgree =
    (text new : List ℕ) (s e offset : ℕ) (right : Bool) → s ≤ e → e ≤ length text
    → offset ≤ length text
    → place_of (splice text s e new) (moved_offset right s e (length new) offset)
    ≡ moved_place right (place_of text s) (extent_of (take (e - s) (drop s text))) (extent_of new)
    (place_of text offset)

-- a place of a text is moved to a place of the text after the splice
abbrev pub MovesStay : Type 0
MovesStay =
    (lines after : List (List ℕ)) (new : List ℕ) (s e : ℕ) (right : Bool) (p : Pos)
    → All IsLine lines → All IsLine after
    → s ≤ e → e ≤ length (flat lines) → flat after ≡ splice (flat lines) s e new → IsPlaceIn lines p
    → IsPlaceIn after
    (moved_place right (place_of (flat lines) s) (extent_of (take (e - s) (drop s (flat lines))))
    (extent_of new) p)
