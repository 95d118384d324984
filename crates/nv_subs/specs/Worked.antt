-- Worked examples: what a client makes of messages, computed by the definitions.
use Prim.Native.String.{String}
use Rattle.std.specs.Prelude.{◌≡◌, ℕ, ℤ, pos, negsuc, List, [], ◌∷◌, codes, map, Some, None}
use Rattle.nv_value.specs.Content.{text, trees_of}
use Rattle.nv_rpc.specs.Messages.{Sent, lines_event, tick_event, detach_event}
use Rattle.nv_subs.specs.Mirrors.{absent, ticking, holding, mirror_of}

-- A lines event of buffer 1: its changedtick, the rows from the first up to before the last, and
-- the strings.
abbrev pub lines_told : ℕ → ℕ → ℤ → List String → Sent
lines_told tick first last lines =
    lines_event (pos 1) (pos tick) (pos first) last (trees_of (map (λ l. text (codes l)) lines))

-- All lines of buffer 1, at changedtick 2.
abbrev pub whole_told : List String → Sent
whole_told lines = lines_told 2 0 (negsuc 0) lines

-- A client has the lines at the changedtick of the last event; another buffer changes nothing.
abbrev pub LinesAreFollowed : Type 0
LinesAreFollowed =
    mirror_of (pos 1)
    (whole_told ("a" ∷ "b" ∷ []) ∷ lines_told 3 1 (pos 2) ("c" ∷ "d" ∷ [])
    ∷ detach_event (pos 2) ∷ lines_told 4 0 (pos 1) [] ∷ [])
    ≡ Some (holding (codes "c" ∷ codes "d" ∷ []) (pos 4))

-- Without the lines it has the changedtick alone, whatever rows are told.
abbrev pub TickIsFollowed : Type 0
TickIsFollowed =
    mirror_of (pos 1) (tick_event (pos 1) (pos 5) ∷ lines_told 6 7 (pos 9) ("a" ∷ []) ∷ [])
    ≡ Some (ticking (pos 6))

-- It ends with a detachment, and begins again with all lines.
abbrev pub MirrorEnds : Type 0
MirrorEnds =
    mirror_of (pos 1) (whole_told ("a" ∷ []) ∷ detach_event (pos 1) ∷ []) ≡ Some absent

abbrev pub MirrorBeginsAgain : Type 0
MirrorBeginsAgain =
    mirror_of (pos 1) (whole_told ("a" ∷ []) ∷ detach_event (pos 1) ∷ whole_told ("b" ∷ []) ∷ [])
    ≡ Some (holding (codes "b" ∷ []) (pos 2))

-- What doesn't fit: rows that aren't there, rows out of order, an event before all lines, a string
-- with a line end, and a last row below -1.
abbrev pub RowsMissing : Type 0
RowsMissing =
    mirror_of (pos 1) (whole_told ("a" ∷ []) ∷ lines_told 3 1 (pos 2) ("b" ∷ []) ∷ []) ≡ None

abbrev pub RowsOutOfOrder : Type 0
RowsOutOfOrder =
    mirror_of (pos 1) (whole_told ("a" ∷ []) ∷ lines_told 3 1 (pos 0) ("b" ∷ []) ∷ []) ≡ None

abbrev pub LinesMissing : Type 0
LinesMissing = mirror_of (pos 1) (lines_told 3 0 (pos 0) ("b" ∷ []) ∷ []) ≡ None

abbrev pub LineEndInside : Type 0
LineEndInside = mirror_of (pos 1) (whole_told ("a\n" ∷ []) ∷ []) ≡ None

abbrev pub LastRowBelow : Type 0
LastRowBelow = mirror_of (pos 1) (lines_told 2 0 (negsuc 1) [] ∷ []) ≡ None
