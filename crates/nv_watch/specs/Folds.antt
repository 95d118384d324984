-- What sessions make of the buffers that they follow, message by message (help:
-- api-buffer-updates).
use Rattle.std.specs.Prelude.{ℤ, pos, ◌&&◌, Bool, true, false, not, List, [], ◌∷◌, Option, Some, None, is_some, unwrap_or, bytes_eq, ℕ}
use Rattle.std.specs.Cmp.Lexicographic.{pointwise}
use Rattle.std.specs.Ordering.{int_eq}
use Rattle.nv_rpc.specs.Messages.{Sent, reply, lines_event, tick_event, detach_event, fault_event}
use Rattle.nv_model.specs.Seen.{SeenBuffer}
use Rattle.nv_subs.specs.Mirrors.{Mirror, absent, ticking, holding, mirror_after}

-- a mirror of each buffer
abbrev pub Mirrors : Type 0
Mirrors = ℤ → Mirror

-- the mirror of a buffer after a message: as it was where the message doesn't fit
abbrev pub mirror_left : ℤ → Mirror → Sent → Mirror
mirror_left n mirror message = unwrap_or (mirror_after n mirror message) mirror

abbrev pub mirrors_after : Mirrors → Sent → Mirrors
mirrors_after mirrors message n = mirror_left n (mirrors n) message

abbrev pub mirrors_behind : Mirrors → List Sent → Mirrors
mirrors_behind mirrors [] = mirrors
mirrors_behind mirrors (m ∷ ms) = mirrors_behind (mirrors_after mirrors m) ms

-- whether a message fits the mirror of the buffer that it is about
abbrev pub does_fit : Mirrors → Sent → Bool
does_fit mirrors (lines_event about tick first last lines) =
    is_some (mirror_after about (mirrors about) (lines_event about tick first last lines))
does_fit mirrors (reply msgid fault result) = true
does_fit mirrors (tick_event about tick) = true
does_fit mirrors (detach_event about) = true
does_fit mirrors (fault_event fault) = true

-- whether each of some messages fits, one after another
abbrev pub do_fit : Mirrors → List Sent → Bool
do_fit mirrors [] = true
do_fit mirrors (m ∷ ms) = does_fit mirrors m && do_fit (mirrors_after mirrors m) ms

-- whether a message tells lines of a buffer, and whether one of some messages does
abbrev pub tells_lines : ℤ → Sent → Bool
tells_lines n (lines_event about tick first last lines) = int_eq about n
tells_lines n (reply msgid fault result) = false
tells_lines n (tick_event about tick) = false
tells_lines n (detach_event about) = false
tells_lines n (fault_event fault) = false

-- whether two texts have the same lines
abbrev pub are_same_lines : List (List ℕ) → List (List ℕ) → Bool
are_same_lines = pointwise bytes_eq

-- whether a mirror holds other lines than a buffer that has its changedtick
abbrev pub holds_other : Mirror → Option SeenBuffer → Bool
holds_other absent there = false
holds_other (ticking tick) there = false
holds_other (holding lines tick) None = false
holds_other (holding lines tick) (Some b) =
    int_eq tick (pos b.tick) && not (are_same_lines b.lines lines)
