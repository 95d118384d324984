-- What a client makes of the events of a buffer (Neovim help `api-buffer-updates`).
use Rattle.std.specs.Prelude.{ℕ, ◌==◌, nat_le, Bool, ◌&&◌, if◌then◌else◌, ℤ, pos, negsuc, List, [], ◌∷◌, length, Option, Some, None, option_and_then}
use Rattle.std.specs.List.{list_any, splice}
use Rattle.std.specs.Ordering.{int_eq}
use Rattle.nv_value.specs.Content.{Tree, Trees, no_more, one, text}
use Rattle.nv_rpc.specs.Messages.{Sent, reply, lines_event, tick_event, detach_event, fault_event}
use Rattle.nv_rpc.specs.Steps.{◌>>=◌}

-- A client's mirror of a buffer: it has none, its changedtick alone, or its lines at a changedtick.
pub data Mirror : Type 0 where
  absent : Mirror
  ticking : ℤ → Mirror
  holding : List (List ℕ) → ℤ → Mirror

-- The line that a value is: a string without the byte 10 (own rule: any bytes otherwise).
abbrev pub line_in : Tree → Option (List ℕ)
line_in (text bytes) = if list_any (λ b. b == 10) bytes then None else Some bytes
line_in _ = None

-- The lines that values are, where each is one.
abbrev pub event_lines : Trees → Option (List (List ℕ))
event_lines no_more = Some []
event_lines (one t ts) = do
  line ← line_in t
  lines ← event_lines ts
  Some (line ∷ lines)

-- A mirror, where it fits.
abbrev pub mirror_if : Bool → Mirror → Option Mirror
mirror_if fits mirror = if fits then Some mirror else None

-- A mirror once lines stand in place of those from `first` up to before `last`; a client that has
-- the changedtick alone looks at no line.
abbrev pub mirror_with_lines : Mirror → ℤ → ℕ → ℕ → List (List ℕ) → Option Mirror
mirror_with_lines absent tick first last new = None
mirror_with_lines (ticking before) tick first last new =
    mirror_if (nat_le first last) (ticking tick)
mirror_with_lines (holding lines before) tick first last new =
    mirror_if (nat_le first last && nat_le last (length lines))
    (holding (splice lines first last new) tick)

-- A mirror after a lines event: all lines where `last` is -1 (Neovim help `nvim_buf_lines_event`);
-- no other number below 0 fits (own rule).
abbrev pub mirror_after_lines : Mirror → ℤ → ℤ → ℤ → List (List ℕ) → Option Mirror
mirror_after_lines mirror tick first (negsuc n) new = mirror_if (n == 0) (holding new tick)
mirror_after_lines mirror tick (negsuc n) (pos last) new = None
mirror_after_lines mirror tick (pos first) (pos last) new =
    mirror_with_lines mirror tick first last new

-- A client's mirror of a buffer after a message; none where the message doesn't fit. What isn't
-- about the buffer changes nothing.
abbrev pub mirror_after : ℤ → Mirror → Sent → Option Mirror
mirror_after buffer mirror (lines_event about tick first last new) =
    if int_eq about buffer
    then option_and_then (mirror_after_lines mirror tick first last) (event_lines new)
    else Some mirror
mirror_after buffer mirror (tick_event about tick) =
    Some (if int_eq about buffer then ticking tick else mirror)
mirror_after buffer mirror (detach_event about) =
    Some (if int_eq about buffer then absent else mirror)
mirror_after buffer mirror (reply msgid fault result) = Some mirror
mirror_after buffer mirror (fault_event fault) = Some mirror

-- The mirror after messages in order; none where one of them doesn't fit.
abbrev pub mirror_after_all : ℤ → Mirror → List Sent → Option Mirror
mirror_after_all buffer mirror [] = Some mirror
mirror_after_all buffer mirror (message ∷ messages) =
    option_and_then (λ next. mirror_after_all buffer next messages)
    (mirror_after buffer mirror message)

-- The mirror of a client that was sent these messages.
abbrev pub mirror_of : ℤ → List Sent → Option Mirror
mirror_of buffer messages = mirror_after_all buffer absent messages

-- The lines that a mirror holds, and the changedtick that it knows.
abbrev pub mirror_lines : Mirror → Option (List (List ℕ))
mirror_lines absent = None
mirror_lines (ticking tick) = None
mirror_lines (holding lines tick) = Some lines

abbrev pub mirror_tick : Mirror → Option ℤ
mirror_tick absent = None
mirror_tick (ticking tick) = Some tick
mirror_tick (holding lines tick) = Some tick

-- What a client that follows a buffer has: the buffer, and its mirror of it.
pub record FollowedBuffer : Type 0 where
  pub buffer : ℤ
  pub mirror : Mirror
