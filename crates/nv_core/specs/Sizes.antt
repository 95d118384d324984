-- How many bytes of memory messages take that wait (own rule): 32 for each message, value and line,
-- and those of its string. A sum stands still at the greatest u64.
use Rattle.std.specs.Prelude.{ℕ, ◌+◌, ◌-◌, ◌^◌, min, List, [], ◌∷◌, length, Option, Some, None}
use Rattle.nv_value.specs.Content.{Tree, Trees, text, bin, list, pairs, ext, opaque, no_more, one}
use Rattle.nv_rpc.specs.Messages.{Sent, reply, lines_event, tick_event, detach_event, fault_event}
use Rattle.nv_history.specs.Events.{Cause}
use Rattle.nv_history.specs.Sessions.{Session}

-- a sum, as far as it can be counted
abbrev pub plus : ℕ → ℕ → ℕ
plus a b = min (a + b) (2 ^ 64 - 1)

abbrev mutual
  -- of a value
  pub memory_of : Tree → ℕ
  memory_of (text bytes) = plus 32 (length bytes)
  memory_of (bin bytes) = plus 32 (length bytes)
  memory_of (list ts) = memory_with ts 32
  memory_of (pairs ts) = memory_with ts 32
  memory_of (ext kind bytes) = plus 32 (length bytes)
  memory_of (opaque bytes) = plus 32 (length bytes)
  memory_of _ = 32

  -- of values, with so many bytes of others
  pub memory_with : Trees → ℕ → ℕ
  memory_with no_more n = n
  memory_with (one t ts) n = memory_with ts (plus n (memory_of t))

-- of a message: a reply with a fault has no result
abbrev pub memory_of_sent : Sent → ℕ
memory_of_sent (reply msgid None result) = plus 32 (memory_of result)
memory_of_sent (reply msgid (Some fault) result) = plus 32 (length fault.words)
memory_of_sent (lines_event buffer tick first last lines) = plus 32 (memory_with lines 32)
memory_of_sent (tick_event buffer tick) = 32
memory_of_sent (detach_event buffer) = 32
memory_of_sent (fault_event fault) = plus 32 (length fault.words)

-- of messages, behind so many bytes of others
abbrev pub memory_of_waiting : ℕ → List Sent → ℕ
memory_of_waiting n [] = n
memory_of_waiting n (message ∷ messages) =
    memory_of_waiting (plus n (memory_of_sent message)) messages

-- the bytes of what waits for a session that isn't closed
abbrev pub bytes_unless_closed : Option Cause → List Sent → ℕ
bytes_unless_closed None waiting = memory_of_waiting 0 waiting
bytes_unless_closed (Some cause) waiting = 0

-- the bytes that are due to a session, where it is there
abbrev pub bytes_due : Option Session → ℕ
bytes_due None = 0
bytes_due (Some x) = bytes_unless_closed x.closed x.waiting
