-- Laws of whole inputs: one that holds calls and nothing else is answered, and the end is told by
-- what closed the session, unless a device failed or it was out of memory.
use Rattle.std.specs.Prelude.{◌≡◌, ◌⊎◌, ℕ, ◌^◌, ◌<◌, List, [], ◌++◌, length, Option, Some, None, ⊤}
use Rattle.std.specs.List.{concat}
use Rattle.std.specs.Io.KnownBytes.{append_known}
use Rattle.nv_io.specs.declared.lanes.Ended.{Ended}
use Rattle.nv_io.specs.declared.lanes.Ended.TheVariants.{Closed, Malformed, Overflowed, ReadFault, WriteFault, Quit, NoMemory}
use Rattle.nv_rpc.specs.Calls.{Call}
use Rattle.nv_history.specs.Events.{Entry, Cause, closed_at, overflowed_at, quit_at}
use Rattle.nv_history.specs.Worlds.{World}
use Rattle.nv_history.specs.Asking.{calls_of}
use Rattle.nv_core.specs.declared.start.Start.{Start}
use Rattle.nv_halves.specs.Passes.{IsClosedBy}
use Rattle.nv_calls.specs.Reading.{Reads}
use Rattle.nv_session.specs.Connections.{ConnectionEnds, Traffic}
use Rattle.nv_session.specs.Ends.{SessionEnds}
use Rattle.nv_session.specs.Sending.{AreBytesTaken, cause_after, history_of}

-- an end that a device gave, or the lack of memory
abbrev pub IsCutShort : Ended → Type 0
IsCutShort Closed = ⊥
IsCutShort (Malformed flaw) = ⊥
IsCutShort (Overflowed entry) = ⊥
IsCutShort ReadFault = ⊤
IsCutShort WriteFault = ⊤
IsCutShort (Quit entry) = ⊥
IsCutShort NoMemory = ⊤

-- the end of a session that was closed for a cause
abbrev pub ended_by : Cause → Ended
ended_by (closed_at entry) = Closed
ended_by (overflowed_at entry) = Overflowed entry
ended_by (quit_at entry) = Quit entry

-- what is left of a source, where it tells that: nothing else is known to be
abbrev pub known_left : Option (List ℕ) → List ℕ
known_left None = []
known_left (Some bytes) = bytes

-- what a source had is these calls and nothing else, by the bytes that were read and those that are
-- left; past 2 ^ 62 bytes it counts as ended
pub record HadCalls (calls : List Call) (read : List ℕ) (left : Option (List ℕ)) : Type 0 where
  pub short : length read < 2 ^ 62
  pub reads : Reads calls (read ++ known_left left) None

-- ---- a session alone

-- The history is that of a session that makes these calls, and the end is told by what closed it.
-- What went out grew by all that it is sent of what it took.
pub record AnswersCalls (start : Start) (calls : List Call) (ended : Ended) (kept : List Entry)
    (before after : Option (List ℕ)) : Type 0 where
  pub history : kept ≡ history_of start calls
  pub cause : Cause
  pub closed : cause_after start kept ≡ Some cause
  pub ended_is : ended ≡ ended_by cause
  pub sent : List ℕ
  pub sent_is : AreBytesTaken start kept sent
  pub written : after ≡ append_known before sent

-- an input of these calls and nothing else is answered so
unfoldable pub SessionsAnswerCalls : Type 0
SessionsAnswerCalls =
    (start : Start) (calls : List Call) (ended : Ended) (pieces : List (List ℕ))
    (left : Option (List ℕ)) (kept : List Entry) (before after : Option (List ℕ))
    → HadCalls calls (concat pieces) left
    → SessionEnds start ended pieces left kept before after
    → IsCutShort ended ⊎ AnswersCalls start calls ended kept before after

-- ---- a connection of many

-- in a history of many sessions a session made these calls, or was closed before the later ones by
-- an overflow or the end of the world; and the end is told by what closed it
pub record AsksFirst (calls : List Call) (ended : Ended) (s : ℕ) (history : List Entry)
    (world : World) : Type 0 where
  pub cause : Cause
  pub closed : IsClosedBy world s cause
  pub ended_is : ended ≡ ended_by cause
  pub later : List Call
  pub asked : calls ≡ calls_of s history ++ later
  pub all : ended ≡ Closed → later ≡ []

-- over a connection with an input of these calls and nothing else they were made so
unfoldable pub ConnectionsAnswerCalls : Type 0
ConnectionsAnswerCalls =
    (calls : List Call) (ended : Ended) (start : Option Start) (s : ℕ) (history : List Entry)
    (world : World) (x : Traffic)
    → HadCalls calls x.read x.left → ConnectionEnds ended start s history world x
    → IsCutShort ended ⊎ AsksFirst calls ended s history world
