-- What the one session of a world is sent, by its history (MessagePack-RPC specification; Neovim
-- help `rpc`, `ui-events`).
use Rattle.std.specs.Prelude.{◌≡◌, ℕ, List, Option, Some, None}
use Rattle.nv_rpc.specs.Calls.{Call}
use Rattle.nv_rpc.specs.Messages.{Sent}
use Rattle.nv_history.specs.Events.{Entry, Cause}
use Rattle.nv_history.specs.Sessions.{Session}
use Rattle.nv_history.specs.Worlds.{World, session_of}
use Rattle.nv_history.specs.Runs.{TakenBatch, run, out, all_messages}
use Rattle.nv_history.specs.Solo.{solo}
use Rattle.nv_history.specs.Spoken.{AreBytesOf}
use Rattle.nv_core.specs.Sessions.{cause_of}
use Rattle.nv_core.specs.declared.start.Start.{Start}

-- the world after a history, where worlds begin so
abbrev pub world_after : Start → List Entry → Option World
world_after start kept = run start.outbox start.limits kept

-- the batches that the session, whose number is 1, took in a history: messages, and the editor
-- where the session's UI is to show it
abbrev pub batches_taken : Start → List Entry → List TakenBatch
batches_taken start kept = out start.outbox start.limits 1 kept

-- and their messages
abbrev pub messages_taken : Start → List Entry → List Sent
messages_taken start kept = all_messages (batches_taken start kept)

-- these bytes are what the session is sent of the batches that it took: the shortest spellings of
-- the messages of each, and then the redraw notification of a scene of its editor, where it has one
abbrev pub AreBytesTaken : Start → List Entry → List ℕ → Type 0
AreBytesTaken start kept bytes = AreBytesOf (batches_taken start kept) bytes

-- the history of a session that makes these calls: its opening; for each call a request, and a take
-- of what that made due; then its close, where no entry has closed it before
abbrev pub history_of : Start → List Call → List Entry
history_of start calls = solo start.outbox start.limits calls

-- what closed the session of a world, and that of a history
abbrev pub cause_in : Option World → Option Cause
cause_in None = None
cause_in (Some w) = cause_of (session_of w 1)

abbrev pub cause_after : Start → List Entry → Option Cause
cause_after start kept = cause_in (world_after start kept)

-- the session is there after a history
pub record HasSession (start : Start) (history : List Entry) : Type 0 where
  pub now : World
  pub runs : world_after start history ≡ Some now
  pub one : Session
  pub there : session_of now 1 ≡ Some one
