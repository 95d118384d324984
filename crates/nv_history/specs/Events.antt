-- What a history is made of: events of sessions, and what each comes to (own rule).
use Rattle.std.specs.Prelude.{ℕ, List, Option}
use Rattle.nv_rpc.specs.Calls.{Call}
use Rattle.nv_rpc.specs.Messages.{Sent}
use Rattle.nv_model.specs.Editors.{ModelEditor}

-- one event: a session is opened; a session, named by its number from 1, makes a call, takes what
-- waits for it, or is closed
pub data Event : Type 0 where
  open_session : Event
  request_of : ℕ → Call → Event
  take_of : ℕ → Event
  close_of : ℕ → Event

-- an entry of a history: an event, and the number of who applied it
pub record Entry : Type 0 where
  pub caller : ℕ
  pub event : Event

-- what closed a session, with the number of the entry, from 0: its own close; a message that became
-- due where its outbox had no room; the end of the editor
pub data Cause : Type 0 where
  closed_at : ℕ → Cause
  overflowed_at : ℕ → Cause
  quit_at : ℕ → Cause

-- why an event isn't taken: there is no session of this number; the entry of this number has closed
-- it, or has ended the editor; so many messages wait for it
pub data Stop : Type 0 where
  stranger : ℕ → Stop
  gone_by : ℕ → Stop
  held_with : ℕ → Stop

-- what an event comes to: the number of the session that was opened; a call was made; the messages
-- that were taken, with the editor as it is, where the session's UI is to show it; there is nothing
-- to take; nor will there be, for this cause; the session is closed
pub data Effect : Type 0 where
  opened : ℕ → Effect
  done : Effect
  gives : List Sent → Option ModelEditor → Effect
  nothing : Effect
  over : Cause → Effect
  closes : Effect

-- the number of the entry of a cause
abbrev pub entry_of : Cause → ℕ
entry_of (closed_at entry) = entry
entry_of (overflowed_at entry) = entry
entry_of (quit_at entry) = entry
