-- inside: the history of one session on its way.
use Rattle.std.specs.Prelude.{◌≡◌, ℕ, ◌<◌, List, [], ◌∷◌, ◌++◌, take, Option, Some, None}
use Rattle.std.specs.Io.KnownBytes.{append_known}
use Rattle.nv_rpc.specs.Calls.{Call}
use Rattle.nv_rpc.specs.Messages.{Sent}
use Rattle.nv_screen.specs.declared.scene.Scene.{Scene}
use Rattle.nv_linegrid.specs.declared.event.Redraw.{Redraw}
use Rattle.nv_linegrid.specs.Told.{Told, nothing_told}
use Rattle.nv_history.specs.Events.{take_of, close_of, Entry, Cause, closed_at}
use Rattle.nv_history.specs.Sessions.{Session}
use Rattle.nv_history.specs.Worlds.{World, session_of, step}
use Rattle.nv_history.specs.Asking.{calls_of}
use Rattle.nv_history.specs.Solo.{solo_from, solo_rest, solo_with_take, solo_with_close}
use Rattle.nv_history.specs.Spoken.{told_with, AreSpoken}
use Rattle.nv_speech.specs.Flows.{bytes_said}
use Rattle.nv_core.specs.declared.start.Start.{Start}
use Rattle.nv_session.specs.Sending.{world_after, batches_taken, AreBytesTaken, history_of, cause_after, HasSession}
use Rattle.nv_session.specs.Ends.{IsFront}

-- No close of its own has closed a session.
abbrev pub IsNotClosed : Session → Type 0
IsNotClosed x = (entry : ℕ) → x.closed ≡ Some (closed_at entry) → ⊥

-- A session has made a call, and what that made due waits; the history is the front of those of
-- sessions that make its calls and others.
pub record IsCalled (start : Start) (history : List Entry) : Type 0 where
  pub now : World
  pub runs : world_after start history ≡ Some now
  pub one : Session
  pub there : session_of now 1 ≡ Some one
  pub others : IsNotClosed one
  pub capacity : 0 < now.capacity
  pub goes : (rest : List Call)
      → history ++ solo_with_take (λ w. solo_from w rest) now (step now (take_of 1))
      ≡ history_of start (calls_of 1 history ++ rest)

-- A session is there, and nothing waits for it; the history is the front of those of sessions that
-- make its calls and others.
pub record HasNothingDue (start : Start) (history : List Entry) : Type 0 where
  pub now : World
  pub runs : world_after start history ≡ Some now
  pub one : Session
  pub there : session_of now 1 ≡ Some one
  pub others : IsNotClosed one
  pub idle : one.waiting ≡ []
  pub capacity : 0 < now.capacity
  pub goes : (rest : List Call)
      → history ++ solo_rest (λ w. solo_from w rest) now
      ≡ history_of start (calls_of 1 history ++ rest)

-- and it isn't closed
pub record IsAlone (start : Start) (history : List Entry) : Type 0 where
  pub nothing_due : HasNothingDue start history
  pub live : nothing_due.one.closed ≡ None

-- What is sent of the batches that the session took in a history, as its client was told them: the
-- bytes, and what the client was told by then.
abbrev pub IsSent : Start → List Entry → Told → List ℕ → Type 0
IsSent start history told bytes =
    (events : List Redraw) × AreSpoken nothing_told (batches_taken start history) bytes events told

-- A call was answered: these messages were taken, and this scene.
pub record Answers (start : Start) (call : Call) (messages : List Sent) (scene : Option Scene)
    (old new : List Entry) : Type 0 where
  pub nothing_due : HasNothingDue start new
  pub asked : calls_of 1 new ≡ calls_of 1 old ++ call ∷ []
  pub sent : (told : Told) (bytes : List ℕ) → IsSent start old told bytes
      → IsSent start new (told_with told scene) (bytes ++ bytes_said told messages scene)

-- A call was made, or not yet, and nothing was taken.
pub record IsUnanswered (start : Start) (call : Call) (old new : List Entry) : Type 0 where
  pub has : HasSession start new
  pub front : IsFront start (calls_of 1 old ++ call ∷ []) new
  pub taken : batches_taken start new ≡ batches_taken start old

-- A history with the close of its session, where that enters, is that of these calls.
pub record IsClosing (start : Start) (calls : List Call) (history : List Entry) : Type 0 where
  pub now : World
  pub runs : world_after start history ≡ Some now
  pub asked : calls_of 1 history ≡ calls
  pub ends : history ++ solo_with_close (step now (close_of 1)) ≡ history_of start calls

-- A history went on by calls that were answered, from what the client was told before to what it
-- was told then: what is sent of it and what went out grew by the same bytes.
pub record WentOn (start : Start) (calls : List Call) (old new : List Entry) (told later : Told)
    (before after : Option (List ℕ)) : Type 0 where
  pub gave : List ℕ
  pub asked : calls_of 1 new ≡ calls_of 1 old ++ calls
  pub sent : (bytes : List ℕ) → IsSent start old told bytes
      → IsSent start new later (bytes ++ gave)
  pub written : after ≡ append_known before gave

-- A history went on by calls whose answers went out whole, and by the next ones, of whose answers
-- together a prefix went out: it is, so far as `Is` says, that of all calls.
pub record WentPart (start : Start) (Is : Start → List Call → List Entry → Type 0)
    (calls next : List Call) (old new : List Entry) (told : Told)
    (before after : Option (List ℕ)) : Type 0 where
  pub has : HasSession start new
  pub gave : List ℕ
  pub last : List ℕ
  pub count : ℕ
  pub answered : (bytes : List ℕ) → IsSent start old told bytes
      → AreBytesTaken start (history_of start (calls_of 1 old ++ calls)) (bytes ++ gave)
  pub sent : (bytes : List ℕ) → IsSent start old told bytes
      → AreBytesTaken start new (bytes ++ gave ++ last)
  pub written : after ≡ append_known before (gave ++ take count last)
  pub is : Is start (calls_of 1 old ++ calls ++ next) new

-- A history went on by calls, the last of which closed the session for this cause.
pub record WentUpTo (start : Start) (cause : Cause) (calls : List Call) (old new : List Entry)
    (told : Told) (before after : Option (List ℕ)) : Type 0 where
  pub later : Told
  pub went : WentOn start calls old new told later before after
  pub nothing_due : HasNothingDue start new
  pub whatever : (more : List Call) → new ≡ history_of start (calls_of 1 new ++ more)
  pub cause_is : cause_after start new ≡ Some cause
