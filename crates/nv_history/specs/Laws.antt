-- Laws of histories (own rule; help: api-buffer-updates).
use Rattle.std.specs.Prelude.{◌≡◌, ℕ, ℤ, nat_abs, ◌<◌, ◌≤◌, nat_lt, nat_le, ◌&&◌, false, List, [], ◌++◌, length, None, Some, is_some, IsSome}
use Rattle.nv_rpc.specs.Calls.{Call}
use Rattle.nv_rpc.specs.Messages.{Sent}
use Rattle.nv_places.specs.Flat.{lines_of}
use Rattle.nv_model.specs.Buffers.{ModelBuffer, text_of, tick_of}
use Rattle.nv_model.specs.Editors.{ModelEditor, at_handle}
use Rattle.nv_model.specs.declared.parts.Limits.{Limits}
use Rattle.nv_subs.specs.Mirrors.{mirror_of}
use Rattle.nv_dispatch.specs.Telling.{past_at, tick_then}
use Rattle.nv_history.specs.Events.{Entry, Cause, closed_at}
use Rattle.nv_history.specs.Sessions.{Session}
use Rattle.nv_history.specs.Worlds.{World, fresh_world, session_of}
use Rattle.nv_history.specs.Runs.{run_from, run, due}
use Rattle.nv_history.specs.Asking.{opened_in, calls_of}
use Rattle.nv_history.specs.Solo.{solo}
use Rattle.nv_history.specs.Texts.{lines_at_tick, last_tick_of, sends_lines_of, IsMirrored}

-- messages fold to a moment of a buffer: each of them fits, and where the last one about the buffer
-- is a lines event, the client follows that changedtick, and has the lines of the buffer at it
-- where its last attachment sent the lines
pub record FoldsToMoment (m : ModelEditor) (n : ℤ) (messages : List Sent) : Type 0 where
  pub fits : IsSome (mirror_of n messages)
  pub moment : (tick : ℤ) → last_tick_of n None messages ≡ Some tick
      → IsMirrored (lines_at_tick m n (nat_abs tick)) tick (sends_lines_of n false messages)
      (mirror_of n messages)

-- each front of what is due to a session of any history folds to a moment of each buffer
unfoldable pub FoldsToText : Type 0
FoldsToText =
    (capacity : ℕ) (limits : Limits) (history : List Entry) (w : World) (s : ℕ) (x : Session)
    (n : ℤ) (front back : List Sent)
    → run capacity limits history ≡ Some w → session_of w s ≡ Some x
    → due capacity limits s history ≡ front ++ back → FoldsToMoment w.editor n front

-- the lines that are seen of a live buffer are those at its changedtick
unfoldable pub LinesNowAreSeen : Type 0
LinesNowAreSeen =
    (capacity : ℕ) (limits : Limits) (history : List Entry) (w : World) (n : ℤ) (b : ModelBuffer)
    → run capacity limits history ≡ Some w → at_handle w.editor.buffers n ≡ Some b
    → lines_at_tick w.editor n (tick_of b) ≡ lines_of (text_of b)

-- ---- what is counted

-- the world after a history has counted its entries and the sessions that it opened
pub record Counts (capacity : ℕ) (limits : Limits) (history : List Entry) (w : World)
    : Type 0 where
  pub entries : w.entries ≡ length history
  pub sessions : length w.sessions ≡ opened_in 0 history
  pub same_capacity : w.capacity ≡ capacity
  pub same_limits : w.limits ≡ limits

unfoldable pub HistoriesCount : Type 0
HistoriesCount =
    (capacity : ℕ) (limits : Limits) (history : List Entry) (w : World)
    → run capacity limits history ≡ Some w → Counts capacity limits history w

-- a number is that of a session just where it isn't 0 and not above how many there are
unfoldable pub NumbersAreSessions : Type 0
NumbersAreSessions =
    (w : World) (s : ℕ)
    → is_some (session_of w s) ≡ (nat_lt 0 s && nat_le s (length w.sessions))

-- ---- a history that goes on

-- the world after a history is on the way of each longer one that is run
unfoldable pub FrontsRun : Type 0
FrontsRun =
    (capacity : ℕ) (limits : Limits) (history more : List Entry) (v : World)
    → run capacity limits (history ++ more) ≡ Some v
    → (w : World) × (run capacity limits history ≡ Some w) × (run_from w more ≡ Some v)

-- what is due to a session only grows
unfoldable pub DueOnlyGrows : Type 0
DueOnlyGrows =
    (capacity : ℕ) (limits : Limits) (history more : List Entry) (v : World) (s : ℕ)
    → run capacity limits (history ++ more) ≡ Some v
    → (rest : List Sent)
    × (due capacity limits s (history ++ more) ≡ due capacity limits s history ++ rest)

-- a session that is closed stays closed by the same cause, and nothing more is due to it
pub record StaysClosed (capacity : ℕ) (limits : Limits) (history more : List Entry) (v : World)
    (s : ℕ) (cause : Cause) : Type 0 where
  pub session : Session
  pub there : session_of v s ≡ Some session
  pub closed : session.closed ≡ Some cause
  pub same_due : due capacity limits s (history ++ more) ≡ due capacity limits s history

unfoldable pub CausesStay : Type 0
CausesStay =
    (capacity : ℕ) (limits : Limits) (history more : List Entry) (w v : World) (s : ℕ)
    (x : Session) (cause : Cause)
    → run capacity limits history ≡ Some w → run capacity limits (history ++ more) ≡ Some v
    → session_of w s ≡ Some x → x.closed ≡ Some cause
    → StaysClosed capacity limits history more v s cause

-- a buffer's lines at a changedtick that it has had stay what they are
unfoldable pub TextsAtTicksStay : Type 0
TextsAtTicksStay =
    (capacity : ℕ) (limits : Limits) (history more : List Entry) (w v : World) (n : ℤ) (tick : ℕ)
    → run capacity limits history ≡ Some w → run capacity limits (history ++ more) ≡ Some v
    → tick ≤ tick_then (past_at w.editor n).splices
    → lines_at_tick v.editor n tick ≡ lines_at_tick w.editor n tick

-- ---- one session alone

-- entries of session 1 alone run: in the end it is closed and nothing waits for it; its calls are
-- the first of these, and all of them unless another entry than its own close has closed it
pub record RunsWhole (w : World) (calls : List Call) (entries : List Entry) : Type 0 where
  pub last : World
  pub runs : run_from w entries ≡ Some last
  pub session : Session
  pub there : session_of last 1 ≡ Some session
  pub taken : session.waiting ≡ []
  pub cause : Cause
  pub closed : session.closed ≡ Some cause
  pub rest : List Call
  pub calls_are : calls ≡ calls_of 1 entries ++ rest
  pub whole : (entry : ℕ) → cause ≡ closed_at entry → rest ≡ []

-- each list of calls of a session alone makes a history that runs
unfoldable pub SoloRuns : Type 0
SoloRuns =
    (capacity : ℕ) (limits : Limits) (calls : List Call) → 0 < capacity
    → RunsWhole (fresh_world capacity limits) calls (solo capacity limits calls)
