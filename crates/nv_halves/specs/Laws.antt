-- Laws of the histories of sessions: what a session asks, and how the world's end closes it.
use Rattle.std.specs.Prelude.{◌≡◌, ℕ, List, [], ◌∷◌, ◌++◌, map, Option, Some, None}
use Rattle.nv_model.specs.declared.parts.Limits.{Limits}
use Rattle.nv_history.specs.Events.{Event, open_session, request_of, close_of, Entry, Cause, closed_at, overflowed_at, quit_at}
use Rattle.nv_history.specs.Sessions.{Session}
use Rattle.nv_history.specs.Worlds.{World, session_of}
use Rattle.nv_history.specs.Runs.{run}
use Rattle.nv_history.specs.Asking.{asked, calls_of}
use Rattle.nv_halves.specs.Passes.{IsClosedBy}

-- the close of a session, where its own close has closed it
abbrev pub own_close : ℕ → Option Cause → List Event
own_close s None = []
own_close s (Some (closed_at entry)) = close_of s ∷ []
own_close s (Some (overflowed_at entry)) = []
own_close s (Some (quit_at entry)) = []

-- what a session asked in a history: its opening, its calls in their order, and then its close,
-- just where its own close has closed it
unfoldable pub SessionsAskInOrder : Type 0
SessionsAskInOrder =
    (capacity : ℕ) (limits : Limits) (history : List Entry) (w : World) (s : ℕ) (x : Session)
    → run capacity limits history ≡ Some w → session_of w s ≡ Some x
    → map (λ e. e.event) (asked s history)
    ≡ open_session ∷ (map (request_of s) (calls_of s history) ++ own_close s x.closed)

-- the entry by whose end of the world a session is closed is the one that ended the world
unfoldable pub QuitsAreEnds : Type 0
QuitsAreEnds =
    (capacity : ℕ) (limits : Limits) (history : List Entry) (w : World) (s entry : ℕ)
    → run capacity limits history ≡ Some w → IsClosedBy w s (quit_at entry)
    → w.ended ≡ Some entry
