-- Passes to the world behind a turn, as plain data, and what they gain (own rule).
use Rattle.std.specs.Prelude.{◌≡◌, ℕ, List, [], ◌∷◌, ◌++◌, Option, Some}
use mathlib.Core.List.{IsPrefix}
use Rattle.nv_turn.specs.Passes.{PassState}
use Rattle.nv_history.specs.Events.{Event, open_session, request_of, take_of, close_of, Entry, Cause}
use Rattle.nv_history.specs.Sessions.{Session}
use Rattle.nv_history.specs.Worlds.{World, session_of}
use Rattle.nv_history.specs.Asking.{own}
use Rattle.nv_core.specs.Contents.{plain_entries}
use Rattle.nv_core.specs.declared.entry.Entry.{Entry as WorldEntry}
use Rattle.nv_core.specs.declared.start.Start.{Start}
use Rattle.nv_core.specs.Starts.{world_of_run}

-- a pass to the world, whose entries are plain
abbrev pub WorldPass : Type 0
WorldPass = PassState Entry Start

abbrev pub plain_pass : PassState WorldEntry Start → WorldPass
plain_pass p = record {
  turn = p.turn;
  number = p.number;
  numbers = p.numbers;
  seen = plain_entries p.seen;
  start = p.start;
}

-- this is so of each history that runs and goes on from these entries
abbrev pub OfEach : Option Start → List Entry → (List Entry → World → Type 0) → Type 0
OfEach start seen P =
    (history : List Entry) (w : World) → world_of_run start history ≡ Some w → IsPrefix seen history
    → P history w

-- ---- what a pass gains

-- an event that the half of a session applies that reads, once it is opened, and that the half
-- applies that writes; each closes the session where it ends by itself
abbrev pub IsFromReader : ℕ → Event → Type 0
IsFromReader s open_session = ⊥
IsFromReader s (request_of t call) = t ≡ s
IsFromReader s (take_of t) = ⊥
IsFromReader s (close_of t) = t ≡ s

abbrev pub IsFromWriter : ℕ → Event → Type 0
IsFromWriter s open_session = ⊥
IsFromWriter s (request_of t call) = ⊥
IsFromWriter s (take_of t) = t ≡ s
IsFromWriter s (close_of t) = t ≡ s

abbrev pub EachEvent : (Event → Type 0) → List Entry → Type 0
EachEvent P [] = Unit {0}
EachEvent P (e ∷ es) = P e.event × EachEvent P es

-- the entries of a number that a pass has seen grew by these
pub record Gained (n : ℕ) (before now gained : List Entry) : Type 0 where
  pub own_is : own n now ≡ own n before ++ gained
  pub begins : IsPrefix before now

-- and each of them is of one kind
pub record GainedEach (P : Event → Type 0) (n : ℕ) (before now gained : List Entry) : Type 0 where
  pub gains : Gained n before now gained
  pub each : EachEvent P gained

-- ---- how a session stands in a world

-- it is closed for this cause
abbrev pub IsClosedBy : World → ℕ → Cause → Type 0
IsClosedBy w s cause = (x : Session) × (session_of w s ≡ Some x) × (x.closed ≡ Some cause)

-- and nothing waits for it
abbrev pub IsOver : World → ℕ → Cause → Type 0
IsOver w s cause =
    (x : Session) × (session_of w s ≡ Some x) × (x.closed ≡ Some cause) × (x.waiting ≡ [])
