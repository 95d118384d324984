-- inside: how a session is left, before it is closed.
use Rattle.std.specs.Prelude.{◌≡◌, ◌⊎◌, ℕ, Bool, true, false, List, ◌++◌, Option, Some, None}
use Rattle.std.specs.List.{concat}
use Rattle.std.specs.Io.KnownBytes.{append_known}
use Rattle.nv_io.specs.declared.lanes.Flaw.{Flaw}
use Rattle.nv_io.specs.declared.lanes.Ended.{Ended}
use Rattle.nv_io.specs.declared.lanes.Ended.TheVariants.{Closed, Malformed, Overflowed, ReadFault, WriteFault, Quit, NoMemory}
use Rattle.nv_rpc.specs.Calls.{Call}
use Rattle.nv_history.specs.Events.{close_of, Entry, overflowed_at, quit_at}
use Rattle.nv_history.specs.Worlds.{World, step}
use Rattle.nv_history.specs.Asking.{calls_of}
use Rattle.nv_history.specs.Solo.{solo_with_close}
use Rattle.nv_core.specs.declared.start.Start.{Start}
use Rattle.nv_session.specs.Sending.{world_after, AreBytesTaken}
use Rattle.nv_calls.specs.Reading.{Reads, WasRead, IsUnfinished, IfInside}
use Rattle.nv_session.specs.Ends.{HasEarlier, AnswersSome, AnswersUpTo, IsFront}
use Rattle.nv_session.specs.inside.Alone.{IsAlone, IsClosing}

-- what the reads gave holds calls and then this flaw or none, each of the calls was answered, and
-- the session could go on
pub record LeavesAll (start : Start) (flaw : Option Flaw) (pieces : List (List ℕ))
    (history : List Entry) (before after : Option (List ℕ)) : Type 0 where
  pub calls : List Call
  pub reads : Reads calls (concat pieces) flaw
  pub earlier : HasEarlier calls pieces
  pub asked : calls_of 1 history ≡ calls
  pub alone : IsAlone start history
  pub sent : List ℕ
  pub sent_is : AreBytesTaken start history sent
  pub written : after ≡ append_known before sent

-- how a session is left that ends so
abbrev pub LeavesWith : Start → Ended → List (List ℕ) → Option (List ℕ) → List Entry
    → Option (List ℕ) → Option (List ℕ) → Type 0
LeavesWith start Closed pieces left history before after =
    LeavesAll start None pieces history before after × WasRead left (concat pieces)
LeavesWith start (Malformed flaw) pieces left history before after =
    LeavesAll start (Some flaw) pieces history before after
    × IfInside flaw (WasRead left (concat pieces))
LeavesWith start ReadFault pieces left history before after =
    (flaw : Option Flaw) × IsUnfinished flaw × LeavesAll start flaw pieces history before after
LeavesWith start WriteFault pieces left history before after =
    AnswersSome start IsClosing pieces history before after
LeavesWith start NoMemory pieces left history before after =
    AnswersSome start IsFront pieces history before after
LeavesWith start (Overflowed entry) pieces left history before after =
    AnswersUpTo start (overflowed_at entry) (concat pieces) history before after
LeavesWith start (Quit entry) pieces left history before after =
    AnswersUpTo start (quit_at entry) (concat pieces) history before after

-- a history gained the close of its session, where that enters
abbrev pub GainsClose : Start → List Entry → List Entry → Type 0
GainsClose start old new =
    (w : World) → world_after start old ≡ Some w
    → new ≡ old ++ solo_with_close (step w (close_of 1))

-- whether a session that ends so is still to be closed
abbrev pub leaves_open : Ended → Bool
leaves_open Closed = true
leaves_open (Malformed flaw) = true
leaves_open ReadFault = true
leaves_open WriteFault = true
leaves_open NoMemory = false
leaves_open (Overflowed entry) = false
leaves_open (Quit entry) = false

-- a session was closed, where that was to be done, or memory was wanting for it
abbrev pub IsClosedSo : Start → Bool → Ended → Ended → List Entry → List Entry → Type 0
IsClosedSo start true ended result old new =
    ((result ≡ ended) × GainsClose start old new) ⊎ ((result ≡ NoMemory) × (new ≡ old))
IsClosedSo start false ended result old new = (result ≡ ended) × (new ≡ old)
