-- inside: what the events of the one session of a world come to.
use Rattle.std.specs.Prelude.{◌≡◌, List, [], ◌∷◌, ◌++◌, Option, Some, None}
use Rattle.nv_io.specs.declared.lanes.Ended.{Ended}
use Rattle.nv_io.specs.declared.lanes.Ended.TheVariants.{Overflowed, Quit}
use Rattle.nv_rpc.specs.Messages.{Sent}
use Rattle.nv_screen.specs.declared.scene.Scene.{Scene}
use Rattle.nv_history.specs.Events.{take_of, Entry, Cause, overflowed_at, quit_at, Effect, gives}
use Rattle.nv_history.specs.Worlds.{Outcome, refuses, idles, becomes}
use Rattle.nv_history.specs.Solo.{entry_alone}
use Rattle.nv_history.specs.Spoken.{ShowsIfGiven}
use Rattle.nv_core.specs.Contents.{plain_entries}
use Rattle.nv_world.specs.Worlds.{WorldRecord}

-- the history of a world
abbrev pub entries_in : WorldRecord → List Entry
entries_in k = plain_entries k.history

-- these messages, with this scene, are what an effect gives
abbrev pub GivesBatch : List Sent → Option Scene → Effect → Type 0
GivesBatch messages scene (gives given editor) = (messages ≡ given) × ShowsIfGiven editor scene
GivesBatch messages scene _ = ⊥

-- what a take gave, by what it comes to: what was due, with an entry, or nothing
abbrev pub TakesDue : List Sent → Option Scene → List Entry → List Entry → Option Outcome → Type 0
TakesDue messages scene old new (Some (becomes u effect)) =
    GivesBatch messages scene effect × (new ≡ old ++ entry_alone (take_of 1) ∷ [])
TakesDue messages scene old new (Some (idles effect)) =
    (messages ≡ []) × (scene ≡ None) × (new ≡ old)
TakesDue messages scene old new (Some (refuses stop)) = ⊥
TakesDue messages scene old new None = ⊥

-- an end tells what closed a session, and none tells that nothing has
abbrev pub IsEndedBy : Option Ended → Option Cause → Type 0
IsEndedBy None cause = cause ≡ None
IsEndedBy (Some (Overflowed entry)) cause = cause ≡ Some (overflowed_at entry)
IsEndedBy (Some (Quit entry)) cause = cause ≡ Some (quit_at entry)
IsEndedBy (Some _) cause = ⊥
