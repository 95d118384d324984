-- What the words of the command line ask of the program.
use Rattle.std.specs.Prelude.{◌≡◌, ℕ, Bool, IsSome, List, Option, Some, None}
use Rattle.nv_dispatch.specs.Runs.{usual_limits}
use Rattle.nv_history.specs.Events.{Entry}
use Rattle.nv_core.specs.declared.start.Start.{Start}
use Rattle.nv_session.specs.Sending.{world_after}
use Rattle.nv_words.specs.Commands.{PlainCommand, embeds, serves, replays, generates, follows_buffer, shows}
use Rattle.nv_run.specs.declared.command.TheConstants.{USUAL_OUTBOX}

-- a world of the usual limits, whose outboxes hold so many messages
abbrev pub usual_start : ℕ → Start
usual_start outbox = record { outbox = outbox; limits = usual_limits }

-- the history that a command left runs in the world that it makes; that of a book begins as the
-- book says
abbrev pub RunsAs : Option PlainCommand → List Entry → Type 0
RunsAs None kept = IsSome (world_after (usual_start USUAL_OUTBOX) kept)
RunsAs (Some (embeds outbox)) kept = IsSome (world_after (usual_start outbox) kept)
RunsAs (Some (serves address sessions outbox book)) kept =
    IsSome (world_after (usual_start outbox) kept)
RunsAs (Some (replays name check)) kept =
    (outbox : ℕ) × IsSome (world_after (usual_start outbox) kept)
RunsAs (Some (generates number)) kept = IsSome (world_after (usual_start USUAL_OUTBOX) kept)
RunsAs (Some (follows_buffer address buffer)) kept =
    IsSome (world_after (usual_start USUAL_OUTBOX) kept)
RunsAs (Some (shows notice)) kept = IsSome (world_after (usual_start USUAL_OUTBOX) kept)

-- a port may be asked to listen on the address of a command, where it has one
abbrev pub MayListen : (List ℕ → Type 0) → Option PlainCommand → Type 0
MayListen may asked = (address : List ℕ) (sessions outbox : ℕ) (book : Option (List ℕ))
    → asked ≡ Some (serves address sessions outbox book) → may address

-- and files for the name of a command, where it has one
abbrev pub MayOpen : (List ℕ → Type 0) → Option PlainCommand → Type 0
MayOpen may asked =
    ((address : List ℕ) (sessions outbox : ℕ) (name : List ℕ)
    → asked ≡ Some (serves address sessions outbox (Some name)) → may name)
    × ((name : List ℕ) (check : Bool) → asked ≡ Some (replays name check) → may name)

-- and a dial for the address of a server, where it has one
abbrev pub MayDial : (List ℕ → Type 0) → Option PlainCommand → Type 0
MayDial may asked = (address : List ℕ) (buffer : ℕ) → asked ≡ Some (follows_buffer address buffer)
    → may address
