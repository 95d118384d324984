-- inside: where a history stands that is gone over.
use Rattle.std.specs.Prelude.{◌≡◌, ℕ, List, [], ◌∷◌, ◌++◌, map, Option, Some, None, slice_get}
use Rattle.nv_rpc.specs.Messages.{Sent}
use Rattle.nv_screen.specs.declared.scene.Scene.{Scene}
use Rattle.nv_linegrid.specs.Told.{Told, nothing_told}
use Rattle.nv_painter.specs.Painters.{Painting}
use Rattle.nv_history.specs.Events.{Event}
use Rattle.nv_history.specs.Worlds.{World, step}
use Rattle.nv_history.specs.Spoken.{bytes_of_messages, bytes_of_scene, told_with}
use Rattle.nv_core.specs.Contents.{sent_of_shared}
use Rattle.nv_world.specs.Worlds.{WorldRecord, model_of}
use Rattle.nv_core.specs.declared.effect.Effect.{Effect}
use Rattle.nv_core.specs.declared.effect.Effect.TheVariants.{Opened, Done, Items, Nothing, Over, Closed}
use Rattle.nv_book.specs.Outputs.{ToldBy, told_once_more, session_named, Enters}

-- the bytes of messages, and of the redraw notification of a scene, where there is one
abbrev pub bytes_of_given : Told → List Sent → Option Scene → List ℕ
bytes_of_given told messages scene = bytes_of_messages messages ++ bytes_of_scene told scene

-- what the client of each session was told, by the painters; one without a painter was told nothing
abbrev pub told_of_painting : Option Painting → Told
told_of_painting None = nothing_told
told_of_painting (Some p) = p.told

abbrev pub told_at : List Painting → ToldBy
told_at ps s = told_of_painting (slice_get ps s)

-- a world and painters stand for these
abbrev pub IsPlayedTo : WorldRecord → List Painting → World → ToldBy → Type 0
IsPlayedTo k ps w told = (model_of k ≡ Some w) × ((s : ℕ) → told_at ps s ≡ told s)

-- painters spoke these messages and this scene to a session in these bytes
pub record SpeaksFor (ps qs : List Painting) (s : ℕ) (messages : List Sent) (scene : Option Scene)
    (bytes : List ℕ) : Type 0 where
  pub bytes_are : bytes ≡ bytes_of_given (told_at ps s) messages scene
  pub told_are : (t : ℕ) → told_at qs t
      ≡ told_once_more (told_at ps) s (told_with (told_at ps s) scene) t

-- what an effect gives went out to a session in these bytes; the session is the one that is told
abbrev pub GaveOut : Effect → ℕ → ℕ → List Painting → List Painting → List ℕ → Type 0
GaveOut (Items batch) s told ps qs bytes =
    (told ≡ s) × SpeaksFor ps qs s (map sent_of_shared batch.messages.items) batch.scene bytes
GaveOut (Opened n) s told ps qs bytes = (told ≡ n) × (qs ≡ ps) × (bytes ≡ [])
GaveOut Done s told ps qs bytes = (told ≡ s) × (qs ≡ ps) × (bytes ≡ [])
GaveOut Closed s told ps qs bytes = (told ≡ s) × (qs ≡ ps) × (bytes ≡ [])
GaveOut Nothing s told ps qs bytes = ⊥
GaveOut (Over cause) s told ps qs bytes = ⊥

-- an effect makes no entry
abbrev pub MakesNoEntry : Effect → Type 0
MakesNoEntry (Items batch) = ⊥
MakesNoEntry (Opened n) = ⊥
MakesNoEntry Done = ⊥
MakesNoEntry Closed = ⊥
MakesNoEntry Nothing = Unit {0}
MakesNoEntry (Over cause) = Unit {0}

-- an event entered with this output, wherever the history stood
abbrev pub PlaysOne : WorldRecord → List Painting → Event → List ℕ → WorldRecord → List Painting
    → Type 0
PlaysOne old ps event output new qs =
    (w : World) (told : ToldBy) → IsPlayedTo old ps w told
    → Enters told (session_named event) (step w event) output (IsPlayedTo new qs)
