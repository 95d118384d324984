-- What a session is sent of its batches: messages in bytes, and the events that show the editors to
-- its UI (MessagePack-RPC specification; help: ui-events, ui-linegrid).
use Rattle.std.specs.Prelude.{◌≡◌, ℕ, List, [], ◌∷◌, ◌++◌, Option, Some, None}
use Rattle.nv_msgpack.specs.Shortest.{shortest}
use Rattle.nv_rpc.specs.Messages.{Sent, message_tree}
use Rattle.nv_model.specs.Editors.{ModelEditor}
use Rattle.nv_model.specs.Seen.{seen_of}
use Rattle.nv_screen.specs.declared.scene.Scene.{Scene}
use Rattle.nv_screen.specs.Sound.{IsSoundScene}
use Rattle.nv_scene.specs.Scenes.{IsSceneOf}
use Rattle.nv_linegrid.specs.declared.event.Redraw.{Redraw}
use Rattle.nv_linegrid.specs.Told.{Told, nothing_told}
use Rattle.nv_linegrid.specs.Batch.{batch, told_after}
use Rattle.nv_redraw.specs.Values.{batch_tree}
use Rattle.nv_painter.specs.Pictures.{picture_of}
use Rattle.nv_history.specs.Runs.{TakenBatch}

-- messages in bytes, each in its shortest spelling
abbrev pub bytes_of_messages : List Sent → List ℕ
bytes_of_messages [] = []
bytes_of_messages (message ∷ messages) =
    shortest (message_tree message) ++ bytes_of_messages messages

-- a scene shows an editor, and can be drawn
pub record ShowsEditor (m : ModelEditor) (scene : Scene) : Type 0 where
  pub shows : IsSceneOf (seen_of m) scene
  pub sound : IsSoundScene scene

-- where a batch has an editor its scene shows it, and else there is no scene
abbrev pub ShowsIfGiven : Option ModelEditor → Option Scene → Type 0
ShowsIfGiven None None = Unit {0}
ShowsIfGiven None (Some scene) = ⊥
ShowsIfGiven (Some m) None = ⊥
ShowsIfGiven (Some m) (Some scene) = ShowsEditor m scene

-- the events that show a scene to a client that was told so much
abbrev pub events_of : Told → Option Scene → List Redraw
events_of told None = []
events_of told (Some scene) = batch told (picture_of scene)

-- the redraw notification of these events, where there is a scene
abbrev pub bytes_of_scene : Told → Option Scene → List ℕ
bytes_of_scene told None = []
bytes_of_scene told (Some scene) = shortest (batch_tree (batch told (picture_of scene)))

-- what a client was told once it was shown a scene
abbrev pub told_with : Told → Option Scene → Told
told_with told None = told
told_with told (Some scene) = told_after told (picture_of scene)

-- What is sent of a batch to a client that was told so much: the messages, and then, where the
-- batch has an editor, the redraw notification of a scene of it. These are its bytes and its
-- events, and what the client was told then.
pub record IsSpoken (told : Told) (given : TakenBatch) (bytes : List ℕ) (events : List Redraw)
    (later : Told) : Type 0 where
  pub scene : Option Scene
  pub shows : ShowsIfGiven given.editor scene
  pub bytes_are : bytes ≡ bytes_of_messages given.messages ++ bytes_of_scene told scene
  pub events_are : events ≡ events_of told scene
  pub later_is : later ≡ told_with told scene

-- one batch, and then others
pub record IsSpokenFirst (told : Told) (given : TakenBatch)
    (others : Told → List ℕ → List Redraw → Type 0) (bytes : List ℕ)
    (events : List Redraw) : Type 0 where
  pub between : Told
  pub first_bytes : List ℕ
  pub other_bytes : List ℕ
  pub first_events : List Redraw
  pub other_events : List Redraw
  pub first : IsSpoken told given first_bytes first_events between
  pub rest : others between other_bytes other_events
  pub bytes_are : bytes ≡ first_bytes ++ other_bytes
  pub events_are : events ≡ first_events ++ other_events

-- what is sent of batches, one after another
abbrev pub AreSpoken : Told → List TakenBatch → List ℕ → List Redraw → Told → Type 0
AreSpoken told [] bytes events later = (bytes ≡ []) × (events ≡ []) × (later ≡ told)
AreSpoken told (given ∷ more) bytes events later =
    IsSpokenFirst told given
    (λ between other_bytes other_events. AreSpoken between more other_bytes other_events later)
    bytes events

-- the bytes of batches: all that a client is sent that was told nothing before
abbrev pub AreBytesOf : List TakenBatch → List ℕ → Type 0
AreBytesOf batches bytes =
    (events : List Redraw) × (later : Told) × AreSpoken nothing_told batches bytes events later
