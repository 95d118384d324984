-- Bytes that wait, and go out piece by piece.
use Rattle.std.specs.Prelude.{◌≡◌, ℕ, List, ◌++◌, take, map, Option}
use Rattle.std.specs.Io.KnownBytes.{append_known}
use Rattle.nv_rpc.specs.Messages.{Sent}
use Rattle.nv_screen.specs.declared.scene.Scene.{Scene}
use Rattle.nv_linegrid.specs.Told.{Told}
use Rattle.nv_history.specs.Spoken.{bytes_of_messages, bytes_of_scene}
use Rattle.nv_core.specs.Contents.{sent_of_shared}
use Rattle.nv_core.specs.declared.effect.Batch.{Batch}

-- bytes were added to those that waited; of all these a front was written, and the rest waits
pub record FlowsOut (before after : Option (List ℕ)) (waited added waits : List ℕ) : Type 0 where
  pub front : List ℕ
  pub written : after ≡ append_known before front
  pub all : front ++ waits ≡ waited ++ added

-- of these bytes a front was written
pub record IsFrontOut (before after : Option (List ℕ)) (bytes : List ℕ) : Type 0 where
  pub count : ℕ
  pub written : after ≡ append_known before (take count bytes)

-- the messages of a batch
abbrev pub sent_in : Batch → List Sent
sent_in batch = map sent_of_shared batch.messages.items

-- the bytes of messages, and of the redraw notification of a scene, where there is one
abbrev pub bytes_said : Told → List Sent → Option Scene → List ℕ
bytes_said told messages scene = bytes_of_messages messages ++ bytes_of_scene told scene
