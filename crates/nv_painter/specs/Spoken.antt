-- What a session is sent of a batch (MessagePack-RPC specification; help: ui-events).
use Rattle.std.specs.Prelude.{ℕ, List, [], ◌∷◌, ◌++◌, Option, Some, None}
use Rattle.std.specs.List.{AllByRecursion}
use Rattle.nv_msgpack.specs.Shortest.{shortest}
use Rattle.nv_rpc.specs.declared.message.Message.{Message}
use Rattle.nv_rpc.specs.MessageView.{sent_of}
use Rattle.nv_rpc.specs.Messages.{IsSendable, message_tree}
use Rattle.nv_redraw.specs.Values.{batch_tree}
use Rattle.nv_screen.specs.declared.scene.Scene.{Scene}
use Rattle.nv_screen.specs.Sound.{IsSoundScene}
use Rattle.nv_linegrid.specs.Batch.{batch, told_after}
use Rattle.nv_linegrid.specs.Told.{Told}
use Rattle.nv_painter.specs.declared.speaking.Batch.{Batch}
use Rattle.nv_painter.specs.Keys.{keys_after}
use Rattle.nv_painter.specs.Painters.{Painting}
use Rattle.nv_painter.specs.Pictures.{picture_of}

-- the messages, each as short as can be, one behind another
abbrev pub spoken_messages : List Message → List ℕ
spoken_messages [] = []
spoken_messages (m ∷ ms) = shortest (message_tree (sent_of m)) ++ spoken_messages ms

-- the redraw notification of a scene, where there is one
abbrev pub spoken_scene : Told → Option Scene → List ℕ
spoken_scene told None = []
spoken_scene told (Some s) = shortest (batch_tree (batch told (picture_of s)))

-- the messages, and then the redraw notification
abbrev pub spoken_batch : Told → Batch → List ℕ
spoken_batch told b = spoken_messages b.messages.items ++ spoken_scene told b.scene

-- what a painter stands for once it painted the scene, where there is one
abbrev pub painting_after : Painting → Option Scene → Painting
painting_after p None = p
painting_after p (Some s) =
    record { told = told_after p.told (picture_of s); keys = keys_after p.keys s }

abbrev pub AreSendable : List Message → Type 0
AreSendable = AllByRecursion (λ m. IsSendable (sent_of m))

abbrev pub IsSoundIfThere : Option Scene → Type 0
IsSoundIfThere None = Unit {0}
IsSoundIfThere (Some s) = IsSoundScene s

-- a batch that can be spoken: MessagePack can spell its messages, and its scene is sound
pub record IsSpeakable (b : Batch) : Type 0 where
  pub messages : AreSendable b.messages.items
  pub scene : IsSoundIfThere b.scene
