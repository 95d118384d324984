-- How large a call may be that is made, and what a Take gives.
use Rattle.std.specs.Prelude.{◌*◌, ◌^◌, ◌≤◌, ◌<◌, ⊤, length, map, All, IfSome}
use Rattle.nv_rpc.specs.Calls.{Call, request, notice}
use Rattle.nv_rpc.specs.Messages.{IsSendable}
use Rattle.nv_args.specs.Weight.{AreLight}
use Rattle.nv_history.specs.Events.{Event, open_session, request_of, take_of, close_of}
use Rattle.nv_core.specs.Contents.{scene_given, sent_of_shared}
use Rattle.nv_core.specs.declared.effect.Effect.{Effect}
use Rattle.nv_core.specs.declared.effect.Effect.TheVariants as effect

-- a call so light that a fault can tell each string in it (own rule; a message has far fewer bytes)
abbrev pub IsLightCall : Call → Type 0
IsLightCall (request msgid method params) = (length method < 2 ^ 31) × AreLight params
IsLightCall (notice method params) = (length method < 2 ^ 31) × AreLight params

abbrev pub IsLightEvent : Event → Type 0
IsLightEvent open_session = ⊤
IsLightEvent (request_of s call) = IsLightCall call
IsLightEvent (take_of s) = ⊤
IsLightEvent (close_of s) = ⊤

-- each message that an effect gives can be spelled, and its scene has at most 2,000,000 cells (own
-- rule: UIs have at most 2000 columns by 1000 rows)
abbrev pub GivesSendable : Effect → Type 0
GivesSendable (effect.Items batch) = All IsSendable (map sent_of_shared batch.messages.items)
GivesSendable (effect.Opened s) = ⊤
GivesSendable effect.Done = ⊤
GivesSendable effect.Nothing = ⊤
GivesSendable (effect.Over c) = ⊤
GivesSendable effect.Closed = ⊤

abbrev pub GivesFewCells : Effect → Type 0
GivesFewCells effect = IfSome (scene_given effect) (λ scene. scene.width * scene.height ≤ 2000000)
