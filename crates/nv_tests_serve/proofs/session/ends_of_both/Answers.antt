use mathlib.Core.List.{[], ◌∷◌}
use mir.Syntax.{Sym}
use denote.Exit.{no}
use denote.RattleType.{RattleType}
use denote.Struct.Field.{row_field}
use denote.Struct.Tuple.{TupleAt, type_at}
use denote.Param.Send.{IsSend, param_send, arg_send, param_sync, shr_send}
use denote.Param.SendFields.{declared_send, as_row_send}
use Rattle.nv_io.proofs.lanes.Ended.TheSendSync as end
use Rattle.nv_world.specs.contracts.story.WorldStory.TheImpl as story
use Rattle.nv_world.proofs.Crossing.{world_send}
use Rattle.nv_session.proofs.Captures.{seven_send, heap_sends, turn_sends, bells_send, pass_sends}
use Rattle.nv_tests_serve.proofs.session.ends_of_both.Goals as goal

two_send : {ν : Sym} {A B : RattleType} → IsSend A → IsSend B → IsSend (TupleAt ν (A ∷ B ∷ []))
two_send {ν} {A} {B} a b = declared_send (type_at ν (A ∷ B ∷ [])) (as_row_send (row_field A) a, (as_row_send (row_field B) b, tt))

pub join-cd-requires-send-F : goal.join-cd-requires-send-F
join-cd-requires-send-F g c κs within = param_send _ _ (arg_send _ no _ (seven_send (shr_send _ _ _ (param_sync _ _ c.type_bounds.sync-R)) heap_sends (turn_sends _ story.ghosts world_send) bells_send (two_send (pass_sends _ story.ghosts world_send) (pass_sends _ story.ghosts world_send)) c.type_bounds.send-I c.type_bounds.send-S))

pub join-cd-requires-send-A : goal.join-cd-requires-send-A
join-cd-requires-send-A g c κs within = param_send _ _ (arg_send _ no _ (two_send (pass_sends _ story.ghosts world_send) end.the_send))
