use denote.Exit.{no}
use denote.Param.Send.{param_send, arg_send, param_sync, shr_send}
use Rattle.nv_world.specs.contracts.story.WorldStory.TheImpl as story
use Rattle.nv_world.proofs.Crossing.{world_send}
use Rattle.nv_session.proofs.Captures.{half_sends, seven_send, heap_sends, number_sends, turn_sends, bells_send, pass_sends}
use Rattle.nv_tests_serve.proofs.session.run_halves.Goals as goal

pub join-requires-send-F : goal.join-requires-send-F
join-requires-send-F g c κs within = param_send _ _ (arg_send _ no _ (seven_send (shr_send _ _ _ (param_sync _ _ c.type_bounds.sync-R)) heap_sends (turn_sends _ story.ghosts world_send) bells_send (pass_sends _ story.ghosts world_send) number_sends c.type_bounds.send-I))

pub join-requires-send-A : goal.join-requires-send-A
join-requires-send-A g c κs within = param_send _ _ (arg_send _ no _ (half_sends _ _ story.ghosts world_send c.type_bounds.send-I))
