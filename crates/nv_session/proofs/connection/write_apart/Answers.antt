use denote.Exit.{no}
use denote.Param.Send.{param_send, arg_send, param_sync, shr_send}
use Rattle.nv_session.proofs.Captures.{writer_sends, nine_send, heap_sends, number_sends, turn_sends, bells_send, pass_sends}
use Rattle.nv_session.proofs.connection.write_apart.Goals as goal

pub join-requires-send-F : goal.join-requires-send-F
join-requires-send-F g c κs within =
    param_send _ _ (arg_send _ no _ (nine_send (shr_send _ _ _ (param_sync _ _ c.type_bounds.sync-R)) heap_sends (turn_sends _ g.C.Story c.type_bounds.send-C) bells_send number_sends (pass_sends _ g.C.Story c.type_bounds.send-C) number_sends c.type_bounds.send-S c.type_bounds.send-V))

pub join-requires-send-A : goal.join-requires-send-A
join-requires-send-A g c κs within = param_send _ _ (arg_send _ no _ (writer_sends _ _ g.C.Story c.type_bounds.send-C c.type_bounds.send-S))
