use denote.Exit.{no}
use denote.Param.Send.{param_send, arg_send, param_sync, shr_send}
use Rattle.nv_session.proofs.Captures.{half_sends, eight_send, own_heap_sends, own_number_sends, turn_sends, bells_send, pass_sends, flag_sends}
use Rattle.nv_session.proofs.connection.fn.run_halves.scope.Goals as goal

pub spawn_with-requires-send-F : goal.spawn_with-requires-send-F
spawn_with-requires-send-F g c κs within =
    param_send _ _ (arg_send _ no _ (eight_send (shr_send _ _ _ c.requires.0) own_heap_sends (turn_sends _ g.C.Story c.requires.1) bells_send (pass_sends _ g.C.Story c.requires.1) own_number_sends c.requires.2 flag_sends))

pub spawn_with-requires-send-T : goal.spawn_with-requires-send-T
spawn_with-requires-send-T g c κs within = param_send _ _ (arg_send _ no _ (half_sends _ _ g.C.Story c.requires.1 c.requires.2))
