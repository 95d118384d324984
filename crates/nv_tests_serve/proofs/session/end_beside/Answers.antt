use denote.Exit.{no}
use denote.Param.Send.{param_send, arg_send}
use Rattle.nv_world.proofs.Crossing.{world_send}
use Rattle.nv_tests_serve.proofs.session.end_beside.Goals as goal

pub serve_one-served-requires-send-C : goal.serve_one-served-requires-send-C
serve_one-served-requires-send-C g c κs within = param_send _ _ (arg_send _ no _ world_send)
