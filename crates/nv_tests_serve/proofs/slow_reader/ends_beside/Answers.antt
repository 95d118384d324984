use denote.Exit.{no}
use denote.Param.Send.{param_send, arg_send}
use Rattle.nv_world.proofs.Crossing.{world_send}
use Rattle.nv_tests_serve.proofs.slow_reader.ends_beside.Goals as goal

pub serve-requires-send-C : goal.serve-requires-send-C
serve-requires-send-C g c κs within = param_send _ _ (arg_send _ no _ world_send)
