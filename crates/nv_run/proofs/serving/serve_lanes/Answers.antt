use denote.Exit.{no}
use denote.Param.Send.{param_send, arg_send}
use Rattle.std.proofs.lemmas.List.{length-map}
use Rattle.nv_world.proofs.Crossing.{world_send}
use Rattle.nv_run.proofs.Servers.{world_left}
use Rattle.nv_run.proofs.serving.serve_lanes.Goals as goal

pub serve-requires-send-C : goal.serve-requires-send-C
serve-requires-send-C g c κs within = param_send _ _ (arg_send _ no _ world_send)

pub returns-clause-left : goal.returns-clause-left
returns-clause-left g c =
    world_left _ c.args.outbox _ c.in-Ok-serve.left.spent c.in-Ok-serve.left.failed _ _ c.usual_limits.result c.end_of-ended.result c.in-Ok.world c.in-Ok-serve.left.core c.into_history.result.entries c.usual_limits.ensures
    (length-map _ _) c.in-Ok.ensures c.into_history.ensures.history c.in-Ok-serve.ensures.served c.end_of-ended.ensures.done c.end_of-ended.ensures.failed c.end_of-ended.ensures.other
