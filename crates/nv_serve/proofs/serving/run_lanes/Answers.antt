use denote.Exit.{no}
use denote.Param.Send.{param_send, param_sync, arg_send, arg_sync, shr_sync}
use Rattle.nv_serve.proofs.Crossing.{job_sends, four_sync, heap_syncs, turn_syncs, bells_sync}
use Rattle.nv_serve.proofs.serving.run_lanes.Goals as goal

pub for_each_mut-requires-send-T : goal.for_each_mut-requires-send-T
for_each_mut-requires-send-T g c κs within = param_send _ _ (arg_send _ no _ (job_sends _ _ g.C.Story c.type_bounds.send-C c.type_bounds.send-L))

pub for_each_mut-requires-sync-F : goal.for_each_mut-requires-sync-F
for_each_mut-requires-sync-F g c κs within = param_sync _ _ (arg_sync _ no _ (four_sync (shr_sync _ _ _ (param_sync _ _ c.type_bounds.sync-R)) heap_syncs (turn_syncs _ g.C.Story c.type_bounds.send-C) bells_sync))
