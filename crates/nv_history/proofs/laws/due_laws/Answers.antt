use Rattle.nv_dispatch.proofs.CallsKeep.{soundness_is_kept, facts_tell_pasts}
use Rattle.nv_history.proofs.GoingRuns.{fronts_run, due_only_grows, causes_stay, texts_stay}
use Rattle.nv_history.proofs.laws.due_laws.Goals as goal

pub returns : goal.returns
returns c = record { fronts = fronts_run; grows = due_only_grows; causes = causes_stay; texts = texts_stay facts_tell_pasts soundness_is_kept }
