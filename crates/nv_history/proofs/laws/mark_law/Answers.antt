use Rattle.nv_dispatch.proofs.CallsKeep.{soundness_is_kept, facts_tell_pasts}
use Rattle.nv_history.proofs.MarkRuns.{each_mark_stands}
use Rattle.nv_history.proofs.laws.mark_law.Goals as goal

pub returns : goal.returns
returns c = each_mark_stands facts_tell_pasts soundness_is_kept
