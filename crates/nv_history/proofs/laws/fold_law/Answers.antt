use Rattle.nv_dispatch.proofs.CallsKeep.{soundness_is_kept, facts_tell_pasts}
use Rattle.nv_history.proofs.Counting.{lines_now_are_seen}
use Rattle.nv_history.proofs.FoldRuns.{folds_to_text_law}
use Rattle.nv_history.proofs.laws.fold_law.Goals as goal

pub returns : goal.returns
returns c = record {
  folds = folds_to_text_law facts_tell_pasts soundness_is_kept;
  now = lines_now_are_seen facts_tell_pasts soundness_is_kept;
}
