use Rattle.nv_dispatch.proofs.CallsKeep.{soundness_is_kept, facts_tell_pasts}
use Rattle.nv_history.specs.Laws.{FoldsToText}
use Rattle.nv_history.specs.MarkPlaces.{EachMarkStands}
use Rattle.nv_history.proofs.FoldRuns.{folds_to_text_law}
use Rattle.nv_history.proofs.MarkRuns.{each_mark_stands}
use Rattle.nv_core.specs.Contents.{plain_entries, plain_event}
use Rattle.nv_world.proofs.laws.world_laws.Goals as goal

pub returns : goal.returns
unfolding FoldsToText EachMarkStands
returns c = record {
  folds = λ w s x n front back runs there parts.
      folds_to_text_law facts_tell_pasts soundness_is_kept c.args.world.now.capacity c.args.world.now.limits (plain_entries c.args.world.now.history) w s x n front back runs there parts;
  marks = λ before behind entry w v n d whole runs made there.
      each_mark_stands facts_tell_pasts soundness_is_kept c.args.world.now.capacity c.args.world.now.limits (plain_entries before) w v (plain_event entry.event) n d runs made there;
}
