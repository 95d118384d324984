use Rattle.nv_watch.proofs.GridFolds.{none_folded}
use Rattle.nv_watch.proofs.grid_fold.GridFold.new.Goals as goal

pub returns : goal.returns
returns c = none_folded _ c.new.ensures.items
