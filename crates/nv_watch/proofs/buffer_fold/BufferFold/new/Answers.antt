use Rattle.nv_watch.proofs.Folded.{none_folded}
use Rattle.nv_watch.proofs.buffer_fold.BufferFold.new.Goals as goal

pub returns : goal.returns
returns c = none_folded _ c.new.ensures.items
