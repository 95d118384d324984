use Rattle.nv_watch.proofs.Counted.{none_counted}
use Rattle.nv_watch.proofs.counter.Counter.new.Goals as goal

pub returns : goal.returns
returns c = none_counted _ _ c.new-2.ensures.items c.new.ensures.items
