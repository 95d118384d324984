use Rattle.std.proofs.Common.{refl}
use Rattle.nv_watch.proofs.Looking.{has_looked_at}
use Rattle.nv_watch.proofs.buffer_fold.holds_other.Goals as goal

pub returns : goal.returns
returns c =
    has_looked_at _ _ _ c.compare-same.result _ refl refl refl c.ends_compared-followed.ensures c.is_told_other.ensures c.compare-same.ensures
