use Rattle.nv_layout.proofs.LeafOrder.{close_takes_away}
use Rattle.nv_layout.proofs.laws.close_takes_away.Goals as goal

pub returns : goal.returns
returns c = close_takes_away
