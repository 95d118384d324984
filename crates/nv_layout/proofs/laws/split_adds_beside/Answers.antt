use Rattle.nv_layout.proofs.LeafOrder.{split_adds_beside}
use Rattle.nv_layout.proofs.laws.split_adds_beside.Goals as goal

pub returns : goal.returns
returns c = split_adds_beside
