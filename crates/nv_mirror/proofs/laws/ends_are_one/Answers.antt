use Rattle.nv_mirror.proofs.Exact as exact
use Rattle.nv_mirror.proofs.laws.ends_are_one.Goals as goal

pub returns : goal.returns
returns c = exact.ends_are_one
