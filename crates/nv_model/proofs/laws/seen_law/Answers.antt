use Rattle.nv_model.proofs.Seeing.{seen_is_same}
use Rattle.nv_model.proofs.laws.seen_law.Goals as goal

pub returns : goal.returns
returns c = seen_is_same
