use Rattle.nv_rpc.proofs.Inverse.{told_is_read}
use Rattle.nv_rpc.proofs.laws.told_is_read.Goals as goal

pub returns : goal.returns
returns c = told_is_read
