use Rattle.nv_rpc.proofs.Inverse.{read_is_told}
use Rattle.nv_rpc.proofs.laws.read_is_told.Goals as goal

pub returns : goal.returns
returns c = read_is_told
