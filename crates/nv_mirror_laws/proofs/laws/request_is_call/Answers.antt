use Rattle.std.proofs.Common.{refl}
use Rattle.nv_rpc.specs.Calls.{call_in}
use Rattle.nv_mirror_laws.proofs.laws.request_is_call.Goals as goal

pub returns : goal.returns
unfolding call_in
returns c = λ buffer. refl
