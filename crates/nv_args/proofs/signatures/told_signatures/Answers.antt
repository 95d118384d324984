use Rattle.std.proofs.Common.{refl}
use Rattle.nv_args.proofs.signatures.told_signatures.Goals as goal

pub returns : goal.returns
returns c = refl
