use Rattle.std.proofs.Common.{refl}
use Rattle.nv_args.proofs.signatures.other_names.Goals as goal

pub returns : goal.returns
returns c = refl
