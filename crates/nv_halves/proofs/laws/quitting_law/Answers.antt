use Rattle.nv_halves.proofs.Closings.{quits_are_ends}
use Rattle.nv_halves.proofs.laws.quitting_law.Goals as goal

pub returns : goal.returns
returns c = quits_are_ends
