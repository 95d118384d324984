use Rattle.std.proofs.Common.{arith}
use Rattle.nv_marks.proofs.laws.cost_laws.Goals as goal

pub returns : goal.returns
returns c = λ start old marks is. omega arith
