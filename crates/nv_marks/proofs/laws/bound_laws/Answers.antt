use Rattle.nv_marks.proofs.BoundLemmas.{bounded_moves}
use Rattle.nv_marks.proofs.laws.bound_laws.Goals as goal

pub returns : goal.returns
returns c = bounded_moves
