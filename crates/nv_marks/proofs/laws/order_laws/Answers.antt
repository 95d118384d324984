use Rattle.nv_marks.proofs.UniqueLemmas.{order_is_unique}
use Rattle.nv_marks.proofs.laws.order_laws.Goals as goal

pub returns : goal.returns
returns c = order_is_unique
