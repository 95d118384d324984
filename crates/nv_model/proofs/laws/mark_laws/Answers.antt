use Rattle.nv_model.proofs.MarkOrders.{marks_are_in_order}
use Rattle.nv_model.proofs.Moving.{marks_step_alike}
use Rattle.nv_model.proofs.laws.mark_laws.Goals as goal

pub returns : goal.returns
returns c = record { order = marks_are_in_order; steps = marks_step_alike }
