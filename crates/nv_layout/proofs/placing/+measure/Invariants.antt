use Rattle.nv_layout.proofs.Measuring.{Measuring}
use Rattle.nv_layout.proofs.placing.+measure.Given as goal

abbrev pub invariant-measure_group-loop-place : goal.invariant-measure_group-loop-place
invariant-measure_group-loop-place l = Measuring l.axis l.trees l.place l.start l.along l.across l.fn.into.items l.into.items
