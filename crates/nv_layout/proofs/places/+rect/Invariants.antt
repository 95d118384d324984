use Rattle.nv_layout.proofs.FindingSteps.{Finding}
use Rattle.nv_layout.proofs.places.+rect.Given as goal

abbrev pub invariant-rect_in_group-loop-place : goal.invariant-rect_in_group-loop-place
invariant-rect_in_group-loop-place l = Finding l.axis l.trees l.all_wish l.place l.rooms l.rest l.fn.window l.fn.area
