use Rattle.nv_layout.proofs.PlacingSteps.{Placing}
use Rattle.nv_layout.proofs.placing.+place.Given as goal

abbrev pub invariant-place_group-loop-place : goal.invariant-place_group-loop-place
invariant-place_group-loop-place l = Placing l.axis l.trees l.all_wish l.place l.rooms l.rest l.left l.fn.known l.into.items l.fn.into.items l.fn.area
