-- The mirrors before the place are forgotten, the others are as they were.
use Rattle.nv_watch.proofs.Looking.{AreForgotten}
use Rattle.nv_watch.proofs.buffer_fold.forget.Given as goal

abbrev pub invariant-loop-place : goal.invariant-loop-place
invariant-loop-place l = AreForgotten l.fn.all.items l.all.items l.place
