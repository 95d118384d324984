-- None of those so far is it.
use Rattle.nv_watch.proofs.Mirrored.{NoneTo}
use Rattle.nv_watch.proofs.followed.place_of.Given as goal

abbrev pub invariant-loop-place : goal.invariant-loop-place
invariant-loop-place l = NoneTo l.all l.owner.session l.owner.buffer l.place
