-- The splices that are left lead from what was found so far to what all of them come to.
use Rattle.std.proofs.Common.{◌≡◌, fold, drop}
use Rattle.nv_watch.specs.inside.Sharing.{touch_with, touched}
use Rattle.nv_watch.proofs.touching.touch_of.Given as goal

abbrev pub invariant-loop-splice : goal.invariant-loop-splice
invariant-loop-splice l =
    fold (touch_with l.followed.buffer) l.touch (drop l.splice-index l.splices) ≡ touched l.followed.buffer l.splices
