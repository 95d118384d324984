-- Those so far were followed, and the others not yet.
use Rattle.std.proofs.Common.{◌≡◌, ◌++◌, take, drop, map}
use Rattle.nv_watch.specs.FollowedMarks.{followed_after}
use Rattle.nv_watch.proofs.mark_check.follow.Given as goal

abbrev pub invariant-loop-place : goal.invariant-loop-place
invariant-loop-place l =
    l.marks.items
    ≡ map (followed_after l.splices) (take l.place l.fn.marks.items)
    ++ drop l.place l.fn.marks.items
