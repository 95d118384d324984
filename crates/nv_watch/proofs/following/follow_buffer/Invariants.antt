-- The marks so far, and those that are left, are all.
use Rattle.std.proofs.Common.{◌≡◌, ◌++◌, map, drop}
use Rattle.nv_watch.specs.FollowedMarks.{follow_mark}
use Rattle.nv_watch.proofs.following.follow_buffer.Given as goal

abbrev pub invariant-loop-mark : goal.invariant-loop-mark
invariant-loop-mark l =
    l.followed.items ++ map (follow_mark l.is_left_out l.marks l.handle l.text) (drop l.mark-index l.mark-items)
    ≡ l.fn.followed.items ++ map (follow_mark l.is_left_out l.marks l.handle l.text) l.mark-items
