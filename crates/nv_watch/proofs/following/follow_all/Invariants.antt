-- The marks so far, and those of the buffers that are left, are all.
use Rattle.std.proofs.Common.{◌≡◌, ◌++◌, flat_map}
use Rattle.nv_model.specs.Standing.{seen_now}
use Rattle.nv_watch.specs.FollowedMarks.{follow_all, follow_under}
use Rattle.nv_watch.proofs.following.follow_all.Given as goal

abbrev pub invariant-loop-handle : goal.invariant-loop-handle
invariant-loop-handle l =
    l.followed.items ++ flat_map (follow_under l.is_left_out l.marks (seen_now l.editor)) l.handle-iterator
    ≡ follow_all l.is_left_out l.marks (seen_now l.editor)
