-- None of those so far is of the part.
use Rattle.std.proofs.Common.{◌≡◌, drop, map}
use Rattle.nv_model.specs.Buffers.{last_kept}
use Rattle.nv_watch.specs.FollowedMarks.{part_kept}
use Rattle.nv_watch.proofs.followed_mark.last_kept_in.Given as goal

abbrev pub invariant-loop-one : goal.invariant-loop-one
invariant-loop-one l = last_kept l.part (map part_kept (drop l.one-index l.kept)) ≡ last_kept l.part (map part_kept l.kept)
