-- The splices that are left lead on to where all of them lead.
use Rattle.std.proofs.Common.{◌≡◌, drop}
use Rattle.nv_watch.specs.FollowedMarks.{followed_after}
use Rattle.nv_watch.proofs.followed_mark.FollowedMark.follow.Given as goal

abbrev pub invariant-loop-splice : goal.invariant-loop-splice
invariant-loop-splice l = followed_after (drop l.splice-index l.splices) l.self ≡ followed_after l.splices l.fn.self
