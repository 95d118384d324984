-- Of each setting the map has the place of the first of those that were looked at.
use Rattle.std.proofs.Common.{◌≡◌, ◌≤◌, length}
use Rattle.nv_watch.proofs.KnownMarks.{AreKnownFrom}
use Rattle.nv_watch.proofs.following.known_marks.Given as goal

abbrev pub invariant-loop-place : goal.invariant-loop-place
invariant-loop-place l = (l.place ≤ length l.marks) × AreKnownFrom l.known l.marks l.place

abbrev pub decreases-loop-place : goal.decreases-loop-place
decreases-loop-place l = l.place
