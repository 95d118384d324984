-- The watchers before the place were shown the step, the others are as they were.
use Rattle.nv_watch.specs.Verdicts.{sight}
use Rattle.nv_watch.specs.inside.Became.{HaveBecome, HasBeenShown}
use Rattle.nv_watch.proofs.watcher.drive.Given as goal

abbrev pub invariant-loop-place : goal.invariant-loop-place
invariant-loop-place g l =
    HaveBecome l.fn.watchers.items l.watchers.items l.place
    (λ w v. HasBeenShown (sight l.world l.step)
    (g.W.Watcher.HasSeen w)
    (g.W.Watcher.HasSeen v)
    (g.W.Watcher.Breaks w)
    (g.W.Watcher.Breaks v))
