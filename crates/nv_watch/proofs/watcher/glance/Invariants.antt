-- The watchers before the place are behind the step, the others are as they were.
use Rattle.nv_watch.specs.Verdicts.{sight}
use Rattle.nv_watch.specs.Shown.{HasGlanced}
use Rattle.nv_watch.specs.inside.Became.{HaveBecome}
use Rattle.nv_watch.proofs.watcher.glance.Given as goal

abbrev pub invariant-loop-place : goal.invariant-loop-place
invariant-loop-place g l =
    HaveBecome l.fn.watchers.items l.watchers.items l.place
    (λ w v. HasGlanced (sight l.world l.step)
    (g.W.Watcher.HasSeen w)
    (g.W.Watcher.IsBehind w)
    (g.W.Watcher.IsBehind v)
    (g.W.Watcher.Breaks w)
    (g.W.Watcher.Breaks v))
