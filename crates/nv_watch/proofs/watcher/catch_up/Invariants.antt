-- The watchers before the place are caught up, the others are as they were.
use Rattle.nv_watch.specs.Shown.{HasCaughtUp}
use Rattle.nv_watch.specs.inside.Became.{HaveBecome}
use Rattle.nv_watch.proofs.watcher.catch_up.Given as goal

abbrev pub invariant-loop-place : goal.invariant-loop-place
invariant-loop-place g l =
    HaveBecome l.fn.watchers.items l.watchers.items l.place
    (λ w v. HasCaughtUp l.world
    (g.W.Watcher.HasSeen w)
    (g.W.Watcher.IsBehind w)
    (g.W.Watcher.HasSeen v)
    (g.W.Watcher.Breaks w)
    (g.W.Watcher.Breaks v))
