use Rattle.std.proofs.Common.{Bool, Result, Ok, Err, OnOk, sym, subst}
use Rattle.nv_watch.specs.Verdicts.{sight}
use Rattle.nv_replay.specs.inside.Watching.{HasLookedOn}
use Rattle.nv_replay.proofs.watching.watch.Goals as goal

on_ok : {T E : Type 0} (r : Result T E) (P Q : Type 0) → (P → Q) → OnOk r P → OnOk r Q
on_ok (Ok x) P Q f h = f h
on_ok (Err e) P Q f h = tt

pub returns-then-follows-clause-watches : goal.returns-then-follows-clause-watches
returns-then-follows-clause-watches g c = on_ok c.watch_next.result _ _ (λ all i old new was is.
    subst (λ (b : Bool). HasLookedOn b (sight c.args.world.now c.args.step.now) (g.W.Watcher.HasSeen old) (g.W.Watcher.IsBehind old) (g.W.Watcher.HasSeen new) (g.W.Watcher.IsBehind new) (g.W.Watcher.Breaks old) (g.W.Watcher.Breaks new))
    (sym c.if-follows.true) (all i old new was is)) c.watch_next.ensures.watches

pub returns-else-follows-clause-watches : goal.returns-else-follows-clause-watches
returns-else-follows-clause-watches g c = on_ok c.watch_first.result _ _ (λ all i old new was is.
    subst (λ (b : Bool). HasLookedOn b (sight c.args.world.now c.args.step.now) (g.W.Watcher.HasSeen old) (g.W.Watcher.IsBehind old) (g.W.Watcher.HasSeen new) (g.W.Watcher.IsBehind new) (g.W.Watcher.Breaks old) (g.W.Watcher.Breaks new))
    (sym c.if-follows.false) (all i old new was is)) c.watch_first.ensures.watches
