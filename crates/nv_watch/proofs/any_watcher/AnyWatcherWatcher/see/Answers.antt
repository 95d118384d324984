use Rattle.std.proofs.Common.{subst, Result, Ok, Err, OnOk}
use Rattle.nv_watch.specs.inside.Watched.{HasWatched}
use Rattle.nv_watch.specs.declared.any_watcher.AnyWatcher.{AnyWatcher}
use Rattle.nv_watch.proofs.any_watcher.AnyWatcherWatcher.see.Goals as goal

on_ok : {T E : Type 0} (r : Result T E) (P Q : Type 0) → (P → Q) → OnOk r P → OnOk r Q
on_ok (Ok x) P Q f h = f h
on_ok (Err e) P Q f h = tt

pub returns-in-Buffers-clause-seen : goal.returns-in-Buffers-clause-seen
returns-in-Buffers-clause-seen c = on_ok c.see.result _ _ (λ took seen h. took seen (subst (λ (w : AnyWatcher). HasWatched w seen) c.in-Buffers.is h)) c.see.ensures.seen

pub returns-in-Grids-clause-seen : goal.returns-in-Grids-clause-seen
returns-in-Grids-clause-seen c = on_ok c.see-in-Grids.result _ _ (λ took seen h. took seen (subst (λ (w : AnyWatcher). HasWatched w seen) c.in-Grids.is h)) c.see-in-Grids.ensures.seen

pub returns-in-Replies-clause-seen : goal.returns-in-Replies-clause-seen
returns-in-Replies-clause-seen c = on_ok c.see-in-Replies.result _ _ (λ took seen h. took seen (subst (λ (w : AnyWatcher). HasWatched w seen) c.in-Replies.is h)) c.see-in-Replies.ensures.seen
