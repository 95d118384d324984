use Rattle.std.proofs.Common.{subst, Result, Ok, Err, OnOk}
use Rattle.nv_watch.specs.inside.Watched.{HasWatched, IsAnyBehind}
use Rattle.nv_watch.specs.declared.any_watcher.AnyWatcher.{AnyWatcher}
use Rattle.nv_watch.proofs.any_watcher.AnyWatcherWatcher.catch_up.Goals as goal

on_ok : {T E : Type 0} (r : Result T E) (P Q : Type 0) → (P → Q) → OnOk r P → OnOk r Q
on_ok (Ok x) P Q f h = f h
on_ok (Err e) P Q f h = tt

pub returns-in-Buffers-clause-seen : goal.returns-in-Buffers-clause-seen
returns-in-Buffers-clause-seen c = on_ok c.catch_up.result _ _ (λ took seen h. took seen (subst (λ (w : AnyWatcher). IsAnyBehind w seen) c.in-Buffers.is h)) c.catch_up.ensures.seen

pub returns-in-Buffers-clause-same : goal.returns-in-Buffers-clause-same
returns-in-Buffers-clause-same c = on_ok c.catch_up.result _ _ (λ took seen h. took seen (subst (λ (w : AnyWatcher). HasWatched w seen) c.in-Buffers.is h)) c.catch_up.ensures.same

pub returns-in-Grids-clause-seen : goal.returns-in-Grids-clause-seen
returns-in-Grids-clause-seen c = on_ok c.catch_up-in-Grids.result _ _ (λ took seen h. took seen (subst (λ (w : AnyWatcher). IsAnyBehind w seen) c.in-Grids.is h)) c.catch_up-in-Grids.ensures.seen

pub returns-in-Grids-clause-same : goal.returns-in-Grids-clause-same
returns-in-Grids-clause-same c = on_ok c.catch_up-in-Grids.result _ _ (λ took seen h. took seen (subst (λ (w : AnyWatcher). HasWatched w seen) c.in-Grids.is h)) c.catch_up-in-Grids.ensures.same

pub returns-in-Marks-clause-seen : goal.returns-in-Marks-clause-seen
returns-in-Marks-clause-seen c = on_ok c.catch_up-in-Marks.result _ _ (λ took seen h. took seen (subst (λ (w : AnyWatcher). IsAnyBehind w seen) c.in-Marks.is h)) c.catch_up-in-Marks.ensures.seen

pub returns-in-Marks-clause-same : goal.returns-in-Marks-clause-same
returns-in-Marks-clause-same c = on_ok c.catch_up-in-Marks.result _ _ (λ took seen h. took seen (subst (λ (w : AnyWatcher). HasWatched w seen) c.in-Marks.is h)) c.catch_up-in-Marks.ensures.same

pub returns-in-Replies-clause-seen : goal.returns-in-Replies-clause-seen
returns-in-Replies-clause-seen c = on_ok c.catch_up-in-Replies.result _ _ (λ took seen h. took seen (subst (λ (w : AnyWatcher). IsAnyBehind w seen) c.in-Replies.is h)) c.catch_up-in-Replies.ensures.seen

pub returns-in-Replies-clause-same : goal.returns-in-Replies-clause-same
returns-in-Replies-clause-same c = on_ok c.catch_up-in-Replies.result _ _ (λ took seen h. took seen (subst (λ (w : AnyWatcher). HasWatched w seen) c.in-Replies.is h)) c.catch_up-in-Replies.ensures.same
