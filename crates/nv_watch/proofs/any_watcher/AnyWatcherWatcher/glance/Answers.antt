use Rattle.std.proofs.Common.{subst, Result, Ok, Err, OnOk}
use Rattle.nv_watch.specs.inside.Watched.{HasWatched, IsAnyBehind}
use Rattle.nv_watch.specs.declared.any_watcher.AnyWatcher.{AnyWatcher}
use Rattle.nv_watch.proofs.any_watcher.AnyWatcherWatcher.glance.Goals as goal

on_ok : {T E : Type 0} (r : Result T E) (P Q : Type 0) → (P → Q) → OnOk r P → OnOk r Q
on_ok (Ok x) P Q f h = f h
on_ok (Err e) P Q f h = tt

pub returns-in-Buffers-clause-first : goal.returns-in-Buffers-clause-first
returns-in-Buffers-clause-first c = on_ok c.glance.result _ _ (λ took seen h. took seen (subst (λ (w : AnyWatcher). HasWatched w seen) c.in-Buffers.is h)) c.glance.ensures.first

pub returns-in-Buffers-clause-later : goal.returns-in-Buffers-clause-later
returns-in-Buffers-clause-later c = on_ok c.glance.result _ _ (λ took seen h. took seen (subst (λ (w : AnyWatcher). IsAnyBehind w seen) c.in-Buffers.is h)) c.glance.ensures.later

pub returns-in-Grids-clause-first : goal.returns-in-Grids-clause-first
returns-in-Grids-clause-first c = on_ok c.glance-in-Grids.result _ _ (λ took seen h. took seen (subst (λ (w : AnyWatcher). HasWatched w seen) c.in-Grids.is h)) c.glance-in-Grids.ensures.first

pub returns-in-Grids-clause-later : goal.returns-in-Grids-clause-later
returns-in-Grids-clause-later c = on_ok c.glance-in-Grids.result _ _ (λ took seen h. took seen (subst (λ (w : AnyWatcher). IsAnyBehind w seen) c.in-Grids.is h)) c.glance-in-Grids.ensures.later

pub returns-in-Marks-clause-first : goal.returns-in-Marks-clause-first
returns-in-Marks-clause-first c = on_ok c.glance-in-Marks.result _ _ (λ took seen h. took seen (subst (λ (w : AnyWatcher). HasWatched w seen) c.in-Marks.is h)) c.glance-in-Marks.ensures.first

pub returns-in-Marks-clause-later : goal.returns-in-Marks-clause-later
returns-in-Marks-clause-later c = on_ok c.glance-in-Marks.result _ _ (λ took seen h. took seen (subst (λ (w : AnyWatcher). IsAnyBehind w seen) c.in-Marks.is h)) c.glance-in-Marks.ensures.later

pub returns-in-Replies-clause-first : goal.returns-in-Replies-clause-first
returns-in-Replies-clause-first c = on_ok c.glance-in-Replies.result _ _ (λ took seen h. took seen (subst (λ (w : AnyWatcher). HasWatched w seen) c.in-Replies.is h)) c.glance-in-Replies.ensures.first

pub returns-in-Replies-clause-later : goal.returns-in-Replies-clause-later
returns-in-Replies-clause-later c = on_ok c.glance-in-Replies.result _ _ (λ took seen h. took seen (subst (λ (w : AnyWatcher). IsAnyBehind w seen) c.in-Replies.is h)) c.glance-in-Replies.ensures.later
