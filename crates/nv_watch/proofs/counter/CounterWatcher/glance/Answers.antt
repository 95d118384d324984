use Rattle.nv_watch.proofs.counter.CounterWatcher.glance.Goals as goal

pub returns-clause-first : goal.returns-clause-first
returns-clause-first c = λ seen old next. c.in_ok-see.ensures.seen seen old

pub returns-clause-later : goal.returns-clause-later
returns-clause-later c = λ seen old next. c.in_ok-see.ensures.seen seen old
