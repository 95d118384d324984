use Rattle.nv_watch.proofs.grid_fold.GridFoldWatcher.catch_up.Goals as goal

pub returns-clause-seen : goal.returns-clause-seen
returns-clause-seen c = λ seen old here. old
