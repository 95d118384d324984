use Rattle.nv_watch.proofs.buffer_fold.BufferFoldWatcher.catch_up.Goals as goal

pub returns-clause-seen : goal.returns-clause-seen
returns-clause-seen c = λ seen old here. old
