use Rattle.nv_watch.proofs.mark_check.MarkCheckWatcher.verdict.Goals as goal

pub returns : goal.returns
returns c = λ seen old. old.1.verdict
