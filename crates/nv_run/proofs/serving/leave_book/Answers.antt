use Rattle.std.proofs.Common.{◌≡◌, ap, sym, subst}
use Rattle.nv_model.specs.declared.parts.Limits.{Limits}
use Rattle.nv_dispatch.specs.Runs.{usual_limits}
use Rattle.nv_run.proofs.Replays.{book_fault, book_written}
use Rattle.nv_run.proofs.serving.leave_book.Goals as goal

pub returns-clause-fault : goal.returns-clause-fault
returns-clause-fault g c = λ is. book_fault _ _ _ _ c.end_with.ensures.end c.requires.other c.keep_book.ensures.fault is
