use Rattle.std.proofs.Common.{◌++◌}
use Rattle.std.proofs.lemmas.Result.{err_from_is_err_and}
use Rattle.nv_book.proofs.Entering.{advanced}
use Rattle.nv_book.proofs.replay.Replay.advance.Goals as goal

pub returns-clause-goes : goal.returns-clause-goes
returns-clause-goes g c =
    let n = c.in_ok-step.ensures.goes in
    (n.0, n.1, λ fed records played i. advanced (fed ++ n.0) _ records played c.in_ok-step.step c.is_there.result _ c.is_there.ensures (n.2 fed records played i))
