use Rattle.nv_msgpack.proofs.Exact.{is_partial}
use Rattle.nv_stream.proofs.scan.Scan.waits.Goals as goal

pub returns-in-Waits-clause-waits : goal.returns-in-Waits-clause-waits
returns-in-Waits-clause-waits c = λ _. is_partial _ _ _ c.requires.some (rw c.in-Waits.is at c.in_ok-step.ensures.shows)
