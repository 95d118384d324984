use Rattle.std.proofs.Common.{refl, ap, sym, subst}
use Rattle.std.specs.Prelude.{Err}
use Rattle.nv_session.specs.inside.Serving.{CutsShort}
use Rattle.nv_session.proofs.Steps.{unsaid_cut, unsaid_fault}
use Rattle.nv_session.proofs.session.Session.put.Goals as goal

pub returns-in-Err-clause-err : goal.returns-in-Err-clause-err
returns-in-Err-clause-err g c = (subst CutsShort (sym c.end_unsaid.ensures) (unsaid_cut c.in-Err.why), c.clear.ensures.items, c.in-Err.ensures.err)

pub returns-in-Err-clause-fault : goal.returns-in-Err-clause-fault
returns-in-Err-clause-fault g c = λ e. c.in-Err.ensures.fault (ap Err (unsaid_fault c.in-Err.why c.end_unsaid.result (Err c.end_unsaid.result) c.end_unsaid.ensures refl e))
