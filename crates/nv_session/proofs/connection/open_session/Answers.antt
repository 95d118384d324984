use Rattle.std.proofs.Common.{ℕ, Result, sym, subst}
use Rattle.nv_io.specs.declared.lanes.Ended.{Ended}
use Rattle.nv_halves.specs.Passes.{plain_pass}
use Rattle.nv_session.specs.Openings.{Opens}
use Rattle.nv_session.proofs.Opening.{opened_once}
use Rattle.nv_session.proofs.connection.open_session.Goals as goal

pub returns : goal.returns
returns g c =
    subst (λ (r : Result ℕ Ended). Opens r (plain_pass c.args.pass) (plain_pass c.open-pass.result.0)) (sym c.opened_by.ensures)
    (opened_once _ _ c.open-pass.result.1 c.open-pass.ensures)
