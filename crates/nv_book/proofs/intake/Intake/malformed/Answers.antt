use Rattle.std.proofs.Common.{ap, ◌≡◌}
use Rattle.nv_book.proofs.Standing.{told_err}
use Rattle.nv_book.proofs.intake.Intake.malformed.Goals as goal

pub returns-in-Err-clause-tells : goal.returns-in-Err-clause-tells
returns-in-Err-clause-tells g c =
    let d = c.in-Err.ensures.drains in
    (d.0, d.1, told_err d.0 _ c.args.place c.args.self.now c.in-Err.fault (λ n e. c.in-Err.ensures.no_place n (cc)))
