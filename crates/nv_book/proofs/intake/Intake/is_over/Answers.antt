use Rattle.std.proofs.Common.{[], ◌≡◌, ap, arith, length}
use Rattle.nv_book.specs.inside.Intakes.{Intaking}
use Rattle.nv_book.proofs.Standing.{gave_none, given_still}
use Rattle.nv_book.proofs.intake.Intake.is_over.Goals as goal

pub returns-then-held_len-gt0-clause-over : goal.returns-then-held_len-gt0-clause-over
returns-then-held_len-gt0-clause-over g c =
    let held = ap (λ (x : Intaking). length x.stream.held) c.self.view_is in (
      [],
      gave_none _ _,
      λ fed values h. (given_still fed values c.args.self.now.taken c.args.self.now.stream h, omega (arith, held, c.if-held_len-gt0.true, c.held_len.ensures)),
    )
