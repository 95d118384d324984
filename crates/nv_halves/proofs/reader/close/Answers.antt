use Rattle.std.proofs.Common.{sym, subst}
use Rattle.nv_halves.specs.Passes.{plain_pass}
use Rattle.nv_halves.specs.inside.Intakes.{ClosesAfter}
use Rattle.nv_halves.specs.declared.ends.ReaderEnd.{ReaderEnd}
use Rattle.nv_halves.proofs.Intaking.{closes_after}
use Rattle.nv_halves.proofs.reader.close.Goals as goal

pub returns : goal.returns
returns g c =
    subst (λ (e : ReaderEnd). ClosesAfter c.args.end e (plain_pass c.args.pass) (plain_pass c.shut-pass.result.0) c.args.session) (sym c.end_after.ensures)
    (closes_after c.args.end c.shut-pass.result.1 _ _ _ c.shut-pass.ensures c.in_default.not-Gone)
