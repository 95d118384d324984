use Rattle.std.proofs.Common.{◌≡◌, sym, subst, true, Option}
use Rattle.std.specs.Prelude.{IfSome}
use Rattle.nv_marks.specs.declared.extmark.Far.{Far}
use Rattle.nv_marks.specs.inside.Bands.{is_banded}
use Rattle.nv_marks.proofs.bands.widen_to.Goals as goal

pub returns-in-Some-clause-own : goal.returns-in-Some-clause-own
returns-in-Some-clause-own c =
    subst (λ (o : Option Far). IfSome o (λ far. is_banded c.widen.new.bands c.args.mark.now.start.row far.pos.row ≡ true)) (sym c.in-Some.is) c.widen.ensures.own

pub returns-in_default-clause-own : goal.returns-in_default-clause-own
returns-in_default-clause-own c =
    subst (λ (o : Option Far). IfSome o (λ far. is_banded c.args.bands.now c.args.mark.now.start.row far.pos.row ≡ true)) (sym c.in_default.is) tt
