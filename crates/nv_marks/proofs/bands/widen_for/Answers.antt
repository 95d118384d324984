use Rattle.std.proofs.Common.{sym, subst, Option}
use Rattle.std.specs.Prelude.{IfSome}
use Rattle.nv_marks.specs.declared.extmark.Mark.{Mark}
use Rattle.nv_marks.specs.inside.Bands.{HasBand}
use Rattle.nv_marks.proofs.bands.widen_for.Goals as goal

pub returns-in-Some-clause-own : goal.returns-in-Some-clause-own
returns-in-Some-clause-own c = subst (λ (o : Option Mark). IfSome o (HasBand c.widen_to.new.bands)) (sym c.in-Some.is) c.widen_to.ensures.own

pub returns-in_default-clause-own : goal.returns-in_default-clause-own
returns-in_default-clause-own c = subst (λ (o : Option Mark). IfSome o (HasBand c.args.bands.now)) (sym c.in_default.is) tt
