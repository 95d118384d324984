use Rattle.std.proofs.Common.{Option, sym, subst}
use Rattle.nv_core.specs.Gains.{GainsIn}
use Rattle.nv_halves.specs.inside.Insisting.{ClosesWith}
use Rattle.nv_halves.specs.declared.insisting.Asked.{Asked}
use Rattle.nv_core.proofs.Gaining.{gains_by}
use Rattle.nv_halves.proofs.Comings.{closes_with}
use Rattle.nv_halves.proofs.insisting.close_in.Goals as goal

pub returns : goal.returns
returns g c =
    subst (λ (o : Option Asked). GainsIn g.C.Story.stands g.C.Story.start c.args.world.now c.close-met.new.self c.args.caller (ClosesWith o c.args.session))
    (sym c.shut_by.ensures) (gains_by g.C.Story.stands g.C.Story.start _ _ _ _ _ (closes_with c.close-met.result c.args.session) c.close-met.ensures.gains)
