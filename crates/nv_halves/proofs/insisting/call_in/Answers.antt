use Rattle.std.proofs.Common.{Result, sym, subst}
use Rattle.nv_rpc.specs.Frames.{call_of_frame}
use Rattle.nv_rpc.specs.declared.frame.Frame.{Frame}
use Rattle.nv_core.specs.Gains.{GainsIn}
use Rattle.nv_halves.specs.inside.Insisting.{CallsWith}
use Rattle.nv_halves.specs.declared.insisting.Asked.{Asked}
use Rattle.nv_core.proofs.Gaining.{gains_by}
use Rattle.nv_halves.proofs.Comings.{calls_with}
use Rattle.nv_halves.proofs.insisting.call_in.Goals as goal

pub returns : goal.returns
returns g c =
    subst (λ (r : Result Asked Frame). GainsIn g.C.Story.stands g.C.Story.start c.args.world.now c.request-met.new.self c.args.caller (CallsWith r c.args.session (call_of_frame c.args.call)))
    (sym c.asked_by.ensures) (gains_by g.C.Story.stands g.C.Story.start _ _ _ _ _ (calls_with c.request-met.result c.args.session c.args.call) c.request-met.ensures.gains)
