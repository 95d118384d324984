use Rattle.nv_core.proofs.Gaining.{gains_by}
use Rattle.nv_halves.proofs.Comings.{takes_with}
use Rattle.nv_halves.proofs.writer.take_in.Goals as goal

pub returns : goal.returns
returns g c = gains_by g.C.Story.stands g.C.Story.start _ _ _ _ _ (takes_with c.take-taken.result c.args.session) c.take-taken.ensures.gains
