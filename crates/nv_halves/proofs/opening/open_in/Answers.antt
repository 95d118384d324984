use Rattle.nv_core.proofs.Gaining.{gains_by}
use Rattle.nv_halves.proofs.Comings.{opens_with}
use Rattle.nv_halves.proofs.opening.open_in.Goals as goal

pub returns : goal.returns
returns g c = gains_by g.C.Story.stands g.C.Story.start _ _ _ _ _ (opens_with c.open-opened.result) c.open-opened.ensures.gains
