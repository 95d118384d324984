use Rattle.nv_model.proofs.Numbering.{handles_stay_below, no_handle_twice}
use Rattle.nv_model.proofs.laws.handle_laws.Goals as goal

pub returns : goal.returns
returns c = record { below = handles_stay_below; once = no_handle_twice }
