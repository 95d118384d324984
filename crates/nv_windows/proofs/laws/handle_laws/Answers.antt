use Rattle.nv_windows.proofs.SoundLaws.{handles_rise}
use Rattle.nv_windows.proofs.laws.handle_laws.Goals as goal

pub returns : goal.returns
returns c = handles_rise
