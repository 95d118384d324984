use Rattle.nv_windows.proofs.SoundLaws.{soundness_stays}
use Rattle.nv_windows.proofs.laws.soundness_laws.Goals as goal

pub returns : goal.returns
returns c = soundness_stays
