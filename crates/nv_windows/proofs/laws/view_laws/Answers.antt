use Rattle.nv_windows.proofs.SoundLaws.{views_stay}
use Rattle.nv_windows.proofs.laws.view_laws.Goals as goal

pub returns : goal.returns
returns c = views_stay
