use Rattle.nv_layout.proofs.Naming.{rects_name_windows}
use Rattle.nv_layout.proofs.laws.rects_name_windows.Goals as goal

pub returns : goal.returns
returns c = rects_name_windows
