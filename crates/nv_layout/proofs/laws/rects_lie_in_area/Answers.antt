use Rattle.nv_layout.proofs.Apart.{rects_lie_in_area}
use Rattle.nv_layout.proofs.laws.rects_lie_in_area.Goals as goal

pub returns : goal.returns
returns c = rects_lie_in_area
