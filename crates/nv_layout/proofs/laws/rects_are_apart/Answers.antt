use Rattle.nv_layout.proofs.Apart.{rects_are_apart}
use Rattle.nv_layout.proofs.laws.rects_are_apart.Goals as goal

pub returns : goal.returns
returns c = rects_are_apart
