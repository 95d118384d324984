use Rattle.nv_layout.proofs.Apart.{rects_have_least_size}
use Rattle.nv_layout.proofs.laws.rects_have_least_size.Goals as goal

pub returns : goal.returns
returns c = rects_have_least_size
