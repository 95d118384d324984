use Rattle.nv_layout.proofs.Tilings.{rects_tile}
use Rattle.nv_layout.proofs.laws.rects_tile.Goals as goal

pub returns : goal.returns
returns c = rects_tile
