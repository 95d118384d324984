use Rattle.nv_painter.proofs.MoveLemmas.{cut_heights_move_alike}
use Rattle.nv_painter.proofs.PictureLemmas.{sound_is_shown}
use Rattle.nv_painter.proofs.laws.picture_laws.Goals as goal

pub returns : goal.returns
returns c = record { shown = sound_is_shown; heights = cut_heights_move_alike }
