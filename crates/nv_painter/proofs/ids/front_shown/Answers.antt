use Rattle.nv_painter.proofs.SketchLemmas.{empty_is_id_0}
use Rattle.nv_painter.proofs.ids.front_shown.Goals as goal

pub loop-k-init : goal.loop-k-init
loop-k-init c = record { front = c.requires.shown; id = empty_is_id_0 c.args.attrs.now }
