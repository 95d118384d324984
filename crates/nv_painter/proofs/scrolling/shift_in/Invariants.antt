use Rattle.std.proofs.Common.{◌≡◌, drop}
use Rattle.nv_linegrid.specs.Scrolls.{shift_in}
use Rattle.nv_painter.proofs.scrolling.shift_in.Given as goal

abbrev pub invariant-loop-old : goal.invariant-loop-old
invariant-loop-old l = shift_in (drop l.old-index l.olds) l.new ≡ shift_in l.olds l.new
