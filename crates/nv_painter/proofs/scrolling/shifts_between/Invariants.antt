use Rattle.std.proofs.Common.{◌≡◌, ◌++◌, drop}
use Rattle.nv_linegrid.specs.Scrolls.{shifts_between}
use Rattle.nv_painter.proofs.scrolling.shifts_between.Given as goal

abbrev pub invariant-loop-new : goal.invariant-loop-new
invariant-loop-new l = l.shifts.items ++ shifts_between l.olds (drop l.new-index l.news) ≡ shifts_between l.olds l.news
