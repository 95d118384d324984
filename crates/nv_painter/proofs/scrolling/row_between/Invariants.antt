use Rattle.std.proofs.Common.{◌≡◌, ◌++◌, drop}
use Rattle.nv_linegrid.specs.Client.{row_between}
use Rattle.nv_painter.proofs.scrolling.row_between.Given as goal

abbrev pub invariant-loop-k : goal.invariant-loop-k
invariant-loop-k l = l.cells.items ++ row_between l.left l.right l.source l.k (drop l.k l.row) ≡ row_between l.left l.right l.source 0 l.row
