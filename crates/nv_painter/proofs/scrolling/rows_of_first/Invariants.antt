use Rattle.std.proofs.Common.{◌≡◌, ◌≤◌, ◌+◌, drop, min, sum, take}
use Rattle.nv_painter.proofs.scrolling.rows_of_first.Given as goal

abbrev pub invariant-loop-height : goal.invariant-loop-height
invariant-loop-height l = record {
  rows : min l.most (l.rows + sum (drop l.height-index (take l.count l.heights))) ≡ min l.most (sum (take l.count l.heights));
  most : l.rows ≤ l.most;
}
