use Rattle.std.proofs.Common.{◌≡◌, ◌≤◌, ◌+◌, drop, min}
use Rattle.nv_screen.specs.Cursor.{rows_together}
use Rattle.nv_screen.proofs.cursor.rows_together.Given as goal

abbrev pub invariant-loop-line : goal.invariant-loop-line
invariant-loop-line l = record {
  rows : min l.most (l.rows + rows_together l.width l.tabstop (drop l.line-index l.lines)) ≡ min l.most (rows_together l.width l.tabstop l.lines);
  most : l.rows ≤ l.most;
}
