use Rattle.std.proofs.Common.{◌≡◌, ◌≤◌, ◌+◌, ◌++◌, drop}
use Rattle.nv_linegrid.specs.Rows.{runs_of}
use Rattle.nv_painter.specs.inside.Telling.{runs_with}
use Rattle.nv_painter.proofs.lines.runs_of.Given as goal

abbrev pub invariant-loop-k : goal.invariant-loop-k
invariant-loop-k l = record {
  runs : l.runs.items ++ runs_with l.last l.count (drop l.k l.cells) ≡ runs_of l.cells;
  count : l.count ≤ l.k + 1;
}
