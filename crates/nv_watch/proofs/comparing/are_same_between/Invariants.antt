-- The rows so far are the same, so it is told by those that are left.
use Rattle.std.proofs.Common.{◌≡◌, ◌≤◌, drop}
use Rattle.nv_watch.specs.Folds.{are_same_lines}
use Rattle.nv_watch.proofs.comparing.are_same_between.Given as goal

abbrev pub invariant-loop-row : goal.invariant-loop-row
invariant-loop-row l = record {
  within : l.row ≤ l.to;
  left : are_same_lines (drop l.row l.text) (drop l.row l.lines) ≡ are_same_lines (drop l.from l.text) (drop l.from l.lines);
}
