-- The rows so far are the same, so it is told by those that are left.
use Rattle.std.proofs.Common.{◌≡◌, drop, length}
use Rattle.nv_watch.specs.Folds.{are_same_lines}
use Rattle.nv_watch.proofs.comparing.are_same_rows.Given as goal

abbrev pub invariant-loop-row : goal.invariant-loop-row
invariant-loop-row l = record {
  count : length l.lines ≡ length l.others;
  left : are_same_lines (drop l.row l.lines) (drop l.row l.others) ≡ are_same_lines l.lines l.others;
}
