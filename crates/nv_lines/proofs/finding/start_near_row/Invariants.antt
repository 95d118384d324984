use Rattle.std.proofs.Common.{◌-◌, ◌≤◌, length}
use Rattle.nv_lines.specs.inside.Starts.{IsStart}
use Rattle.nv_lines.proofs.finding.start_near_row.Given as goal

abbrev pub invariant-loop-low : goal.invariant-loop-low
invariant-loop-low l = record {
  start : IsStart l.chunks l.found;
  before : l.found.row ≤ l.row;
  high : l.high ≤ length l.starts;
}

abbrev pub decreases-loop-low : goal.decreases-loop-low
decreases-loop-low l = l.high - l.low
