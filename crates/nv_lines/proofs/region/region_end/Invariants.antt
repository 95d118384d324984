use Rattle.std.proofs.Common.{◌-◌, ◌<◌, ◌≤◌, length}
use Rattle.nv_lines.specs.inside.Starts.{IsStart}
use Rattle.nv_lines.proofs.region.region_end.Given as goal

abbrev pub invariant-loop-end : goal.invariant-loop-end
invariant-loop-end l = record {
  start : IsStart l.chunks l.end;
  some : l.fn.first.chunk < l.end.chunk;
  row : l.fn.first.row ≤ l.end.row;
}

abbrev pub decreases-loop-end : goal.decreases-loop-end
decreases-loop-end l = length l.chunks - l.end.chunk
