use Rattle.std.proofs.Common.{◌-◌, ◌≤◌, length}
use Rattle.nv_lines.specs.inside.Starts.{IsStart}
use Rattle.nv_lines.proofs.finding.start_of_offset.Given as goal

abbrev pub invariant-loop-at : goal.invariant-loop-at
invariant-loop-at l = record { start : IsStart l.chunks l.at; begins : l.at.offset ≤ l.offset }

abbrev pub decreases-loop-at : goal.decreases-loop-at
decreases-loop-at l = length l.chunks - l.at.chunk
