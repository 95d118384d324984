use Rattle.std.proofs.Common.{◌≡◌, ◌≤◌}
use Rattle.nv_places.specs.Flat.{row_start}
use Rattle.nv_lines.proofs.measuring.row_at.Given as goal

abbrev pub invariant-loop-row : goal.invariant-loop-row
invariant-loop-row l = record {
  start : l.start ≡ row_start l.lines l.row;
  before : l.start ≤ l.offset;
}
