-- The cells so far, with those of the runs to come, are all of them.
use Rattle.std.proofs.Common.{◌≡◌, ◌≤◌, length, drop, None}
use Rattle.nv_linegrid.specs.Client.{cells_before, cells_told}
use Rattle.nv_redraw.specs.inside.Taking.{within_room}
use Rattle.nv_redraw.proofs.lines.cells_within.Given as goal

abbrev pub invariant-loop-run : goal.invariant-loop-run
invariant-loop-run l = record {
  few : length l.cells.items ≤ l.room;
  all : within_room l.room (cells_before l.cells.items (cells_told l.last (drop l.run-index l.runs))) ≡ within_room l.room (cells_told None l.runs);
}
