-- The entries counted, with those of the events to come, are all of them.
use Rattle.std.proofs.Common.{◌≡◌, ◌≤◌, ◌+◌, ◌-◌, length, drop}
use Rattle.nv_redraw.specs.Values.{events_by_name}
use Rattle.nv_redraw.proofs.spelling.count_entries.Given as goal

abbrev pub invariant-loop-at : goal.invariant-loop-at
invariant-loop-at l = record {
  within : l.at ≤ length l.events;
  few : l.count ≤ l.at;
  all : l.count + length (events_by_name (drop l.at l.events)) ≡ length (events_by_name l.events);
}

abbrev pub decreases-loop-at : goal.decreases-loop-at
decreases-loop-at l = length l.events - l.at
