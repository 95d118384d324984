-- The entries so far, with those of the events to come, are all of them.
use Rattle.std.proofs.Common.{◌≡◌, ◌≤◌, ◌-◌, ◌++◌, length, map, drop}
use Rattle.nv_value.specs.View.{content}
use Rattle.nv_redraw.specs.Values.{entry_tree, events_by_name}
use Rattle.nv_redraw.proofs.values.entries_of.Given as goal

abbrev pub invariant-loop-at : goal.invariant-loop-at
invariant-loop-at l = record {
  within : l.at ≤ length l.events;
  all : map content l.entries.items ++ map entry_tree (events_by_name (drop l.at l.events)) ≡ map entry_tree (events_by_name l.events);
}

abbrev pub decreases-loop-at : goal.decreases-loop-at
decreases-loop-at l = length l.events - l.at
