-- What was written, with the entries of the events to come, is all.
use Rattle.std.proofs.Common.{◌≡◌, ◌≤◌, ◌-◌, ◌++◌, length, map, drop}
use Rattle.nv_value.specs.Content.{trees_of}
use Rattle.nv_msgpack.specs.Shortest.{all_shortest, BeginsAs}
use Rattle.nv_redraw.specs.Values.{entry_tree, events_by_name}
use Rattle.nv_redraw.proofs.spelling.put_entries.Given as goal

abbrev pub invariant-loop-at : goal.invariant-loop-at
invariant-loop-at l = record {
  within : l.at ≤ length l.events;
  kept : BeginsAs l.fn.into.items l.into.items;
  all : l.into.items ++ all_shortest (trees_of (map entry_tree (events_by_name (drop l.at l.events))))
      ≡ l.fn.into.items ++ all_shortest (trees_of (map entry_tree (events_by_name l.events)));
}

abbrev pub decreases-loop-at : goal.decreases-loop-at
decreases-loop-at l = length l.events - l.at
