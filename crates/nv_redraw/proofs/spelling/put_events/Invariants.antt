-- What was written, with the values to come, is all.
use Rattle.std.proofs.Common.{◌≡◌, ◌++◌, map, drop}
use Rattle.nv_value.specs.Content.{trees_of}
use Rattle.nv_msgpack.specs.Shortest.{all_shortest, BeginsAs}
use Rattle.nv_redraw.specs.Values.{event_tree}
use Rattle.nv_redraw.proofs.spelling.put_events.Given as goal

abbrev pub invariant-loop-event : goal.invariant-loop-event
invariant-loop-event l = record {
  kept : BeginsAs l.fn.into.items l.into.items;
  all : l.into.items ++ all_shortest (trees_of (map event_tree (drop l.event-index l.events)))
      ≡ l.fn.into.items ++ all_shortest (trees_of (map event_tree l.events));
}
