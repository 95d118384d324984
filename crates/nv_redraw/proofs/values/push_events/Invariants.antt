-- What was put, with the values to come, is all.
use Rattle.std.proofs.Common.{◌≡◌, ◌++◌, map, drop}
use Rattle.nv_value.specs.View.{content}
use Rattle.nv_redraw.specs.Values.{event_tree}
use Rattle.nv_redraw.proofs.values.push_events.Given as goal

abbrev pub invariant-loop-event : goal.invariant-loop-event
invariant-loop-event l = map content l.items.items ++ map event_tree (drop l.event-index l.events) ≡ map content l.fn.items.items ++ map event_tree l.events
