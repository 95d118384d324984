-- The events gone over, and those to come that have the name, are all of them.
use Rattle.std.proofs.Common.{◌≡◌, ◌+◌, drop}
use Rattle.nv_redraw.specs.inside.Naming.{count_named}
use Rattle.nv_redraw.proofs.naming.count_named.Given as goal

abbrev pub invariant-loop-event : goal.invariant-loop-event
invariant-loop-event l = record {
  count : l.count ≡ l.event-index;
  all : l.count + count_named l.name (drop l.event-index l.events) ≡ count_named l.name l.events;
}
