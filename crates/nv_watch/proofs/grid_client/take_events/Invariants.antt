-- What was taken, with the events that are left, is what all of them come to.
use Rattle.std.proofs.Common.{◌≡◌, drop, is_some}
use Rattle.std.specs.Prelude.{◌&&◌, ◌||◌}
use Rattle.std.specs.List.{list_any}
use Rattle.nv_linegrid.specs.Client.{client_after_all}
use Rattle.nv_redraw.specs.Reading.{AreTypedEvents}
use Rattle.nv_watch.specs.GridClients.{client_by_events, is_flush}
use Rattle.nv_watch.proofs.grid_client.take_events.Given as goal

abbrev pub invariant-loop-event : goal.invariant-loop-event
invariant-loop-event l = record {
  typed : AreTypedEvents (drop l.event-index l.events) → AreTypedEvents l.events;
  after : client_by_events l.client (drop l.event-index l.events) ≡ client_by_events l.initial.client l.events;
  fits : (l.taken.fits && is_some (client_after_all l.client (drop l.event-index l.events))) ≡ is_some (client_after_all l.initial.client l.events);
  flushed : (l.taken.flushed || list_any is_flush (drop l.event-index l.events)) ≡ list_any is_flush l.events;
}
