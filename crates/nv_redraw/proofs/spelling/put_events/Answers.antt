use Rattle.std.proofs.Common.{arith}
use Rattle.nv_msgpack.proofs.Writing.{on_err}
use Rattle.nv_redraw.specs.Values.{event_tree}
use Rattle.nv_redraw.proofs.SpellingLemmas.{begins_more, begins_on, value_written}
use Rattle.nv_redraw.proofs.spelling.put_events.Goals as goal

pub returns-in_err-put_event-clause-err : goal.returns-in_err-put_event-clause-err
returns-in_err-put_event-clause-err c =
    on_err c.from_residual.result (begins_on c.args.into.now.items c.loop-event.into.items c.put_event.new.into.items c.loop-event.invariant.kept c.in_err-put_event.ensures.err)

pub loop-event-preserved : goal.loop-event-preserved
loop-event-preserved c = record {
  kept = begins_more c.args.into.now.items c.loop-event.into.items c.put_event.new.into.items _ c.loop-event.invariant.kept c.in_ok-put_event.ensures.ok;
  all = value_written event_tree c.loop-event.into.items c.put_event.new.into.items _ c.args.events.now c.loop-event.event-index c.event-item.result (omega arith) c.event-item.is c.loop-event.invariant.all c.in_ok-put_event.ensures.ok;
}
