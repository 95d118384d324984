-- What a `Message` holds.
use Rattle.nv_value.specs.View.{contents}
use Rattle.nv_rpc.specs.Messages.{Sent, reply, lines_event, tick_event, detach_event, fault_event}
use Rattle.nv_rpc.specs.Outcomes.{outcome_content}
use Rattle.nv_rpc.specs.declared.message.Message.{Message}
use Rattle.nv_rpc.specs.declared.message.Message.TheVariants.{Reply, Lines, Tick, Detach, Fault}

-- The content of a message.
abbrev pub sent_of : Message → Sent
sent_of (Reply msgid fault result) = reply msgid fault (outcome_content result)
sent_of (Lines buffer tick first last lines) =
    lines_event buffer tick first last (contents lines.items)
sent_of (Tick buffer tick) = tick_event buffer tick
sent_of (Detach buffer) = detach_event buffer
sent_of (Fault fault) = fault_event fault
