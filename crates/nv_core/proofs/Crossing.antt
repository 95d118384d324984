-- What of a core may go to another thread: messages and entries, and what looks at its turn.
use denote.Param.Send.{IsSend, sendable}
use Rattle.std.proofs.Crossing.{frees}
use Rattle.std.proofs.rt.Memory.TheSendSync as memory
use Rattle.std.proofs.boxed.Box.TheSendSync as boxed
use Rattle.std.proofs.vec.Vec.TheSendSync as vec
use Rattle.std.proofs.alloc.Global.TheSendSync as heap
use Rattle.std.proofs.sync.Arc.TheSendSync as arc
use Rattle.std.proofs.sync.atomic.AtomicU64.TheSendSync as atomic
use Rattle.std.proofs.option.Option.TheSendSync as option
use Rattle.nv_lines.proofs.excerpt.Excerpt.TheSendSync as excerpt
use Rattle.nv_value.proofs.bytes.Bytes.TheSendSync as bytes
use Rattle.nv_value.proofs.fault.ApiFault.TheSendSync as fault
use Rattle.nv_value.proofs.value.Value.TheLaws.TheKnot as value
use Rattle.nv_rpc.proofs.outcome.Triple.TheSendSync as triple
use Rattle.nv_rpc.specs.contracts.outcome.CallResult as call_result
use Rattle.nv_rpc.specs.contracts.outcome.AtomicResults as results
use Rattle.nv_rpc.specs.contracts.outcome.Outcome as outcome
use Rattle.nv_rpc.specs.contracts.message.Message as message
use Rattle.nv_rpc.specs.contracts.frame.Frame as frame
use Rattle.nv_core.specs.contracts.shared.SharedMessage as shared
use Rattle.nv_core.specs.contracts.entry.Event as event
use Rattle.nv_core.specs.contracts.entry.Entry as entry
use Rattle.nv_core.specs.contracts.history.History as history
use Rattle.nv_core.proofs.shared.LinesEvent.TheSendSync as lines
use Rattle.atomic_table.proofs.owned.Table.TheSendSync as table
use Rattle.atomic_table.proofs.shared.Seat.TheSendSync as seat
use Rattle.atomic_table.proofs.shared.Shared.TheSendSync as shared_table
use Rattle.nv_turn.proofs.pass.Pass.TheSendSync as pass
use Rattle.nv_turn.proofs.turn.Turn.TheSendSync as turn

ruleset sends = (sendable, frees, memory.the_send, memory.the_field_send, vec.the_send, heap.the_send, heap.the_field_send)

ruleset message_parts = (sends, boxed.the_send, bytes.the_send, fault.the_send, fault.the_field_send, value.send-Value, excerpt.the_send, triple.the_send)

result_send : IsSend call_result.the_row
result_send = search message_parts depth 20

result_field : IsSend call_result.the_field.row
result_field = search message_parts depth 20

results_field : IsSend results.the_field.row
results_field = search (message_parts, result_send) depth 20

outcome_field : IsSend outcome.the_field.row
outcome_field = search (message_parts, result_field, results_field) depth 20

message_field : IsSend message.the_field.row
message_field = search (message_parts, outcome_field) depth 20

pub shared_send : IsSend shared.the_row
shared_send = search (sends, message_field, lines.the_send, lines.the_sync, arc.the_send) depth 20

frame_field : IsSend frame.the_field.row
frame_field = search message_parts depth 20

event_field : IsSend event.the_field.row
event_field = search (sends, frame_field) depth 20

entry_field : IsSend entry.the_field.row
entry_field = search (sends, event_field) depth 20

pub history_field : IsSend history.the_field.row
history_field = search (sends, entry_field) depth 20

-- what closures of `join` that hold passes to a core, and look at its turn, need beside the core
pub ruleset crossing_core = (sendable, pass.the_send, turn.the_sync, seat.the_send, shared_table.the_sync, table.the_sync, option.the_send, atomic.the_sync)
