-- Types that hold a tree may go to another thread.
use denote.Param.Send.{IsSend, sendable}
use Rattle.std.proofs.Crossing.{frees}
use Rattle.std.proofs.rt.Memory.TheSendSync as memory
use Rattle.std.proofs.vec.Vec.TheSendSync as vec
use Rattle.std.proofs.alloc.Global.TheSendSync as heap
use Rattle.nv_layout.proofs.nodes.Leaf.TheSendSync as leaf
use Rattle.nv_layout.proofs.nodes.Tree.TheLaws.TheKnot as tree
use Rattle.nv_places.proofs.place.Pos.TheSendSync as pos
use Rattle.nv_windows.proofs.window.Window.TheSendSync as window
use Rattle.nv_windows.proofs.seats.Seat.TheSendSync as placed_seat
use Rattle.nv_windows.specs.contracts.seats.Seats as seats
use Rattle.nv_windows.specs.contracts.windows.Windows as windows
use Rattle.nv_windows.specs.contracts.window.Tabpage as tabpage
use Rattle.nv_windows.specs.contracts.parts.Parts as parts
use Rattle.nv_editor.specs.contracts.stage.Stage as stage
use Rattle.nv_editor.specs.contracts.editor.Editor as editor
use Rattle.nv_editor.proofs.naming.Namespaces.TheSendSync as namespaces
use Rattle.nv_editor.proofs.buffers.Buffers.TheSendSync as buffers
use Rattle.nv_notes.proofs.notes.Notes.TheSendSync as notes
use Rattle.nv_hl.proofs.table.Groups.TheSendSync as groups
use Rattle.nv_model.proofs.parts.Ui.TheSendSync as ui
use Rattle.nv_model.proofs.parts.Limits.TheSendSync as limits
use Rattle.nv_subs.proofs.subs.Subs.TheSendSync as subs
use Rattle.nv_world.specs.contracts.session.Session as session
use Rattle.nv_world.specs.contracts.state.State as state
use Rattle.nv_world.specs.contracts.machine.Machine as machine
use Rattle.nv_world.specs.contracts.world.World as world
use Rattle.nv_core.proofs.Crossing.{crossing_core, history_field, shared_send}
use Rattle.nv_core.proofs.effect.Cause.TheSendSync as cause
use Rattle.nv_world.proofs.step.Moved.TheSendSync as splice
use Rattle.circular_buffer.proofs.heap.HeapCircularBuffer.TheSendSync as outbox

ruleset sends = (sendable, frees, memory.the_send, memory.the_field_send, vec.the_send, heap.the_send, heap.the_field_send, leaf.the_send, leaf.the_field_send, tree.send-Tree, pos.the_send, pos.the_field_send, window.the_send, window.the_field_send)

tabpage_send : IsSend tabpage.the_row
tabpage_send = search sends depth 20

parts_field : IsSend parts.the_field.row
parts_field = search (sends, tabpage_send) depth 20

seats_field : IsSend seats.the_field.row
seats_field = search (sends, placed_seat.the_send) depth 20

windows_send : IsSend windows.the_row
windows_send = search (sends, parts_field, seats_field) depth 20

windows_field : IsSend windows.the_field.row
windows_field = search (sends, parts_field, seats_field) depth 20

ruleset stage_parts = (sends, windows_send, windows_field, namespaces.the_send, groups.the_send, notes.the_send, ui.the_send, ui.the_field_send, limits.the_send, limits.the_field_send)

stage_field : IsSend stage.the_field.row
stage_field = search stage_parts depth 20

editor_field : IsSend editor.the_field.row
editor_field = search (stage_parts, stage_field, buffers.the_send) depth 20

-- ---- sessions
session_field : IsSend session.the_field.row
session_field = search (sends, shared_send, cause.the_send, outbox.the_send) depth 20

-- ---- the world
state_field : IsSend state.the_field.row
state_field = search (sends, editor_field, subs.the_send, session_field) depth 20

machine_field : IsSend machine.the_field.row
machine_field = search (sends, splice.the_send, state_field) depth 20

pub world_send : IsSend world.the_row
world_send = search (sends, limits.the_field_send, machine_field, history_field) depth 20

-- what closures of `join` that hold passes to a world, and look at its turn, need
pub ruleset crossing_passes = (crossing_core, world_send)
