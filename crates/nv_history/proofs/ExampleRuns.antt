-- Worked examples, computed by the definitions.
use Rattle.std.proofs.Common.{refl}
use Rattle.nv_msgpack.specs.Shortest.{unsigned_spelling}
use Rattle.nv_model.specs.Buffers.{text_of, state_behind, marks_of}
use Rattle.nv_dispatch.specs.Calls.{row_of}
use Rattle.nv_history.specs.Examples.{LineCount, QuitAll, AttachAtomic, AttachTicking, Notifications, DeletedBuffer, OutboxOverflow, Held, LastEntry}

pub line_count_runs : LineCount
unfolding LineCount text_of state_behind marks_of row_of
line_count_runs = (refl, refl)

pub quit_all_runs : QuitAll
unfolding QuitAll text_of state_behind marks_of row_of
quit_all_runs = (refl, refl, refl)

pub attach_atomic_runs : AttachAtomic
unfolding AttachAtomic text_of state_behind marks_of row_of
attach_atomic_runs = (refl, refl)

pub attach_ticking_runs : AttachTicking
unfolding AttachTicking text_of state_behind marks_of row_of
attach_ticking_runs = refl

pub notifications_run : Notifications
unfolding Notifications text_of state_behind marks_of row_of
notifications_run = (refl, refl)

pub deleted_buffer_runs : DeletedBuffer
unfolding DeletedBuffer unsigned_spelling text_of state_behind marks_of row_of
deleted_buffer_runs = (refl, refl)

pub outbox_overflow_runs : OutboxOverflow
unfolding OutboxOverflow text_of state_behind marks_of row_of
outbox_overflow_runs = (refl, refl, refl)

pub held_runs : Held
unfolding Held text_of state_behind marks_of row_of
held_runs = refl

pub last_entry_runs : LastEntry
unfolding LastEntry text_of state_behind marks_of row_of
last_entry_runs = (refl, refl)
