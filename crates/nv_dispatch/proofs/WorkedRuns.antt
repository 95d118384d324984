-- Worked examples, computed by the definitions.
use Rattle.std.proofs.Common.{refl}
use Rattle.std.specs.Fmt.{digits}
use Rattle.nv_msgpack.specs.Shortest.{unsigned_spelling}
use Rattle.nv_model.specs.Buffers.{text_of, state_behind, marks_of}
use Rattle.nv_dispatch.specs.Calls.{row_of}
use Rattle.nv_dispatch.specs.Worked.{EmptyText, IndexBounds, StartAboveEnd, TextPlaces, UndoBranches, SecondBuffer, NotModifiable, FaultTexts, CallsInOne}

pub empty_text : EmptyText
unfolding EmptyText unsigned_spelling text_of state_behind marks_of row_of
empty_text = refl

pub index_bounds : IndexBounds
unfolding IndexBounds text_of state_behind marks_of row_of
index_bounds = refl

pub start_above_end : StartAboveEnd
unfolding StartAboveEnd text_of state_behind marks_of row_of
start_above_end = refl

pub text_places : TextPlaces
unfolding TextPlaces text_of state_behind marks_of row_of
text_places = refl

pub undo_branches : UndoBranches
unfolding UndoBranches text_of state_behind marks_of row_of
undo_branches = refl

pub second_buffer : SecondBuffer
unfolding SecondBuffer text_of state_behind marks_of row_of
second_buffer = refl

pub not_modifiable : NotModifiable
unfolding NotModifiable text_of state_behind marks_of row_of
not_modifiable = refl

pub fault_texts : FaultTexts
unfolding FaultTexts digits text_of state_behind marks_of row_of
fault_texts = refl

pub calls_in_one : CallsInOne
unfolding CallsInOne text_of state_behind marks_of row_of
calls_in_one = refl
