-- Worked examples of marks and highlight groups, computed by the definitions.
use Rattle.std.proofs.Common.{refl}
use Rattle.std.specs.Fmt.{digits}
use Rattle.nv_model.specs.Buffers.{text_of, state_behind, marks_of}
use Rattle.nv_dispatch.specs.Calls.{row_of}
use Rattle.nv_dispatch.specs.WorkedMarks.{MarksMoveWithText, MarksPastEnd, MarksReverse, MarkDetails, MarkFaults, Namespaces, HighlightGroups}

pub marks_move : MarksMoveWithText
unfolding MarksMoveWithText text_of state_behind marks_of row_of
marks_move = refl

pub marks_past_end : MarksPastEnd
unfolding MarksPastEnd text_of state_behind marks_of row_of
marks_past_end = refl

pub marks_reverse : MarksReverse
unfolding MarksReverse text_of state_behind marks_of row_of
marks_reverse = refl

pub mark_details : MarkDetails
unfolding MarkDetails text_of state_behind marks_of row_of
mark_details = refl

pub mark_faults : MarkFaults
unfolding MarkFaults digits text_of state_behind marks_of row_of
mark_faults = refl

pub namespaces : Namespaces
unfolding Namespaces text_of state_behind marks_of row_of
namespaces = refl

pub highlight_groups : HighlightGroups
unfolding HighlightGroups digits text_of state_behind marks_of row_of
highlight_groups = refl
