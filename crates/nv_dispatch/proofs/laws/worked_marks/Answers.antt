use Rattle.nv_dispatch.proofs.WorkedMarks.{marks_move, marks_past_end, marks_reverse, mark_details, mark_faults, namespaces, highlight_groups}
use Rattle.nv_dispatch.proofs.laws.worked_marks.Goals as goal

pub returns : goal.returns
returns c = record {
  marks_move = marks_move;
  marks_past_end = marks_past_end;
  marks_reverse = marks_reverse;
  mark_details = mark_details;
  mark_faults = mark_faults;
  namespaces = namespaces;
  highlight_groups = highlight_groups;
}
