use Rattle.nv_dispatch.proofs.WorkedRuns.{empty_text, index_bounds, start_above_end, text_places, undo_branches, second_buffer, not_modifiable, fault_texts, calls_in_one}
use Rattle.nv_dispatch.proofs.laws.worked_runs.Goals as goal

pub returns : goal.returns
returns c = record {
  empty_text = empty_text;
  index_bounds = index_bounds;
  start_above_end = start_above_end;
  text_places = text_places;
  undo_branches = undo_branches;
  second_buffer = second_buffer;
  not_modifiable = not_modifiable;
  fault_texts = fault_texts;
  calls_in_one = calls_in_one;
}
