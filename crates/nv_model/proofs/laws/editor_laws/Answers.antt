use Rattle.nv_model.proofs.Changing.{buffer_update_is_kept, editor_splice_is_kept, stage_update_is_kept, new_buffer_is_kept, dropped_buffer_is_kept, fresh_editor_is_kept}
use Rattle.nv_model.proofs.Gone.{editor_leg_is_kept}
use Rattle.nv_model.proofs.laws.editor_laws.Goals as goal

pub returns : goal.returns
returns c = record {
  buffer = buffer_update_is_kept;
  splice = editor_splice_is_kept;
  stage = stage_update_is_kept;
  made = new_buffer_is_kept;
  dropped = dropped_buffer_is_kept;
  leg = editor_leg_is_kept;
  fresh = fresh_editor_is_kept;
}
