use Rattle.std.proofs.Common.{◌≡◌, ◌∙◌, ℤ, Some, All, of_z, rules, ap, to_z, w64}
use Rattle.nv_args.specs.Args.{typed_arguments}
use Rattle.nv_args.specs.Reading.{number_at}
use Rattle.nv_buffer.specs.Content.{Content}
use Rattle.nv_windows.specs.Workspace.{current_buffer}
use Rattle.nv_model.specs.Answers.{Answer}
use Rattle.nv_model.specs.Editors.{at_handle}
use Rattle.nv_model.specs.Seen.{SeenBuffer}
use Rattle.nv_model.specs.Stage.{or_current}
use Rattle.nv_model.specs.Standing.{seen_now, seen_buffer_now}
use Rattle.nv_editor.specs.Sound.{IsOfGroups}
use Rattle.nv_editor.proofs.Updating.{looked_up}
use Rattle.nv_api_mark.specs.inside.Telling.{by_id_answer}
use Rattle.nv_api_mark.proofs.Steps.{on_found, reads_on}
use Rattle.nv_api_mark.proofs.marks.nvim_buf_get_extmark_by_id.Goals as goal

pub place_told-requires : goal.place_told-requires
place_told-requires c =
    let e = c.args.editor.now in
    let h = or_current (current_buffer e.stage.workspace) (number_at (typed_arguments c.args.args.now) 0) in
    let at : at_handle e.buffers h ≡ Some c.in-Some.buffer.now = search rules in
    record {
      painted = looked_up (λ (b : Content). All (IsOfGroups e.stage.groups) b.marks.marks) e.buffers h c.in-Some.buffer.now c.known.ensures.painted at;
    }

pub returns-in-Some-clause-row : goal.returns-in-Some-clause-row
returns-in-Some-clause-row c = λ session.
    let e = c.args.editor.now in
    let b = c.in-Some.buffer.now in
    let args = typed_arguments c.args.args.now in
    let h = or_current (current_buffer e.stage.workspace) (number_at args 0) in
    let at : at_handle e.buffers h ≡ Some b = search (rules, c.in-Some.ensures, c.named_buffer-handle.ensures) in
    let next : ℤ → SeenBuffer → Answer = λ n b. by_id_answer (seen_now e) n b args in
    let handle : h ≡ to_z w64 (of_z w64 c.named_buffer-handle.result) = search (rules, c.named_buffer-handle.ensures) in
    reads_on _ (by_id_answer (seen_now e) (to_z w64 (of_z w64 c.named_buffer-handle.result)) (seen_buffer_now b) args) c.place_told.result
    (on_found e (number_at args 0) b next at ∙ ap (λ (n : ℤ). by_id_answer (seen_now e) n (seen_buffer_now b) args) handle)
    c.place_told.ensures.row
