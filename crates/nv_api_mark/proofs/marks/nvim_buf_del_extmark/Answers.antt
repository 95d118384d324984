use Rattle.std.proofs.Common.{◌≡◌, ◌∙◌, ℤ, true, false, [], ◌∷◌, Some, rules, ap, subst, w64, to_z, of_z}
use Rattle.nv_value.specs.Content.{truth}
use Rattle.nv_value.specs.declared.value.Value.{Truth}
use Rattle.nv_value.proofs.Contents.{content-Truth}
use Rattle.nv_args.specs.Args.{typed_arguments}
use Rattle.nv_args.specs.Reading.{number_at}
use Rattle.nv_windows.specs.Workspace.{current_buffer}
use Rattle.nv_model.specs.Answers.{Answer}
use Rattle.nv_model.specs.Editors.{at_handle}
use Rattle.nv_model.specs.Operations.{mark_removed}
use Rattle.nv_model.specs.Seen.{SeenBuffer}
use Rattle.nv_model.specs.Stage.{or_current}
use Rattle.nv_model.specs.Standing.{seen_now}
use Rattle.nv_editor.specs.Doing.{Does}
use Rattle.nv_api_mark.specs.MarkRows.{removal_answer}
use Rattle.nv_api_mark.specs.inside.Telling.{numbered_answer}
use Rattle.nv_api_mark.proofs.Steps.{gives_done, gives_stop, on_found}
use Rattle.nv_api_mark.proofs.marks.nvim_buf_del_extmark.Goals as goal

pub returns-in_err-mark-clause-row : goal.returns-in_err-mark-clause-row
returns-in_err-mark-clause-row c = λ session told.
    let e = c.args.editor.now in
    let args = typed_arguments c.args.args.now in
    let h = or_current (current_buffer e.stage.workspace) (number_at args 0) in
    let at : at_handle e.buffers h ≡ Some c.in-Some.buffer.now = search rules in
    let next : ℤ → SeenBuffer → Answer = λ n b. numbered_answer (seen_now e) b args (removal_answer n) in
    gives_stop _ _ (removal_answer h) c.in_err-mark.field-0.0 c.from_residual.result e told (on_found e (number_at args 0) c.in-Some.buffer.now next at)
    (c.in_err-mark.ensures.row (removal_answer h)) c.from_residual.ensures.1

pub returns-in_default-2-clause-row : goal.returns-in_default-2-clause-row
returns-in_default-2-clause-row c = λ session told.
    let e = c.args.editor.now in
    let args = typed_arguments c.args.args.now in
    let h = or_current (current_buffer e.stage.workspace) (number_at args 0) in
    let at : at_handle e.buffers h ≡ Some c.in-Some.buffer.now = search rules in
    let next : ℤ → SeenBuffer → Answer = λ n b. numbered_answer (seen_now e) b args (removal_answer n) in
    gives_done _ (truth false) [] (Truth false) e e told
    (on_found e (number_at args 0) c.in-Some.buffer.now next at ∙ c.in_ok-mark.ensures.row (removal_answer h) ∙ ap (removal_answer h) c.in_default-2.is)
    (content-Truth false) (λ m stands. stands)

pub returns-clause-row : goal.returns-clause-row
returns-clause-row c = λ session told.
    let e = c.args.editor.now in
    let args = typed_arguments c.args.args.now in
    let h = or_current (current_buffer e.stage.workspace) (number_at args 0) in
    let mark = c.in-Some-2.mark in
    let at : at_handle e.buffers h ≡ Some c.in-Some.buffer.now = search rules in
    let handle : to_z w64 (of_z w64 c.named_buffer-handle.result) ≡ h = search rules in
    let done : Does (mark_removed h mark.ns mark.id ∷ []) e c.remove_mark.new.self =
    subst (λ (n : ℤ). Does (mark_removed n mark.ns mark.id ∷ []) e c.remove_mark.new.self) handle c.remove_mark.ensures.done in
    let next : ℤ → SeenBuffer → Answer = λ n b. numbered_answer (seen_now e) b args (removal_answer n) in
    gives_done _ (truth true) (mark_removed h mark.ns mark.id ∷ []) (Truth true) e c.remove_mark.new.self told
    (on_found e (number_at args 0) c.in-Some.buffer.now next at ∙ c.in_ok-mark.ensures.row (removal_answer h) ∙ ap (removal_answer h) c.in-Some-2.is)
    (content-Truth true) done
