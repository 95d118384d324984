use Rattle.std.proofs.Common.{◌≡◌, ◌∙◌, ℤ, All, List, Some, filter, rules, subst, sym, w64, to_z, of_z}
use Rattle.nv_places.specs.Places.{IsNarrow}
use Rattle.nv_value.specs.Content.{nil}
use Rattle.nv_value.specs.declared.value.Value.{Nil}
use Rattle.nv_value.proofs.Contents.{content-Nil}
use Rattle.nv_args.specs.Args.{typed_arguments}
use Rattle.nv_args.specs.Reading.{number_at}
use Rattle.nv_windows.specs.Workspace.{current_buffer}
use Rattle.nv_marks.specs.declared.extmark.Mark.{Mark}
use Rattle.nv_model.specs.Answers.{Answer}
use Rattle.nv_model.specs.Editors.{at_handle}
use Rattle.nv_model.specs.Seen.{SeenBuffer}
use Rattle.nv_model.specs.Stage.{or_current}
use Rattle.nv_model.specs.Standing.{seen_now, seen_buffer_now}
use Rattle.nv_editor.specs.Doing.{Does}
use Rattle.nv_model.specs.Answering.{removal_operations}
use Rattle.nv_editor.specs.Sound.{content_at}
use Rattle.nv_api_mark.specs.inside.Picking.{cleared_answer, clearing_answer, is_in_rows}
use Rattle.nv_api_mark.proofs.Removed.{looked_up_marks}
use Rattle.nv_api_mark.proofs.Steps.{gives_done, gives_stop, on_found}
use Rattle.nv_api_mark.proofs.clearing.nvim_buf_clear_namespace.Goals as goal

pub clear_rows-requires-clause-narrow : goal.clear_rows-requires-clause-narrow
clear_rows-requires-clause-narrow c =
    let n = to_z w64 (of_z w64 c.named_buffer-handle.result) in
    let at : at_handle c.args.editor.now.buffers n ≡ Some c.in-Some.buffer.now = search rules in
    subst (λ (ms : List Mark). All (λ (m : Mark). IsNarrow m.start) ms) (sym (looked_up_marks c.args.editor.now n c.in-Some.buffer.now at)) c.known_places.ensures

pub returns-in_err-rows-clause-row : goal.returns-in_err-rows-clause-row
returns-in_err-rows-clause-row c = λ session told.
    let e = c.args.editor.now in
    let b = c.in-Some.buffer.now in
    let args = typed_arguments c.args.args.now in
    let h = or_current (current_buffer e.stage.workspace) (number_at args 0) in
    let at : at_handle e.buffers h ≡ Some b = search rules in
    let next : ℤ → SeenBuffer → Answer = λ n b. clearing_answer (seen_now e) args (cleared_answer n b) in
    gives_stop _ _ (cleared_answer h (seen_buffer_now b)) c.in_err-rows.field-0.0 c.from_residual.result e told (on_found e (number_at args 0) b next at)
    (c.in_err-rows.ensures.row (cleared_answer h (seen_buffer_now b))) c.from_residual.ensures.1

pub returns-clause-row : goal.returns-clause-row
returns-clause-row c = λ session told.
    let e = c.args.editor.now in
    let b = c.in-Some.buffer.now in
    let args = typed_arguments c.args.args.now in
    let h = or_current (current_buffer e.stage.workspace) (number_at args 0) in
    let marks = filter (is_in_rows c.in_ok-rows.rows) b.marks.marks in
    let n : ℤ = to_z w64 (of_z w64 c.named_buffer-handle.result) in
    let named : at_handle e.buffers n ≡ Some b = search rules in
    let handle : n ≡ h = search rules in
    let at : at_handle e.buffers h ≡ Some b = subst (λ (k : ℤ). at_handle e.buffers k ≡ Some b) handle named in
    let there : (content_at e h).marks.marks ≡ b.marks.marks = looked_up_marks e h b at in
    let done : Does (removal_operations h marks) e c.clear_rows.new.editor =
    subst (λ (ms : List Mark). Does (removal_operations h (filter (is_in_rows c.in_ok-rows.rows) ms)) e c.clear_rows.new.editor) there
    (subst (λ (k : ℤ). Does (removal_operations k (filter (is_in_rows c.in_ok-rows.rows) (content_at e k).marks.marks)) e c.clear_rows.new.editor) handle
    c.in_ok-clear_rows.ensures) in
    let next : ℤ → SeenBuffer → Answer = λ k x. clearing_answer (seen_now e) args (cleared_answer k x) in
    gives_done _ nil (removal_operations h marks) Nil e c.clear_rows.new.editor told
    (on_found e (number_at args 0) b next at ∙ c.in_ok-rows.ensures.row (cleared_answer h (seen_buffer_now b))) content-Nil done
