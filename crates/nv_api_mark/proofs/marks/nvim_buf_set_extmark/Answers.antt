use Rattle.std.proofs.Common.{◌≡◌, ◌∙◌, ℤ, List, Some, map, rules, ap, sym, subst, w64, to_z, of_z}
use Rattle.nv_value.specs.Content.{Tree}
use Rattle.nv_value.specs.View.{pair_content}
use Rattle.nv_args.specs.Args.{typed_arguments}
use Rattle.nv_args.specs.Arguments.{last_pairs}
use Rattle.nv_args.specs.Reading.{number_at, pairs_at}
use Rattle.nv_windows.specs.Workspace.{current_buffer}
use Rattle.nv_model.specs.Answers.{Answer}
use Rattle.nv_model.specs.Editors.{at_handle}
use Rattle.nv_model.specs.Seen.{SeenBuffer}
use Rattle.nv_model.specs.Stage.{or_current}
use Rattle.nv_model.specs.Standing.{seen_now, seen_buffer_now}
use Rattle.nv_editor.specs.Doing.{GivesAnswer}
use Rattle.nv_api_mark.specs.inside.Marking.{draft_answer, keyed_answer}
use Rattle.nv_editor.proofs.Giving.{gives_on}
use Rattle.nv_api_mark.proofs.Steps.{gives_stop, on_found}
use Rattle.nv_api_mark.proofs.marks.nvim_buf_set_extmark.Goals as goal

pub returns-in_err-draft-clause-row : goal.returns-in_err-draft-clause-row
returns-in_err-draft-clause-row c = λ session told.
    let e = c.args.editor.now in
    let b = c.in-Some.buffer.now in
    let args = typed_arguments c.args.args.now in
    let pairs = last_pairs (map pair_content c.pairs-pairs.result.now) in
    let h = or_current (current_buffer e.stage.workspace) (number_at args 0) in
    let at : at_handle e.buffers h ≡ Some b = search rules in
    let next : ℤ → SeenBuffer → Answer = λ n b. keyed_answer (seen_now e) n b args (last_pairs (pairs_at args 4)) in
    gives_stop _ _ (draft_answer e.stage h pairs) c.in_err-draft.field-0.0 c.from_residual.result e told
    (on_found e (number_at args 0) b next at
    ∙ ap (λ (ps : List (Tree × Tree)). keyed_answer (seen_now e) h (seen_buffer_now b) args (last_pairs ps)) (sym c.pairs-pairs.ensures))
    (c.in_err-draft.ensures.row h) c.from_residual.ensures.1

pub returns-clause-row : goal.returns-clause-row
returns-clause-row c = λ session told.
    let e = c.args.editor.now in
    let b = c.in-Some.buffer.now in
    let args = typed_arguments c.args.args.now in
    let pairs = last_pairs (map pair_content c.pairs-pairs.result.now) in
    let h = or_current (current_buffer e.stage.workspace) (number_at args 0) in
    let at : at_handle e.buffers h ≡ Some b = search rules in
    let handle : to_z w64 (of_z w64 c.named_buffer-handle.result) ≡ h = search rules in
    let next : ℤ → SeenBuffer → Answer = λ n b. keyed_answer (seen_now e) n b args (last_pairs (pairs_at args 4)) in
    gives_on _ (draft_answer e.stage h pairs c.in_ok-draft.draft) c.put_draft.result e c.put_draft.new.editor told told
    (on_found e (number_at args 0) b next at
    ∙ ap (λ (ps : List (Tree × Tree)). keyed_answer (seen_now e) h (seen_buffer_now b) args (last_pairs ps)) (sym c.pairs-pairs.ensures)
    ∙ c.in_ok-draft.ensures.row h)
    (subst (λ (n : ℤ). GivesAnswer (draft_answer e.stage n pairs c.in_ok-draft.draft) c.put_draft.result e c.put_draft.new.editor told told) handle (c.put_draft.ensures.row told))
