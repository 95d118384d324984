use Rattle.std.proofs.Common.{◌≡◌, ◌∙◌, sym, true, Some, codes, map, rules}
use Rattle.nv_value.specs.View.{pair_content}
use Rattle.nv_args.specs.Args.{typed_arguments}
use Rattle.nv_args.specs.Arguments.{last_pairs}
use Rattle.nv_args.specs.Dicts.{flag_or}
use Rattle.nv_args.specs.Reading.{number_at}
use Rattle.nv_model.specs.Standing.{seen_now, seen_buffer_now}
use Rattle.nv_api_mark.specs.Namespaces.{namespace_of_id}
use Rattle.nv_api_mark.specs.MarkRows.{mark_answer}
use Rattle.nv_api_mark.specs.Setting.{place_by_numbers}
use Rattle.nv_api_mark.specs.inside.Marking.{draft_answer}
use Rattle.nv_api_mark.proofs.Drafts.{start_found}
use Rattle.nv_api_mark.proofs.Steps.{decides_on, decides_stop}
use Rattle.nv_api_mark.proofs.setting.draft_by.Goals as goal

pub returns-in_err-stop-clause-row : goal.returns-in_err-stop-clause-row
returns-in_err-stop-clause-row c = λ n.
    let e = c.args.editor.now in
    let b = seen_buffer_now c.args.buffer.now in
    let args = typed_arguments c.args.args.now in
    let pairs = last_pairs (map pair_content c.args.pairs.now) in
    let ns = c.in-Some.ns in
    let start = c.in-Some-place_by_numbers.start in
    let known : namespace_of_id e.stage (number_at args 1) ≡ Some ns = search rules in
    let placed : place_by_numbers (flag_or true (codes "strict") pairs) b.lines (number_at args 2) (number_at args 3) ≡ Some start = search rules in
    decides_stop _ _ (λ stop. mark_answer (seen_now e) n b ns start stop pairs) (draft_answer e.stage n pairs) c.in_err-stop.field-0.0 c.from_residual.result
    (start_found (seen_now e) n b args pairs ns start c.text-text.result.now known placed (sym c.text-text.ensures.value))
    (c.in_err-stop.ensures.row (λ stop. mark_answer (seen_now e) n b ns start stop pairs)) c.from_residual.ensures.1

pub returns-clause-row : goal.returns-clause-row
returns-clause-row c = λ n.
    let e = c.args.editor.now in
    let b = seen_buffer_now c.args.buffer.now in
    let args = typed_arguments c.args.args.now in
    let pairs = last_pairs (map pair_content c.args.pairs.now) in
    let ns = c.in-Some.ns in
    let start = c.in-Some-place_by_numbers.start in
    let known : namespace_of_id e.stage (number_at args 1) ≡ Some ns = search rules in
    let placed : place_by_numbers (flag_or true (codes "strict") pairs) b.lines (number_at args 2) (number_at args 3) ≡ Some start = search rules in
    decides_on _ _ (draft_answer e.stage n pairs) c.draft_at.result
    (start_found (seen_now e) n b args pairs ns start c.text-text.result.now known placed (sym c.text-text.ensures.value)
    ∙ c.in_ok-stop.ensures.row (λ stop. mark_answer (seen_now e) n b ns start stop pairs))
    (c.draft_at.ensures.row n)
