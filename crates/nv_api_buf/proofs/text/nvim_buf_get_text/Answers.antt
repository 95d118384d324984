use Rattle.std.proofs.Common.{ℤ, List, [], ap, sym, ◌∙◌, refl}
use Rattle.std.proofs.lemmas.Result.{err_from_is_err_and}
use Rattle.nv_value.specs.Content.{Tree}
use Rattle.nv_buffer.specs.Content.{Content}
use Rattle.nv_args.specs.Args.{typed_arguments}
use Rattle.nv_args.specs.Arguments.{last_pairs}
use Rattle.nv_args.specs.Maps.{map_fault}
use Rattle.nv_args.specs.Reading.{Arg, pairs_at}
use Rattle.nv_model.specs.Answers.{Answer}
use Rattle.nv_model.specs.Answering.{fault_or}
use Rattle.nv_model.specs.Seen.{SeenBuffer}
use Rattle.nv_model.specs.Standing.{seen_buffer_now}
use Rattle.nv_editor.specs.Sound.{content_at}
use Rattle.nv_api_buf.specs.inside.Deciding.{text_answer}
use Rattle.nv_api_buf.proofs.Deciding.{lines_refused, lines_on, finds_none, finds_fault}
use Rattle.nv_api_buf.proofs.text.nvim_buf_get_text.Goals as goal

abbrev next : List Arg → ℤ → SeenBuffer → Answer
next args n b = fault_or (map_fault [] (last_pairs (pairs_at args 5))) (text_answer b args)

pub returns-in_err-found-clause-row : goal.returns-in_err-found-clause-row
returns-in_err-found-clause-row c session =
    let p = err_from_is_err_and c.from_residual.result c.from_residual.ensures.1 in
    rw (p.1, p.2) (lines_refused _ _ c.in_err-found.field-0.0 refl (c.in_err-found.ensures.row (next (typed_arguments c.args.args.now))))

pub returns-in_err-map_fault-clause-row : goal.returns-in_err-map_fault-clause-row
returns-in_err-map_fault-clause-row c session =
    let e = c.args.editor.now in
    let args = typed_arguments c.args.args.now in
    let b = seen_buffer_now (content_at e c.in_ok-found.found.live.handle) in
    let p = err_from_is_err_and c.from_residual-in_err-map_fault.result c.from_residual-in_err-map_fault.ensures.1 in
    rw (p.1, p.2) (lines_refused _ _ c.in_err-map_fault.field-0.0
    (c.in_ok-found.ensures.row (next args) ∙ ap (λ (ps : List (Tree × Tree)). fault_or (map_fault [] (last_pairs ps)) (text_answer b args)) (sym c.pairs.ensures))
    (finds_fault (Unit {0}) _ (text_answer b args) c.in_err-map_fault.field-0.0 c.in_err-map_fault.ensures))

pub returns-clause-row : goal.returns-clause-row
returns-clause-row c session =
    let e = c.args.editor.now in
    let args = typed_arguments c.args.args.now in
    let b = seen_buffer_now (content_at e c.in_ok-found.found.live.handle) in
    lines_on _ _ c.text_answer.result
    (c.in_ok-found.ensures.row (next args) ∙ ap (λ (ps : List (Tree × Tree)). fault_or (map_fault [] (last_pairs ps)) (text_answer b args)) (sym c.pairs.ensures)
    ∙ finds_none _ (text_answer b args) c.in_ok-map_fault.ensures
    ∙ ap (λ (x : Content). text_answer (seen_buffer_now x) args) (sym c.in_ok-found.ensures.buffer))
    c.text_answer.ensures.row
