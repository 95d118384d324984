use Rattle.std.proofs.Common.{ℤ, List, ap, sym, ◌∙◌}
use Rattle.std.proofs.lemmas.Result.{err_from_is_err_and}
use Rattle.nv_value.specs.Content.{Tree}
use Rattle.nv_args.specs.Args.{typed_arguments}
use Rattle.nv_args.specs.Arguments.{last_pairs}
use Rattle.nv_args.specs.Maps.{map_fault}
use Rattle.nv_args.specs.Reading.{Arg, pairs_at, string_at}
use Rattle.nv_model.specs.Answers.{Answer}
use Rattle.nv_model.specs.Answering.{fault_or}
use Rattle.nv_model.specs.Seen.{SeenBuffer}
use Rattle.nv_model.specs.Standing.{seen_now, seen_buffer_now}
use Rattle.nv_editor.specs.Sound.{content_at}
use Rattle.nv_api_buf.proofs.Deciding.{reads_refused, reads_on, finds_none, finds_fault}
use Rattle.nv_model.specs.Answers.{on_buffer}
use Rattle.nv_api_buf.specs.OptionRows.{option_buffer}
use Rattle.nv_api_buf.specs.inside.Optioning.{value_keyed, value_answer}
use Rattle.nv_api_buf.proofs.options.nvim_get_option_value.Goals as goal

abbrev next : List Arg → ℤ → SeenBuffer → Answer
next args n b = value_keyed (last_pairs (pairs_at args 1)) (string_at args 0) b

pub returns-in_err-found-clause-row : goal.returns-in_err-found-clause-row
returns-in_err-found-clause-row c session =
    let args = typed_arguments c.args.args.now in
    let s = seen_now c.args.editor.now in
    let p = err_from_is_err_and c.from_residual.result c.from_residual.ensures.1 in
    rw (p.1, p.2) (reads_refused _ _ c.in_err-found.field-0.0
    (ap (λ (ps : List (Tree × Tree)). on_buffer s (option_buffer (last_pairs ps)) (next args)) (sym c.pairs-pairs.ensures))
    (c.in_err-found.ensures.row (next args)))

pub returns-in_err-map_fault-clause-row : goal.returns-in_err-map_fault-clause-row
returns-in_err-map_fault-clause-row c session =
    let e = c.args.editor.now in
    let args = typed_arguments c.args.args.now in
    let b = seen_buffer_now (content_at e c.in_ok-found.found.live.handle) in
    let rest = value_answer b (string_at args 0) in
    let p = err_from_is_err_and c.from_residual-in_err-map_fault.result c.from_residual-in_err-map_fault.ensures.1 in
    rw (p.1, p.2) (reads_refused _ _ c.in_err-map_fault.field-0.0
    (ap (λ (ps : List (Tree × Tree)). on_buffer (seen_now e) (option_buffer (last_pairs ps)) (next args)) (sym c.pairs-pairs.ensures)
    ∙ c.in_ok-found.ensures.row (next args)
    ∙ (λ i. fault_or (map_fault (sym c.option_rules-rules.ensures i) (last_pairs (sym c.pairs-pairs.ensures i))) rest))
    (finds_fault (Unit {0}) _ rest c.in_err-map_fault.field-0.0 c.in_err-map_fault.ensures))

pub returns-clause-row : goal.returns-clause-row
returns-clause-row c session =
    let e = c.args.editor.now in
    let args = typed_arguments c.args.args.now in
    let b = seen_buffer_now (content_at e c.in_ok-found.found.live.handle) in
    let rest = value_answer b (string_at args 0) in
    reads_on _ _ c.option_value.result
    (ap (λ (ps : List (Tree × Tree)). on_buffer (seen_now e) (option_buffer (last_pairs ps)) (next args)) (sym c.pairs-pairs.ensures)
    ∙ c.in_ok-found.ensures.row (next args)
    ∙ (λ i. fault_or (map_fault (sym c.option_rules-rules.ensures i) (last_pairs (sym c.pairs-pairs.ensures i))) rest)
    ∙ finds_none _ rest c.in_ok-map_fault.ensures
    ∙ (λ i. value_answer (seen_buffer_now (sym c.in_ok-found.ensures.buffer i)) (sym c.string-name.ensures.bytes i)))
    c.option_value.ensures.row
