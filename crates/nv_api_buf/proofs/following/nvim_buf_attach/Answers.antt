use Rattle.std.proofs.Common.{◌≡◌, ℤ, true, List, [], ◌∷◌, ap, sym, ◌∙◌, refl, rules, w64, FitsSigned, Some, None}
use Rattle.std.proofs.lemmas.Result.{err_from_is_err_and}
use Rattle.nv_value.specs.Content.{Tree, truth}
use Rattle.nv_value.specs.View.{content}
use Rattle.nv_buffer.specs.Content.{Content}
use Rattle.nv_args.specs.Args.{typed_arguments}
use Rattle.nv_args.specs.Arguments.{last_pairs}
use Rattle.nv_args.specs.Maps.{map_fault}
use Rattle.nv_args.specs.Reading.{Arg, pairs_at}
use Rattle.nv_model.specs.Answers.{Answer, replied}
use Rattle.nv_model.specs.Answering.{fault_or}
use Rattle.nv_model.specs.Seen.{SeenBuffer}
use Rattle.nv_model.specs.Standing.{seen_buffer_now}
use Rattle.nv_editor.specs.Sound.{content_at}
use Rattle.nv_api_buf.proofs.Deciding.{gives_refused, finds_none, finds_fault}
use Rattle.std.specs.Prelude.{if◌then◌else◌, nat_abs}
use Rattle.nv_args.specs.Reading.{flag_at}
use Rattle.nv_value.specs.declared.value.Value.{Truth}
use Rattle.nv_value.proofs.Contents.{content-Truth}
use Rattle.nv_model.specs.Answers.{attached}
use Rattle.nv_api_buf.proofs.Deciding.{replies_on}
use Rattle.nv_api_buf.proofs.following.nvim_buf_attach.Goals as goal

abbrev attach : List Arg → ℤ → SeenBuffer → Answer
attach args n b = replied (truth true) [] (attached n b.tick (if flag_at args 1 then Some b.lines else None) ∷ [])

abbrev next : List Arg → ℤ → SeenBuffer → Answer
next args n b = fault_or (map_fault [] (last_pairs (pairs_at args 2))) (attach args n b)

pub returns-in_err-found-clause-row : goal.returns-in_err-found-clause-row
returns-in_err-found-clause-row c session =
    let p = err_from_is_err_and c.from_residual.result c.from_residual.ensures.1 in
    rw (p.1, p.2) (gives_refused _ _ c.in_err-found.field-0.0 c.args.editor.now c.args.happened.now refl (c.in_err-found.ensures.row (next (typed_arguments c.args.args.now))))

pub returns-in_err-map_fault-clause-row : goal.returns-in_err-map_fault-clause-row
returns-in_err-map_fault-clause-row c session =
    let e = c.args.editor.now in
    let args = typed_arguments c.args.args.now in
    let n = c.in_ok-found.found.live.handle in
    let rest = attach args n (seen_buffer_now (content_at e n)) in
    let p = err_from_is_err_and c.from_residual-in_err-map_fault.result c.from_residual-in_err-map_fault.ensures.1 in
    rw (p.1, p.2) (gives_refused _ _ c.in_err-map_fault.field-0.0 e c.args.happened.now
    (c.in_ok-found.ensures.row (next args) ∙ ap (λ (ps : List (Tree × Tree)). fault_or (map_fault [] (last_pairs ps)) rest) (sym c.pairs.ensures))
    (finds_fault (Unit {0}) _ rest c.in_err-map_fault.field-0.0 c.in_err-map_fault.ensures))

pub returns-clause-row : goal.returns-clause-row
returns-clause-row c session =
    let e = c.args.editor.now in
    let args = typed_arguments c.args.args.now in
    let n = c.in_ok-found.found.live.handle in
    let rest = attach args n (seen_buffer_now (content_at e n)) in
    let b = c.in_ok-found.ensures.buffer in
    let fits : FitsSigned w64 c.tick.result = search rules in
    let whole : c.in_ok-whole.whole ≡ (if flag_at args 1 then Some (content_at e n).text else None) =
    c.in_ok-whole.ensures ∙ (λ i. if c.flag.ensures i then Some (b i).text else None) in
    let tick : c.tick.result ≡ (content_at e n).tick = c.tick.ensures ∙ ap (λ (x : Content). x.tick) b in
    replies_on _ _ (content (Truth true)) e e c.args.happened.now c.push.new.self
    (c.in_ok-found.ensures.row (next args) ∙ ap (λ (ps : List (Tree × Tree)). fault_or (map_fault [] (last_pairs ps)) rest) (sym c.pairs.ensures)
    ∙ finds_none _ rest c.in_ok-map_fault.ensures
    ∙ (λ i. replied (truth true) [] (attached n (nat_abs (sym tick i)) (sym whole i) ∷ [])))
    (content-Truth true, (λ m stands. stands), search rules)
