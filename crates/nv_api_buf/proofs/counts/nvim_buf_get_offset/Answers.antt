use Rattle.std.proofs.Common.{ℤ, ap, sym, ◌∙◌, refl}
use Rattle.std.proofs.lemmas.Result.{err_from_is_err_and}
use Rattle.nv_api_buf.specs.inside.Deciding.{offset_answer}
use Rattle.nv_args.specs.Args.{typed_arguments}
use Rattle.nv_model.specs.Answers.{Answer}
use Rattle.nv_model.specs.Seen.{SeenBuffer}
use Rattle.nv_model.specs.Standing.{seen_buffer_now}
use Rattle.nv_api_buf.proofs.Deciding.{reads_refused, reads_on}
use Rattle.nv_api_buf.proofs.counts.nvim_buf_get_offset.Goals as goal

pub returns-in_err-found-clause-row : goal.returns-in_err-found-clause-row
returns-in_err-found-clause-row c session =
    let next : ℤ → SeenBuffer → Answer = λ n b. offset_answer b (typed_arguments c.args.args.now) in
    let p = err_from_is_err_and c.from_residual.result c.from_residual.ensures.1 in
    rw (p.1, p.2) (reads_refused _ _ c.in_err-found.field-0.0 refl (c.in_err-found.ensures.row next))

pub returns-clause-row : goal.returns-clause-row
returns-clause-row c session =
    let next : ℤ → SeenBuffer → Answer = λ n b. offset_answer b (typed_arguments c.args.args.now) in
    reads_on _ _ c.offset_answer.result
    (c.in_ok-found.ensures.row next ∙ ap (λ b. offset_answer (seen_buffer_now b) (typed_arguments c.args.args.now)) (sym c.in_ok-found.ensures.buffer))
    c.offset_answer.ensures.row
