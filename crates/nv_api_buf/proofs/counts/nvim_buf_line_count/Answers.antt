use Rattle.std.proofs.Common.{ℤ, pos, length, ap, sym, ◌∙◌, refl}
use Rattle.std.proofs.lemmas.Result.{err_from_is_err_and}
use Rattle.nv_value.specs.Content.{integer}
use Rattle.nv_model.specs.Answers.{Answer}
use Rattle.nv_model.specs.Answering.{reply_of}
use Rattle.nv_model.specs.Seen.{SeenBuffer}
use Rattle.nv_model.specs.Standing.{seen_buffer_now}
use Rattle.nv_api_buf.proofs.Deciding.{reads_refused}
use Rattle.nv_api_buf.proofs.counts.nvim_buf_line_count.Goals as goal

pub returns-in_err-found-clause-row : goal.returns-in_err-found-clause-row
returns-in_err-found-clause-row c session =
    let next : ℤ → SeenBuffer → Answer = λ n b. reply_of (integer (pos (length b.lines))) in
    let p = err_from_is_err_and c.from_residual.result c.from_residual.ensures.1 in
    rw (p.1, p.2) (reads_refused _ _ c.in_err-found.field-0.0 refl (c.in_err-found.ensures.row next))

pub returns-clause-row : goal.returns-clause-row
returns-clause-row c session =
    let next : ℤ → SeenBuffer → Answer = λ n b. reply_of (integer (pos (length b.lines))) in
    c.in_ok-found.ensures.row next
    ∙ ap (λ b. reply_of (integer (pos (length (seen_buffer_now b).lines)))) (sym c.in_ok-found.ensures.buffer)
    ∙ ap reply_of (sym c.count_value.ensures.value)
