use Rattle.std.proofs.Common.{ℤ, ap, sym, ◌∙◌, refl}
use Rattle.std.proofs.lemmas.Result.{err_from_is_err_and}
use Rattle.nv_value.specs.Content.{text}
use Rattle.nv_buffer.specs.Content.{Content}
use Rattle.nv_model.specs.Answers.{Answer}
use Rattle.nv_model.specs.Answering.{reply_of}
use Rattle.nv_model.specs.Seen.{SeenBuffer}
use Rattle.nv_api_buf.proofs.Deciding.{reads_refused, reads_on}
use Rattle.nv_api_buf.proofs.buffers.nvim_buf_get_name.Goals as goal

abbrev next : ℤ → SeenBuffer → Answer
next n b = reply_of (text b.name)

pub returns-in_err-found-clause-row : goal.returns-in_err-found-clause-row
returns-in_err-found-clause-row c session =
    let p = err_from_is_err_and c.from_residual.result c.from_residual.ensures.1 in
    rw (p.1, p.2) (reads_refused _ _ c.in_err-found.field-0.0 refl (c.in_err-found.ensures.row next))

pub returns-clause-row : goal.returns-clause-row
returns-clause-row c session =
    reads_on _ _ c.name_value.result
    (c.in_ok-found.ensures.row next ∙ ap (λ (x : Content). reply_of (text x.name)) (sym c.in_ok-found.ensures.buffer))
    c.name_value.ensures.row
