use Rattle.std.proofs.Common.{ℕ, List, ap, sym, ◌∙◌, refl}
use Rattle.std.proofs.lemmas.Result.{err_from_is_err_and}
use Rattle.std.specs.Prelude.{slice_range}
use Rattle.nv_value.specs.Content.{list}
use Rattle.nv_args.specs.Texts.{strings}
use Rattle.nv_model.specs.Answers.{Answer}
use Rattle.nv_model.specs.Answering.{reply_of}
use Rattle.nv_api_buf.proofs.Deciding.{lines_refused}
use Rattle.nv_api_buf.specs.declared.lines.Rows.{Rows}
use Rattle.nv_api_buf.proofs.lines.lines_answer.Goals as goal

pub returns-in_err-rows-clause-row : goal.returns-in_err-rows-clause-row
returns-in_err-rows-clause-row c =
    let answer : Rows → Answer = λ rows. reply_of (list (strings (slice_range c.args.buffer.now.text rows.from rows.to))) in
    let p = err_from_is_err_and c.from_residual.result c.from_residual.ensures.1 in
    rw (p.1, p.2) (lines_refused _ _ c.in_err-rows.field-0.0 refl (c.in_err-rows.ensures.row answer))

pub returns-clause-row : goal.returns-clause-row
returns-clause-row c =
    let answer : Rows → Answer = λ rows. reply_of (list (strings (slice_range c.args.buffer.now.text rows.from rows.to))) in
    c.in_ok-rows.ensures.row answer
    ∙ ap (λ (t : List (List ℕ)). reply_of (list (strings (slice_range t c.in_ok-rows.rows.from c.in_ok-rows.rows.to)))) (sym c.text.ensures.value)
    ∙ ap (λ (t : List (List ℕ)). reply_of (list (strings t))) (sym c.in_ok-lines.ensures.lines)
