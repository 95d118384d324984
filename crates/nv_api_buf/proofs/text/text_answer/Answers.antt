use Rattle.std.proofs.Common.{ℕ, List, ap, sym, ◌∙◌, refl}
use Rattle.std.proofs.lemmas.Result.{err_from_is_err_and}
use Rattle.nv_value.specs.Content.{list}
use Rattle.nv_places.specs.declared.place.Pos.{Pos}
use Rattle.nv_args.specs.Texts.{strings, text_between}
use Rattle.nv_model.specs.Answers.{Answer}
use Rattle.nv_model.specs.Answering.{reply_of}
use Rattle.nv_api_buf.proofs.Deciding.{lines_refused}
use Rattle.nv_api_buf.proofs.text.text_answer.Goals as goal

pub returns-in_err-span-clause-row : goal.returns-in_err-span-clause-row
returns-in_err-span-clause-row c =
    let next : Pos → Pos → Answer = λ start stop. reply_of (list (strings (text_between c.args.buffer.now.text start stop))) in
    let p = err_from_is_err_and c.from_residual.result c.from_residual.ensures.1 in
    rw (p.1, p.2) (lines_refused _ _ c.in_err-span.field-0.0 refl (c.in_err-span.ensures.row next))

pub returns-clause-row : goal.returns-clause-row
returns-clause-row c =
    let next : Pos → Pos → Answer = λ start stop. reply_of (list (strings (text_between c.args.buffer.now.text start stop))) in
    c.in_ok-span.ensures.row next
    ∙ ap (λ (t : List (List ℕ)). reply_of (list (strings (text_between t c.in_ok-span.span.start c.in_ok-span.span.stop)))) (sym c.text.ensures.value)
    ∙ ap (λ (t : List (List ℕ)). reply_of (list (strings t))) (sym c.in_ok-lines.ensures.lines)
