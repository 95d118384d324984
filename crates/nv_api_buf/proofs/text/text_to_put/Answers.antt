use Rattle.std.proofs.Common.{List, ℕ, ap, sym, ◌∙◌}
use Rattle.std.proofs.lemmas.Result.{err_from_is_err_and}
use Rattle.nv_buffer.specs.Content.{next_part}
use Rattle.nv_model.specs.Buffers.{text_splice}
use Rattle.nv_model.specs.Standing.{seen_buffer_now}
use Rattle.nv_api_buf.specs.inside.Deciding.{unless_barred}
use Rattle.nv_api_buf.proofs.Deciding.{leaves_refused}
use Rattle.nv_api_buf.proofs.text.text_to_put.Goals as goal

pub returns-in_err-may_put_text-clause-row : goal.returns-in_err-may_put_text-clause-row
returns-in_err-may_put_text-clause-row c answer =
    let b = c.args.buffer.now in
    let p = err_from_is_err_and c.from_residual-in_err-may_put_text.result c.from_residual-in_err-may_put_text.ensures.1 in
    rw (p.1, p.2) (leaves_refused {A = List (List ℕ)} _ _ (λ _. answer) c.in_err-may_put_text.field-0.0
    (ap (λ (l : List (List ℕ)). unless_barred c.args.limits (seen_buffer_now b) (text_splice (next_part b) b.text c.args.span.start c.args.span.stop l) answer)
    (sym c.in_ok-new.ensures.lines))
    (c.in_err-may_put_text.ensures.row answer))

pub returns-clause-row : goal.returns-clause-row
returns-clause-row c answer =
    let b = c.args.buffer.now in
    ap (λ (l : List (List ℕ)). unless_barred c.args.limits (seen_buffer_now b) (text_splice (next_part b) b.text c.args.span.start c.args.span.stop l) answer)
    (sym c.in_ok-new.ensures.lines)
    ∙ c.in_ok-may_put_text.ensures.row answer
