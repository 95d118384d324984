use Rattle.std.proofs.Common.{◌≡◌, ℕ, List, ap, sym, ◌∙◌}
use Rattle.std.proofs.lemmas.Result.{err_from_is_err_and}
use Rattle.nv_buffer.specs.Content.{next_part}
use Rattle.nv_args.specs.Texts.{lines_put}
use Rattle.nv_model.specs.Buffers.{rows_splice}
use Rattle.nv_model.specs.Standing.{seen_buffer_now}
use Rattle.nv_api_buf.specs.inside.Deciding.{unless_barred}
use Rattle.nv_api_buf.proofs.Deciding.{leaves_refused}
use Rattle.nv_api_buf.proofs.lines.rows_to_put.Goals as goal

pub returns-in_err-may_put_rows-clause-row : goal.returns-in_err-may_put_rows-clause-row
returns-in_err-may_put_rows-clause-row c answer =
    let from = c.args.rows.from in
    let to = c.args.rows.to in
    let b = c.args.buffer.now in
    let put : c.in_ok-new.new ≡ lines_put from to c.args.given b.text =
    c.in_ok-new.ensures.same ∙ ap (λ (t : List (List ℕ)). lines_put from to c.args.given t) c.text.ensures.value in
    let p = err_from_is_err_and c.from_residual-in_err-may_put_rows.result c.from_residual-in_err-may_put_rows.ensures.1 in
    rw (p.1, p.2) (leaves_refused {A = List (List ℕ)} _ _ (λ _. answer) c.in_err-may_put_rows.field-0.0
    (ap (λ (l : List (List ℕ)). unless_barred c.args.limits (seen_buffer_now b) (rows_splice (next_part b) b.text from to l) answer) (sym put))
    (c.in_err-may_put_rows.ensures.row answer))

pub returns-clause-row : goal.returns-clause-row
returns-clause-row c answer =
    let from = c.args.rows.from in
    let to = c.args.rows.to in
    let b = c.args.buffer.now in
    let put : c.in_ok-new.new ≡ lines_put from to c.args.given b.text =
    c.in_ok-new.ensures.same ∙ ap (λ (t : List (List ℕ)). lines_put from to c.args.given t) c.text.ensures.value in
    ap (λ (l : List (List ℕ)). unless_barred c.args.limits (seen_buffer_now b) (rows_splice (next_part b) b.text from to l) answer) (sym put)
    ∙ c.in_ok-may_put_rows.ensures.row answer
