use Rattle.std.proofs.Common.{◌≡◌, ℕ, ℤ, List, length, ap, sym, ◌∙◌, refl, rules, w64, FitsSigned}
use Rattle.std.proofs.lemmas.Int.{to_z-of_z}
use Rattle.std.proofs.lemmas.Result.{err_from_is_err_and}
use Rattle.nv_buffer.specs.Content.{Content, next_part}
use Rattle.nv_args.specs.Args.{typed_arguments}
use Rattle.nv_args.specs.Reading.{lines_at}
use Rattle.nv_args.specs.Texts.{lines_put}
use Rattle.nv_model.specs.Answers.{Answer}
use Rattle.nv_model.specs.Answering.{splice_answer}
use Rattle.nv_model.specs.Buffers.{rows_splice}
use Rattle.nv_model.specs.Seen.{SeenBuffer}
use Rattle.nv_model.specs.Standing.{seen_now, seen_buffer_now}
use Rattle.nv_editor.specs.Sound.{content_at}
use Rattle.nv_api_buf.specs.TextRows.{put_answer}
use Rattle.nv_api_buf.specs.inside.Deciding.{unless_barred, unless_newline}
use Rattle.nv_api_buf.proofs.Deciding.{gives_refused, gives_done}
use Rattle.nv_api_buf.proofs.Strings.{texts-are}
use Rattle.nv_api_buf.specs.declared.lines.Rows.{Rows}
use Rattle.nv_api_buf.proofs.lines.nvim_buf_set_lines.Goals as goal
use Rattle.nv_args.specs.Reading.{Arg}
use Rattle.nv_model.specs.Standing.{PresentEditor}
use Rattle.nv_api_buf.specs.inside.Ranges.{ordered_rows}

-- what is put in place of rows of a buffer
abbrev rows_put : PresentEditor → List Arg → ℤ → SeenBuffer → Rows → Answer
rows_put e args n b rows = put_answer (seen_now e) n b (lines_at args 4)
    (rows_splice b.next b.lines rows.from rows.to (lines_put rows.from rows.to (lines_at args 4) b.lines))

abbrev rows_next : PresentEditor → List Arg → ℤ → SeenBuffer → Answer
rows_next e args n b = ordered_rows args (length b.lines) (rows_put e args n b)

pub returns-in_err-found-clause-row : goal.returns-in_err-found-clause-row
returns-in_err-found-clause-row c session =
    let p = err_from_is_err_and c.from_residual.result c.from_residual.ensures.1 in
    rw (p.1, p.2) (gives_refused _ _ c.in_err-found.field-0.0 c.args.editor.now c.args.happened.now refl
    (c.in_err-found.ensures.row (rows_next c.args.editor.now (typed_arguments c.args.args.now))))

pub returns-in_err-rows-clause-row : goal.returns-in_err-rows-clause-row
returns-in_err-rows-clause-row c session =
    let e = c.args.editor.now in
    let args = typed_arguments c.args.args.now in
    let n = c.in_ok-found.found.live.handle in
    let p = err_from_is_err_and c.from_residual-in_err-rows.result c.from_residual-in_err-rows.ensures.1 in
    rw (p.1, p.2) (gives_refused _ _ c.in_err-rows.field-0.0 e c.args.happened.now
    (c.in_ok-found.ensures.row (rows_next e args) ∙ ap (λ (b : Content). ordered_rows args (length b.text) (rows_put e args n (seen_buffer_now (content_at e n)))) (sym c.in_ok-found.ensures.buffer))
    (c.in_err-rows.ensures.row (rows_put e args n (seen_buffer_now (content_at e n)))))

pub returns-in_err-given-clause-row : goal.returns-in_err-given-clause-row
returns-in_err-given-clause-row c session =
    let e = c.args.editor.now in
    let args = typed_arguments c.args.args.now in
    let n = c.in_ok-found.found.live.handle in
    let b = seen_buffer_now (content_at e n) in
    let rows = c.in_ok-rows.rows in
    let new = texts-are c.lines-strings.result.now _ c.lines-strings.ensures in
    let splice = rows_splice b.next b.lines rows.from rows.to (lines_put rows.from rows.to (lines_at args 4) b.lines) in
    let rest : Answer = unless_barred e.stage.limits b splice (splice_answer n b splice) in
    let p = err_from_is_err_and c.from_residual-in_err-given.result c.from_residual-in_err-given.ensures.1 in
    rw (p.1, p.2) (gives_refused _ _ c.in_err-given.field-0.0 e c.args.happened.now
    (c.in_ok-found.ensures.row (rows_next e args) ∙ ap (λ (x : Content). ordered_rows args (length x.text) (rows_put e args n b)) (sym c.in_ok-found.ensures.buffer)
    ∙ c.in_ok-rows.ensures.row (rows_put e args n b)
    ∙ ap (λ (t : List (List ℕ)). unless_newline t rest) (sym new))
    (c.in_err-given.ensures.row rest))

pub returns-in_err-new-clause-row : goal.returns-in_err-new-clause-row
returns-in_err-new-clause-row c session =
    let e = c.args.editor.now in
    let args = typed_arguments c.args.args.now in
    let n = c.in_ok-found.found.live.handle in
    let b = seen_buffer_now (content_at e n) in
    let rows = c.in_ok-rows.rows in
    let strings = texts-are c.lines-strings.result.now _ c.lines-strings.ensures in
    let same : c.in_ok-given.given ≡ lines_at args 4 = c.in_ok-given.ensures.lines ∙ strings in
    let splice = rows_splice b.next b.lines rows.from rows.to (lines_put rows.from rows.to (lines_at args 4) b.lines) in
    let answer : Answer = splice_answer n b splice in
    let rest : Answer = unless_barred e.stage.limits b splice answer in
    let p = err_from_is_err_and c.from_residual-in_err-new.result c.from_residual-in_err-new.ensures.1 in
    rw (p.1, p.2) (gives_refused _ _ c.in_err-new.field-0.0 e c.args.happened.now
    (c.in_ok-found.ensures.row (rows_next e args) ∙ ap (λ (x : Content). ordered_rows args (length x.text) (rows_put e args n b)) (sym c.in_ok-found.ensures.buffer)
    ∙ c.in_ok-rows.ensures.row (rows_put e args n b)
    ∙ ap (λ (t : List (List ℕ)). unless_newline t rest) (sym strings)
    ∙ c.in_ok-given.ensures.row rest
    ∙ (λ i. let x = sym c.in_ok-found.ensures.buffer i in
    unless_barred (sym c.limits.ensures i) (seen_buffer_now x) (rows_splice (next_part x) x.text rows.from rows.to (lines_put rows.from rows.to (sym same i) x.text)) answer))
    (c.in_err-new.ensures.row answer))

pub returns-clause-row : goal.returns-clause-row
returns-clause-row c session =
    let e = c.args.editor.now in
    let args = typed_arguments c.args.args.now in
    let n = c.in_ok-found.found.live.handle in
    let b = seen_buffer_now (content_at e n) in
    let rows = c.in_ok-rows.rows in
    let strings = texts-are c.lines-strings.result.now _ c.lines-strings.ensures in
    let same : c.in_ok-given.given ≡ lines_at args 4 = c.in_ok-given.ensures.lines ∙ strings in
    let splice = rows_splice b.next b.lines rows.from rows.to (lines_put rows.from rows.to (lines_at args 4) b.lines) in
    let answer : Answer = splice_answer n b splice in
    let rest : Answer = unless_barred e.stage.limits b splice answer in
    let put : c.in_ok-new.new ≡ lines_put rows.from rows.to (lines_at args 4) (content_at e n).text =
    c.in_ok-new.ensures.same ∙ (λ i. lines_put rows.from rows.to (same i) (c.in_ok-found.ensures.buffer i).text) in
    let fits : FitsSigned w64 n = search rules in
    let handle = to_z-of_z w64 n fits in
    gives_done _ _ e c.put_lines.new.self c.args.happened.now c.put_lines.new.happened
    (c.in_ok-found.ensures.row (rows_next e args) ∙ ap (λ (x : Content). ordered_rows args (length x.text) (rows_put e args n b)) (sym c.in_ok-found.ensures.buffer)
    ∙ c.in_ok-rows.ensures.row (rows_put e args n b)
    ∙ ap (λ (t : List (List ℕ)). unless_newline t rest) (sym strings)
    ∙ c.in_ok-given.ensures.row rest
    ∙ (λ i. let x = sym c.in_ok-found.ensures.buffer i in
    unless_barred (sym c.limits.ensures i) (seen_buffer_now x) (rows_splice (next_part x) x.text rows.from rows.to (lines_put rows.from rows.to (sym same i) x.text)) answer)
    ∙ c.in_ok-new.ensures.row answer
    ∙ (λ i. splice_answer (sym handle i) (seen_buffer_now (content_at e (sym handle i))) (rows_splice (next_part (content_at e (sym handle i))) (content_at e (sym handle i)).text rows.from rows.to (sym put i))))
    c.in_ok-put_lines.ensures
