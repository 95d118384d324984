use Rattle.std.proofs.Common.{◌≡◌, ℕ, ℤ, List, All, ap, sym, subst, ◌∙◌, refl, rules, to_z, of_z, w64, FitsSigned}
use Rattle.std.proofs.lemmas.Int.{to_z-of_z}
use Rattle.std.proofs.lemmas.Result.{err_from_is_err_and}
use Rattle.nv_places.specs.declared.place.Pos.{Pos}
use Rattle.nv_buffer.specs.Content.{Content, next_part}
use Rattle.nv_buffer.specs.Splices.{IsNarrowLine, lines_between}
use Rattle.nv_args.specs.Args.{typed_arguments}
use Rattle.nv_args.specs.Reading.{lines_at}
use Rattle.nv_args.specs.Texts.{or_empty}
use Rattle.nv_model.specs.Answers.{Answer}
use Rattle.nv_model.specs.Answering.{splice_answer}
use Rattle.nv_model.specs.Buffers.{text_splice}
use Rattle.nv_model.specs.Seen.{SeenBuffer}
use Rattle.nv_model.specs.Standing.{seen_now, seen_buffer_now}
use Rattle.nv_editor.specs.Sound.{content_at}
use Rattle.nv_api_buf.specs.TextRows.{on_places, put_answer}
use Rattle.nv_api_buf.specs.inside.Deciding.{unless_barred, unless_newline}
use Rattle.nv_api_buf.proofs.Deciding.{gives_refused, gives_done}
use Rattle.nv_api_buf.proofs.Strings.{texts-are}
use Rattle.nv_args.specs.Reading.{Arg}
use Rattle.nv_model.specs.Standing.{PresentEditor}
use Rattle.nv_api_buf.proofs.text.nvim_buf_set_text.Goals as goal

-- what is put between places of a buffer
abbrev between_put : PresentEditor → List Arg → ℤ → SeenBuffer → Pos → Pos → Answer
between_put e args n b start stop = put_answer (seen_now e) n b (lines_at args 5) (text_splice b.next b.lines start stop (or_empty (lines_at args 5)))

abbrev places_next : PresentEditor → List Arg → ℤ → SeenBuffer → Answer
places_next e args n b = on_places b args (between_put e args n b)

pub returns-in_err-found-clause-row : goal.returns-in_err-found-clause-row
returns-in_err-found-clause-row c session =
    let p = err_from_is_err_and c.from_residual.result c.from_residual.ensures.1 in
    rw (p.1, p.2) (gives_refused _ _ c.in_err-found.field-0.0 c.args.editor.now c.args.happened.now refl
    (c.in_err-found.ensures.row (places_next c.args.editor.now (typed_arguments c.args.args.now))))

pub returns-in_err-span-clause-row : goal.returns-in_err-span-clause-row
returns-in_err-span-clause-row c session =
    let e = c.args.editor.now in
    let args = typed_arguments c.args.args.now in
    let n = c.in_ok-found.found.live.handle in
    let b = seen_buffer_now (content_at e n) in
    let p = err_from_is_err_and c.from_residual-in_err-span.result c.from_residual-in_err-span.ensures.1 in
    rw (p.1, p.2) (gives_refused _ _ c.in_err-span.field-0.0 e c.args.happened.now
    (c.in_ok-found.ensures.row (places_next e args) ∙ ap (λ (x : Content). on_places (seen_buffer_now x) args (between_put e args n b)) (sym c.in_ok-found.ensures.buffer))
    (c.in_err-span.ensures.row (between_put e args n b)))

pub returns-in_err-given-clause-row : goal.returns-in_err-given-clause-row
returns-in_err-given-clause-row c session =
    let e = c.args.editor.now in
    let args = typed_arguments c.args.args.now in
    let n = c.in_ok-found.found.live.handle in
    let b = seen_buffer_now (content_at e n) in
    let span = c.in_ok-span.span in
    let new = texts-are c.lines-strings.result.now _ c.lines-strings.ensures in
    let splice = text_splice b.next b.lines span.start span.stop (or_empty (lines_at args 5)) in
    let rest : Answer = unless_barred e.stage.limits b splice (splice_answer n b splice) in
    let p = err_from_is_err_and c.from_residual-in_err-given.result c.from_residual-in_err-given.ensures.1 in
    rw (p.1, p.2) (gives_refused _ _ c.in_err-given.field-0.0 e c.args.happened.now
    (c.in_ok-found.ensures.row (places_next e args) ∙ ap (λ (x : Content). on_places (seen_buffer_now x) args (between_put e args n b)) (sym c.in_ok-found.ensures.buffer)
    ∙ c.in_ok-span.ensures.row (between_put e args n b)
    ∙ ap (λ (t : List (List ℕ)). unless_newline t rest) (sym new))
    (c.in_err-given.ensures.row rest))

pub returns-in_err-new-clause-row : goal.returns-in_err-new-clause-row
returns-in_err-new-clause-row c session =
    let e = c.args.editor.now in
    let args = typed_arguments c.args.args.now in
    let n = c.in_ok-found.found.live.handle in
    let b = seen_buffer_now (content_at e n) in
    let span = c.in_ok-span.span in
    let strings = texts-are c.lines-strings.result.now _ c.lines-strings.ensures in
    let same : c.in_ok-given.given ≡ lines_at args 5 = c.in_ok-given.ensures.lines ∙ strings in
    let splice = text_splice b.next b.lines span.start span.stop (or_empty (lines_at args 5)) in
    let answer : Answer = splice_answer n b splice in
    let rest : Answer = unless_barred e.stage.limits b splice answer in
    let p = err_from_is_err_and c.from_residual-in_err-new.result c.from_residual-in_err-new.ensures.1 in
    rw (p.1, p.2) (gives_refused _ _ c.in_err-new.field-0.0 e c.args.happened.now
    (c.in_ok-found.ensures.row (places_next e args) ∙ ap (λ (x : Content). on_places (seen_buffer_now x) args (between_put e args n b)) (sym c.in_ok-found.ensures.buffer)
    ∙ c.in_ok-span.ensures.row (between_put e args n b)
    ∙ ap (λ (t : List (List ℕ)). unless_newline t rest) (sym strings)
    ∙ c.in_ok-given.ensures.row rest
    ∙ (λ i. let x = sym c.in_ok-found.ensures.buffer i in
    unless_barred (sym c.limits.ensures i) (seen_buffer_now x) (text_splice (next_part x) x.text span.start span.stop (or_empty (sym same i))) answer))
    (c.in_err-new.ensures.row answer))

pub put_text-requires-clause-columns : goal.put_text-requires-clause-columns
put_text-requires-clause-columns c =
    let e = c.args.editor.now in
    let n = c.in_ok-found.found.live.handle in
    let fits : FitsSigned w64 n = search rules in
    let handle = to_z-of_z w64 n fits in
    let there : c.in_ok-found.found.buffer.now ≡ content_at e (to_z w64 (of_z w64 n)) = c.in_ok-found.ensures.buffer ∙ ap (content_at e) (sym handle) in
    subst (λ (x : Content). All IsNarrowLine (lines_between x.text c.in_ok-span.span.start c.in_ok-span.span.stop c.in_ok-new.new)) there c.in_ok-new.ensures.columns

pub returns-clause-row : goal.returns-clause-row
returns-clause-row c session =
    let e = c.args.editor.now in
    let args = typed_arguments c.args.args.now in
    let n = c.in_ok-found.found.live.handle in
    let b = seen_buffer_now (content_at e n) in
    let span = c.in_ok-span.span in
    let strings = texts-are c.lines-strings.result.now _ c.lines-strings.ensures in
    let same : c.in_ok-given.given ≡ lines_at args 5 = c.in_ok-given.ensures.lines ∙ strings in
    let splice = text_splice b.next b.lines span.start span.stop (or_empty (lines_at args 5)) in
    let answer : Answer = splice_answer n b splice in
    let rest : Answer = unless_barred e.stage.limits b splice answer in
    let put : c.in_ok-new.new ≡ or_empty (lines_at args 5) = c.in_ok-new.ensures.same ∙ ap or_empty same in
    let fits : FitsSigned w64 n = search rules in
    let handle = to_z-of_z w64 n fits in
    gives_done _ _ e c.put_text.new.self c.args.happened.now c.put_text.new.happened
    (c.in_ok-found.ensures.row (places_next e args) ∙ ap (λ (x : Content). on_places (seen_buffer_now x) args (between_put e args n b)) (sym c.in_ok-found.ensures.buffer)
    ∙ c.in_ok-span.ensures.row (between_put e args n b)
    ∙ ap (λ (t : List (List ℕ)). unless_newline t rest) (sym strings)
    ∙ c.in_ok-given.ensures.row rest
    ∙ (λ i. let x = sym c.in_ok-found.ensures.buffer i in
    unless_barred (sym c.limits.ensures i) (seen_buffer_now x) (text_splice (next_part x) x.text span.start span.stop (or_empty (sym same i))) answer)
    ∙ c.in_ok-new.ensures.row answer
    ∙ (λ i. splice_answer (sym handle i) (seen_buffer_now (content_at e (sym handle i))) (text_splice (next_part (content_at e (sym handle i))) (content_at e (sym handle i)).text span.start span.stop (sym put i))))
    c.in_ok-put_text.ensures
