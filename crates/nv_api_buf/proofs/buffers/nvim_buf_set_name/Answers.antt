use Rattle.std.proofs.Common.{◌≡◌, ℕ, ℤ, List, [], ◌∷◌, ap, sym, ◌∙◌, refl, rules, w64, FitsSigned}
use Rattle.std.proofs.lemmas.Result.{err_from_is_err_and}
use Rattle.std.proofs.lemmas.Int.{to_z-of_z}
use Rattle.nv_value.specs.Content.{nil}
use Rattle.nv_args.specs.Args.{typed_arguments}
use Rattle.nv_args.specs.Reading.{string_at}
use Rattle.nv_model.specs.Answers.{Answer, replied}
use Rattle.nv_model.specs.Operations.{name_put}
use Rattle.nv_model.specs.Seen.{Seen, SeenBuffer}
use Rattle.nv_model.specs.Standing.{seen_now}
use Rattle.nv_api_buf.specs.inside.Deciding.{unless_unnamed}
use Rattle.nv_api_buf.proofs.Deciding.{gives_refused, gives_quiet}
use Rattle.nv_api_buf.proofs.buffers.nvim_buf_set_name.Goals as goal

abbrev next : Seen → List ℕ → ℤ → SeenBuffer → Answer
next s name n b = unless_unnamed s n name (replied nil (name_put n name ∷ []) [])

pub returns-in_err-found-clause-row : goal.returns-in_err-found-clause-row
returns-in_err-found-clause-row c session =
    let p = err_from_is_err_and c.from_residual.result c.from_residual.ensures.1 in
    rw (p.1, p.2) (gives_refused _ _ c.in_err-found.field-0.0 c.args.editor.now c.args.happened.now refl
    (c.in_err-found.ensures.row (next (seen_now c.args.editor.now) (string_at (typed_arguments c.args.args.now) 1))))

pub returns-in_err-may_name-clause-row : goal.returns-in_err-may_name-clause-row
returns-in_err-may_name-clause-row c session =
    let e = c.args.editor.now in
    let n = c.in_ok-found.found.live.handle in
    let name = string_at (typed_arguments c.args.args.now) 1 in
    let same : name ≡ c.as_slice.result.now = sym c.in_ok-name.ensures ∙ sym c.as_slice.ensures.bytes in
    let answer : Answer = replied nil (name_put n name ∷ []) [] in
    let p = err_from_is_err_and c.from_residual-in_err-may_name.result c.from_residual-in_err-may_name.ensures.1 in
    rw (p.1, p.2) (gives_refused _ _ c.in_err-may_name.field-0.0 e c.args.happened.now
    (c.in_ok-found.ensures.row (next (seen_now e) name) ∙ ap (λ (x : List ℕ). unless_unnamed (seen_now e) n x answer) same)
    (c.in_err-may_name.ensures.row answer))

pub returns-clause-row : goal.returns-clause-row
returns-clause-row c session =
    let e = c.args.editor.now in
    let n = c.in_ok-found.found.live.handle in
    let name = string_at (typed_arguments c.args.args.now) 1 in
    let same : name ≡ c.as_slice.result.now = sym c.in_ok-name.ensures ∙ sym c.as_slice.ensures.bytes in
    let answer : Answer = replied nil (name_put n name ∷ []) [] in
    let fits : FitsSigned w64 n = search rules in
    let line : c.from_bytes.result ≡ name = c.from_bytes.ensures ∙ c.in_ok-name.ensures in
    gives_quiet _ _ e c.put_name.new.self c.args.happened.now
    (c.in_ok-found.ensures.row (next (seen_now e) name) ∙ ap (λ (x : List ℕ). unless_unnamed (seen_now e) n x answer) same
    ∙ c.in_ok-may_name.ensures.row answer
    ∙ (λ i. replied nil (name_put (sym (to_z-of_z w64 n fits) i) (sym line i) ∷ []) []))
    c.put_name.ensures
