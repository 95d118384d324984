use Rattle.std.proofs.Common.{ℤ, true, [], ◌∷◌, refl, rules}
use Rattle.std.proofs.lemmas.Result.{err_from_is_err_and}
use Rattle.nv_value.specs.Content.{truth}
use Rattle.nv_value.specs.View.{content}
use Rattle.nv_model.specs.Answers.{Answer, replied}
use Rattle.nv_model.specs.Seen.{SeenBuffer}
use Rattle.nv_api_buf.proofs.Deciding.{gives_refused}
use Rattle.nv_value.specs.declared.value.Value.{Truth}
use Rattle.nv_value.proofs.Contents.{content-Truth}
use Rattle.nv_model.specs.Answers.{detached}
use Rattle.nv_api_buf.proofs.Deciding.{replies_on}
use Rattle.nv_api_buf.proofs.following.nvim_buf_detach.Goals as goal

abbrev next : ℤ → SeenBuffer → Answer
next n b = replied (truth true) [] (detached n ∷ [])

pub returns-in_err-found-clause-row : goal.returns-in_err-found-clause-row
returns-in_err-found-clause-row c session =
    let p = err_from_is_err_and c.from_residual.result c.from_residual.ensures.1 in
    rw (p.1, p.2) (gives_refused _ _ c.in_err-found.field-0.0 c.args.editor.now c.args.happened.now refl (c.in_err-found.ensures.row next))

pub returns-clause-row : goal.returns-clause-row
returns-clause-row c session =
    let e = c.args.editor.now in
    replies_on _ _ (content (Truth true)) e e c.args.happened.now c.push.new.self
    (c.in_ok-found.ensures.row next)
    (content-Truth true, (λ m stands. stands), search rules)
