use Rattle.std.proofs.Common.{[], ◌∷◌, refl, rules}
use Rattle.nv_value.specs.Content.{nil}
use Rattle.nv_model.specs.Answers.{replied, quit}
use Rattle.nv_api_buf.proofs.Deciding.{gives_done}
use Rattle.nv_api_buf.proofs.commands.quit.Goals as goal

pub returns-clause-row : goal.returns-clause-row
returns-clause-row c =
    let e = c.args.editor.now in
    gives_done _ (replied nil [] (quit ∷ [])) e e c.args.happened.now c.push.new.self refl (refl, (λ m stands. stands), search rules)
