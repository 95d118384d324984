use Rattle.std.proofs.Common.{ℤ, FitsSigned, w64, subst, ◌∙◌, rules}
use Rattle.std.proofs.lemmas.Int.{to_z-of_z}
use Rattle.nv_model.specs.Answers.{on_buffer}
use Rattle.nv_model.specs.Standing.{seen_now, seen_buffer_now}
use Rattle.nv_editor.specs.Sound.{content_at}
use Rattle.nv_api_buf.specs.inside.Deciding.{Leaves}
use Rattle.nv_api_buf.specs.declared.finding.Found.{Found}
use Rattle.nv_api_buf.proofs.finding.found_given.Goals as goal

pub returns-clause-row : goal.returns-clause-row
returns-clause-row c next =
    let fits : FitsSigned w64 c.number.result = search rules in
    subst (λ (z : ℤ). Leaves (on_buffer (seen_now c.args.editor.now) z next)
    (λ (found : Found). next found.live.handle (seen_buffer_now (content_at c.args.editor.now found.live.handle))) c.found_of.result)
    (to_z-of_z w64 c.number.result fits ∙ c.number.ensures)
    (c.found_of.ensures.row next)
