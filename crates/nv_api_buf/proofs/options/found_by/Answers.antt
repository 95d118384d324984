use Rattle.std.proofs.Common.{◌≡◌, ℤ, pos, map, ap, subst, ◌∙◌, rules, w64, FitsSigned, Option}
use Rattle.std.proofs.lemmas.Int.{to_z-of_z}
use Rattle.nv_value.specs.View.{pair_content}
use Rattle.nv_args.specs.Arguments.{last_pairs}
use Rattle.nv_model.specs.Standing.{seen_now, seen_buffer_now}
use Rattle.nv_editor.specs.Sound.{content_at}
use Rattle.nv_model.specs.Answers.{on_buffer}
use Rattle.nv_api_buf.specs.OptionRows.{option_buffer}
use Rattle.nv_api_buf.specs.inside.Deciding.{Leaves}
use Rattle.nv_api_buf.specs.declared.finding.Found.{Found}
use Rattle.std.specs.Prelude.{unwrap_or}
use Rattle.nv_api_buf.proofs.options.found_by.Goals as goal

pub returns-clause-row : goal.returns-clause-row
returns-clause-row c next =
    let fits : FitsSigned w64 c.unwrap_or.result = search rules in
    let meant : c.unwrap_or.result ≡ option_buffer (last_pairs (map pair_content c.args.pairs.now)) = c.unwrap_or.ensures ∙ ap (λ (o : Option ℤ). unwrap_or o (pos 0)) c.buffer_at.ensures in
    subst (λ (z : ℤ). Leaves (on_buffer (seen_now c.args.editor.now) z next)
    (λ (found : Found). next found.live.handle (seen_buffer_now (content_at c.args.editor.now found.live.handle))) c.found_of.result)
    (to_z-of_z w64 c.unwrap_or.result fits ∙ meant)
    (c.found_of.ensures.row next)
