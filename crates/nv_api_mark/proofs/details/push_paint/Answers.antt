use Rattle.std.proofs.Common.{◌≡◌, ◌∙◌, ◌++◌, ◌∷◌, ℕ, List, Option, map, rules, sym, ap}
use Rattle.nv_value.specs.Content.{text, truth}
use Rattle.nv_value.specs.View.{pair_content}
use Rattle.nv_hl.specs.Groups.{name_at}
use Rattle.nv_marks.specs.declared.extmark.Paint.{Paint}
use Rattle.nv_model.specs.Answering.{key_value}
use Rattle.nv_api_mark.specs.MarkRows.{paint_details}
use Rattle.nv_api_mark.proofs.details.push_paint.Goals as goal

pub returns-clause-told : goal.returns-clause-told
returns-clause-told c = λ rest.
    let name : c.name.result.now ≡ name_at c.args.groups.now c.in-Some.paint.group = search rules in
    c.in_ok-put_truth.ensures rest
    ∙ c.in_ok-put_text.ensures.told _
    ∙ ap (λ (bytes : List ℕ). map pair_content c.args.fields.now.items ++ key_value "hl_group" (text bytes) ∷ key_value "hl_eol" (truth c.in-Some.paint.eol) ∷ rest) name
    ∙ ap (λ (paint : Option Paint). map pair_content c.args.fields.now.items ++ (paint_details c.args.groups.now paint ++ rest)) (sym c.in-Some.is)
