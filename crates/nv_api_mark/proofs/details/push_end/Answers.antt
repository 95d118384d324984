use Rattle.std.proofs.Common.{◌∙◌, ◌++◌, Option, map, sym, ap}
use Rattle.nv_value.specs.View.{pair_content}
use Rattle.nv_marks.specs.declared.extmark.Far.{Far}
use Rattle.nv_api_mark.specs.MarkRows.{end_details}
use Rattle.nv_api_mark.proofs.details.push_end.Goals as goal

pub returns : goal.returns
returns c = λ rest.
    c.in_ok-put_truth.ensures rest
    ∙ c.in_ok-put_natural-2.ensures _
    ∙ c.in_ok-put_natural.ensures _
    ∙ ap (λ (stop : Option Far). map pair_content c.args.fields.now.items ++ (end_details stop ++ rest)) (sym c.in-Some.is)
