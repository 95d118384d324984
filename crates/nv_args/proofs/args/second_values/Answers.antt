use Rattle.std.proofs.Common.{◌∙◌}
use Rattle.nv_value.specs.View.{content}
use Rattle.nv_args.proofs.CallLemmas.{parts-of, second-is}
use Rattle.nv_args.proofs.args.second_values.Goals as goal

pub returns-in-len2-up : goal.returns-in-len2-up
returns-in-len2-up c =
    parts-of c.items_in.result.now (content c.params-item.result) c.items_in.ensures
    ∙ second-is c.args.parts.now c.params-item.result c.in-len2-up.len_at_least c.params-item.is
