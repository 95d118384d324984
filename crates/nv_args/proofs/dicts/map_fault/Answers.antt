use Rattle.std.proofs.Common.{◌∙◌, Option, [], map, subst}
use Rattle.nv_value.specs.View.{pair_content}
use Rattle.nv_value.specs.declared.fault.ApiFault.{ApiFault}
use Rattle.nv_args.specs.Arguments.{last_pairs}
use Rattle.nv_args.specs.Refusals.{Finds}
use Rattle.nv_args.specs.Rules.{key_of}
use Rattle.nv_args.proofs.DictLemmas.{none-but-missing, naming-none}
use Rattle.nv_args.proofs.dicts.map_fault.Goals as goal

pub returns-then-are_faultless : goal.returns-then-are_faultless
returns-then-are_faultless c =
    let keys = map key_of c.args.rules.now in
    let pairs = map pair_content c.args.pairs.now in
    subst (λ (o : Option ApiFault). Finds c.missing_key.result o)
    (none-but-missing [] keys pairs _ c.are_faultless.ensures c.if-are_faultless.true ∙ naming-none keys (last_pairs pairs))
    c.missing_key.ensures
