use Rattle.std.proofs.Common.{map, subst, Option}
use Rattle.nv_value.specs.View.{pair_content}
use Rattle.nv_value.specs.declared.fault.ApiFault.{ApiFault}
use Rattle.nv_args.specs.Arguments.{last_pairs}
use Rattle.nv_args.specs.Refusals.{Finds}
use Rattle.nv_args.specs.Rules.{key_of}
use Rattle.nv_args.proofs.DictLemmas.{none-naming}
use Rattle.nv_args.proofs.dicts.wrong_value.Goals as goal

pub returns : goal.returns
returns c =
    subst (λ (o : Option ApiFault). Finds c.wrong_value_of.result o)
    (none-naming (map key_of c.args.rules.now) (last_pairs (map pair_content c.args.pairs.now))) c.wrong_value_of.ensures
