use Rattle.std.proofs.Common.{ℕ, List, Option, Bor, map, subst}
use Rattle.nv_value.specs.View.{pair_content}
use Rattle.nv_value.specs.declared.fault.ApiFault.{ApiFault}
use Rattle.nv_args.specs.Refusals.{Finds}
use Rattle.nv_args.specs.Rules.{key_of}
use Rattle.nv_args.proofs.DictLemmas.{none-but-missing}
use Rattle.nv_args.proofs.dicts.naming_fault.Goals as goal

pub returns-then-are_faultless : goal.returns-then-are_faultless
returns-then-are_faultless c =
    subst (λ (o : Option ApiFault). Finds c.missing_key.result o)
    (none-but-missing (map (λ (n : Bor (List ℕ)). n.now) c.args.naming.now) (map key_of c.args.rules.now) (map pair_content c.args.pairs.now) _
    c.are_faultless.ensures c.if-are_faultless.true)
    c.missing_key.ensures
