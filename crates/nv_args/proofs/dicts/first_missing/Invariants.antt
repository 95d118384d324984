use Rattle.std.proofs.Common.{◌≡◌, map, drop}
use Rattle.nv_value.specs.View.{pair_content}
use Rattle.nv_args.specs.Arguments.{last_pairs}
use Rattle.nv_args.specs.Maps.{missing_key}
use Rattle.nv_args.specs.Rules.{key_of}
use Rattle.nv_args.proofs.dicts.first_missing.Given as goal

abbrev pub invariant-loop-rule : goal.invariant-loop-rule
invariant-loop-rule l =
    missing_key (map key_of (drop l.rule-index l.rules)) (last_pairs (map pair_content l.pairs))
    ≡ missing_key (map key_of l.rules) (last_pairs (map pair_content l.pairs))
