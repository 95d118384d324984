use Rattle.std.proofs.Common.{◌≡◌, ℕ, List, Bor, map, drop}
use Rattle.nv_value.specs.View.{pair_content}
use Rattle.nv_args.specs.Rules.{key_of}
use Rattle.nv_args.specs.inside.Looking.{are_faultless}
use Rattle.nv_args.proofs.dicts.are_faultless.Given as goal

abbrev pub invariant-loop-pair : goal.invariant-loop-pair
invariant-loop-pair l =
    are_faultless (map (λ (n : Bor (List ℕ)). n.now) l.naming) (map key_of l.rules) (map pair_content (drop l.pair-index l.pairs))
    ≡ are_faultless (map (λ (n : Bor (List ℕ)). n.now) l.naming) (map key_of l.rules) (map pair_content l.pairs)
