use Rattle.std.proofs.Common.{◌≡◌, ℕ, List, Bor, map, drop}
use Rattle.nv_value.specs.View.{pair_content}
use Rattle.nv_args.specs.Arguments.{last_pairs}
use Rattle.nv_args.specs.Naming.{wrong_value_of}
use Rattle.nv_args.specs.Rules.{key_of}
use Rattle.nv_args.proofs.dicts.first_wrong_value.Given as goal

abbrev pub invariant-loop-place : goal.invariant-loop-place
invariant-loop-place l =
    wrong_value_of (map (λ (n : Bor (List ℕ)). n.now) l.naming) (map key_of l.rules) (last_pairs (map pair_content (drop l.place l.pairs)))
    ≡ wrong_value_of (map (λ (n : Bor (List ℕ)). n.now) l.naming) (map key_of l.rules) (last_pairs (map pair_content l.pairs))
