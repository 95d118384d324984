use Rattle.std.proofs.Common.{◌≡◌, map, drop, Some}
use Rattle.nv_value.specs.View.{pair_content}
use Rattle.nv_args.specs.inside.Looking.{is_key_among}
use Rattle.nv_args.proofs.dicts.is_key_among.Given as goal

abbrev pub invariant-loop-pair : goal.invariant-loop-pair
invariant-loop-pair l =
    is_key_among (Some l.name) (map pair_content (drop l.pair-index l.pairs))
    ≡ is_key_among (Some l.name) (map pair_content l.pairs)
