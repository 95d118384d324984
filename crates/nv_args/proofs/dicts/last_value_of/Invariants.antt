use Rattle.std.proofs.Common.{◌≡◌, ◌≤◌, map, drop, length, None}
use Rattle.nv_value.specs.View.{pair_content}
use Rattle.nv_args.proofs.DictLemmas.{last_value}
use Rattle.nv_args.proofs.dicts.last_value_of.Given as goal

abbrev pub invariant-loop-left : goal.invariant-loop-left
invariant-loop-left l =
    (l.left ≤ length l.pairs) × (last_value l.name (map pair_content (drop l.left l.pairs)) ≡ None)

abbrev pub decreases-loop-left : goal.decreases-loop-left
decreases-loop-left l = l.left
