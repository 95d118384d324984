use Rattle.nv_args.proofs.DictLemmas.{LookedAt}
use Rattle.nv_args.proofs.dicts.first_unknown.Given as goal

abbrev pub invariant-loop-left : goal.invariant-loop-left
invariant-loop-left l = LookedAt l.rules l.pairs l.left l.seen.keys l.first

abbrev pub decreases-loop-left : goal.decreases-loop-left
decreases-loop-left l = l.left
