use Rattle.std.proofs.Common.{◌≡◌}
use Rattle.std.specs.BTreeMap.{keys}
use Rattle.nv_marks.proofs.index.Index.follow.Given as goal

abbrev pub invariant-loop-at : goal.invariant-loop-at
invariant-loop-at l = keys l.self-inside.homes ≡ l.fn.self
