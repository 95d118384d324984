use Rattle.std.proofs.Common.{◌≡◌, ◌-◌, ◌++◌}
use Rattle.nv_layout.specs.inside.Measured.{zeros}
use Rattle.nv_layout.proofs.placing.push_zeros.Given as goal

abbrev pub invariant-loop : goal.invariant-loop
invariant-loop l = l.into.items ++ zeros (l.count - l.counter) ≡ l.initial.into.items ++ zeros l.count
