use Rattle.std.proofs.Common.{◌≡◌, drop}
use Rattle.nv_painter.proofs.lent.same_back.Given as goal

abbrev pub invariant-loop-k : goal.invariant-loop-k
invariant-loop-k l = drop l.k l.a ≡ drop l.k l.b
