use Rattle.std.proofs.Common.{◌≡◌, drop}
use Rattle.nv_painter.specs.Keys.{same_spans}
use Rattle.nv_painter.proofs.key.are_same_spans.Given as goal

abbrev pub invariant-loop-k : goal.invariant-loop-k
invariant-loop-k l = same_spans (drop l.k l.a) (drop l.k l.b) ≡ same_spans l.a l.b
