use Rattle.std.proofs.Common.{◌≡◌, drop, length}
use Rattle.nv_screen.proofs.same.are_same_rects.Given as goal

abbrev pub invariant-loop-k : goal.invariant-loop-k
invariant-loop-k l = record {
  count : length l.a ≡ length l.b;
  same : drop l.k l.a ≡ drop l.k l.b → l.a ≡ l.b;
}
