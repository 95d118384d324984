use Rattle.std.proofs.Common.{◌≡◌, ◌≤◌, ◌-◌, drop, length}
use Rattle.nv_painter.proofs.lent.same_blocks.Given as goal

abbrev pub decreases-comparing : goal.decreases-comparing
decreases-comparing l = l.end - l.from

abbrev pub invariant-comparing : goal.invariant-comparing
invariant-comparing l = record {
  order : l.from ≤ l.end;
  within : l.end ≤ length l.a;
  same : drop l.end l.a ≡ drop l.end l.b;
}
