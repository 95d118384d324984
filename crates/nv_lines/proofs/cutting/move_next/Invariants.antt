use Rattle.std.proofs.Common.{◌≡◌, ◌+◌, ◌≤◌, ◌++◌, vec_len, vec_capacity}
use Rattle.std.specs.Vec.Iter.{into_iter_items, into_iter_len}
use Rattle.nv_lines.proofs.cutting.move_next.Given as goal

abbrev pub invariant-moving : goal.invariant-moving
invariant-moving g l = record {
  items : l.into.items ++ into_iter_items l.from ≡ l.initial.into.items ++ into_iter_items l.initial.from;
  len : vec_len l.into ≡ vec_len l.initial.into + l.counter;
  left : into_iter_len l.from + l.counter ≡ into_iter_len l.initial.from;
  room : vec_len l.initial.into + l.count ≤ vec_capacity l.into;
}
