use Rattle.std.proofs.Common.{◌≡◌, ◌+◌, ◌≤◌, ◌++◌, vec_len, vec_capacity}
use Rattle.std.specs.Vec.Iter.{into_iter_items, into_iter_len}
use Rattle.nv_lines.proofs.exchange.gathered.Given as goal

abbrev pub invariant-loop-item : goal.invariant-loop-item
invariant-loop-item g l = record {
  items : l.taken.items ++ into_iter_items l.item-iterator ≡ into_iter_items l.fn.gone;
  room : vec_len l.taken + into_iter_len l.item-iterator ≤ vec_capacity l.taken;
}
