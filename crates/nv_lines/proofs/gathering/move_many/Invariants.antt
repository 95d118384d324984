use Rattle.std.proofs.Common.{◌≡◌, ◌+◌, ◌≤◌, ◌++◌, length, vec_len, vec_capacity, slice_range}
use Rattle.std.specs.Vec.Iter.{into_iter_items}
use Rattle.nv_lines.proofs.gathering.move_many.Given as goal

abbrev pub invariant-loop-line : goal.invariant-loop-line
invariant-loop-line l = record {
  items : l.into.items ++ slice_range (into_iter_items l.line-iterator) l.start l.end
      ≡ l.fn.into.items ++ slice_range l.fn.lines.items l.fn.from l.fn.to;
  room : vec_len l.into + length (slice_range (into_iter_items l.line-iterator) l.start l.end) ≤ vec_capacity l.into;
  capacity : vec_capacity l.fn.into ≤ vec_capacity l.into;
}
