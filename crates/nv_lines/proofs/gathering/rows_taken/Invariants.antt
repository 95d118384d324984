use Rattle.std.proofs.Common.{◌≡◌, ◌+◌, ◌≤◌, ◌++◌, length, vec_len, vec_capacity, slice_range}
use Rattle.std.specs.Vec.Iter.{into_iter_items}
use Rattle.nv_lines.specs.inside.Tables.{table_lines}
use Rattle.nv_lines.proofs.gathering.rows_taken.Given as goal

abbrev pub invariant-loop-table : goal.invariant-loop-table
invariant-loop-table l = record {
  items : l.taken.items ++ slice_range (table_lines (into_iter_items l.table-iterator)) l.start l.end
      ≡ l.fn.taken.items ++ slice_range (table_lines l.fn.tables.items) l.fn.from l.fn.to;
  room : vec_len l.taken + length (slice_range (table_lines (into_iter_items l.table-iterator)) l.start l.end) ≤ vec_capacity l.taken;
}
