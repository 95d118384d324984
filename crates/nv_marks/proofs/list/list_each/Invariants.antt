use Rattle.std.proofs.Common.{◌≡◌, ◌≤◌, ◌+◌, map, take, length}
use Rattle.nv_marks.specs.inside.Chunks.{placed_record, spread_records}
use Rattle.nv_marks.specs.inside.Stored.{extended_list, listed_marks}
use Rattle.nv_marks.proofs.list.list_each.Given as goal

abbrev pub invariant-loop-one : goal.invariant-loop-one
invariant-loop-one l =
    (l.into.items ≡ extended_list (l.range.held + l.range.limit) l.fn.into.items
    (listed_marks (spread_records l.store.chunks.items) l.range.query (map (placed_record l.base) (take l.one-index l.kept))))
    × (take l.range.held l.into.items ≡ take l.range.held l.fn.into.items)
    × (length l.fn.into.items ≤ length l.into.items)
