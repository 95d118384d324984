use Rattle.std.proofs.Common.{◌≡◌, ◌≤◌, ◌+◌, take, length}
use Rattle.nv_marks.specs.inside.Chunks.{spread_records}
use Rattle.nv_marks.specs.inside.Stored.{extended_list, listed_marks}
use Rattle.nv_marks.proofs.list.list_chunks.Given as goal

abbrev pub invariant-loop-chunk : goal.invariant-loop-chunk
invariant-loop-chunk l =
    (l.into.items ≡ extended_list (l.range.held + l.range.limit) l.fn.into.items
    (listed_marks (spread_records l.store.chunks.items) l.range.query (spread_records (take l.chunk-index l.chunks))))
    × (take l.range.held l.into.items ≡ take l.range.held l.fn.into.items)
    × (length l.fn.into.items ≤ length l.into.items)
