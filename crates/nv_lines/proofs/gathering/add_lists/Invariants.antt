use Rattle.std.proofs.Common.{◌≡◌, ◌++◌, drop, slice_range}
use Rattle.nv_lines.specs.Chunks.{chunk_lines}
use Rattle.nv_lines.proofs.gathering.add_lists.Given as goal

abbrev pub invariant-loop-chunk : goal.invariant-loop-chunk
invariant-loop-chunk l =
    l.excerpt ++ slice_range (chunk_lines (drop l.chunk-index l.chunks)) l.start l.end
    ≡ l.initial.excerpt ++ slice_range (chunk_lines l.chunks) l.fn.from l.fn.to
