-- The chunks so far hold the lines in front of those that are left, so it is told by these.
use Rattle.std.proofs.Common.{◌≡◌, drop, length}
use Rattle.nv_lines.specs.Chunks.{chunk_lines}
use Rattle.nv_watch.specs.Folds.{are_same_lines}
use Rattle.nv_watch.proofs.comparing.hold_lines.Given as goal

abbrev pub invariant-loop-chunk : goal.invariant-loop-chunk
invariant-loop-chunk l = record {
  count : length (chunk_lines (drop l.chunk-index l.chunks)) ≡ length l.left;
  same : are_same_lines (chunk_lines (drop l.chunk-index l.chunks)) l.left ≡ are_same_lines (chunk_lines l.chunks) l.lines;
}
