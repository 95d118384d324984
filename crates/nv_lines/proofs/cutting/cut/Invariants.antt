use Rattle.std.proofs.Common.{◌≡◌, ◌<◌, ◌++◌, ◌⊎◌, [], length, All}
use Rattle.std.specs.Vec.Iter.{into_iter_items, into_iter_len}
use Rattle.nv_lines.specs.Chunks.{chunk_lines, chunk_sizes, IsChunk}
use Rattle.nv_lines.proofs.cutting.cut.Given as goal

abbrev pub invariant-cutting : goal.invariant-cutting
invariant-cutting l = record {
  text : chunk_lines l.made.items ++ into_iter_items l.rest ≡ l.fn.lines.items;
  left_is : into_iter_len l.rest ≡ l.left;
  count : length (into_iter_items l.rest) ≡ l.left;
  some : 0 < l.left;
  each : All IsChunk l.made.items;
  size : All (λ n. n ≡ 48) (chunk_sizes l.made.items);
  over : (l.made.items ≡ []) ⊎ (64 < l.left);
}

abbrev pub decreases-cutting : goal.decreases-cutting
decreases-cutting l = l.left
