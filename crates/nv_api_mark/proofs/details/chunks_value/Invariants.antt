-- The parts of a front are told, and can be.
use Rattle.std.proofs.Common.{◌≡◌, ◌++◌, All, map, drop, take}
use Rattle.nv_value.specs.View.{content, contents}
use Rattle.nv_msgpack.specs.Shortest.{HaveSpellings}
use Rattle.nv_api_mark.specs.MarkRows.{chunk_told}
use Rattle.nv_api_mark.specs.inside.Marking.{IsChunkTold}
use Rattle.nv_api_mark.proofs.details.chunks_value.Given as goal

abbrev pub invariant-loop-chunk : goal.invariant-loop-chunk
invariant-loop-chunk l = record {
  all : map content l.items.items ++ map (chunk_told l.groups) (drop l.chunk-index l.chunks) ≡ map (chunk_told l.groups) l.chunks;
  spelled : HaveSpellings (contents l.items.items);
  short : All (IsChunkTold l.groups) (take l.chunk-index l.chunks);
}
