use Rattle.std.proofs.Common.{◌≡◌, ◌+◌, ◌++◌, length}
use Rattle.std.specs.List.{concat, flat_map}
use Rattle.unicode_segmentation.specs.Iter.{graphemes_left}
use Rattle.nv_text.specs.Pieces.{cluster_parts, text_parts, pieces_from}
use Rattle.nv_text.proofs.cutting.push_text.Given as goal

abbrev pub invariant-loop-cluster : goal.invariant-loop-cluster
invariant-loop-cluster l = record {
  pushed : l.pieces.items ++ pieces_from l.at (flat_map cluster_parts (graphemes_left l.clusters)) ≡ l.fn.pieces.items ++ pieces_from l.from (text_parts l.text);
  place : l.at + length (concat (graphemes_left l.clusters)) ≡ l.from + length l.text;
}

abbrev pub decreases-loop-cluster : goal.decreases-loop-cluster
decreases-loop-cluster l = length (graphemes_left l.clusters)
