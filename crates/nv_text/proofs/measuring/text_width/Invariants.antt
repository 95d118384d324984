use Rattle.std.proofs.Common.{◌≡◌, ◌+◌, length}
use Rattle.std.specs.List.{flat_map}
use Rattle.unicode_segmentation.specs.Iter.{graphemes_left}
use Rattle.nv_text.specs.Pieces.{cluster_parts, text_parts, parts_cells}
use Rattle.nv_text.proofs.measuring.text_width.Given as goal

abbrev pub invariant-loop-cluster : goal.invariant-loop-cluster
invariant-loop-cluster l = l.cells + parts_cells (flat_map cluster_parts (graphemes_left l.clusters)) ≡ parts_cells (text_parts l.text)

abbrev pub decreases-loop-cluster : goal.decreases-loop-cluster
decreases-loop-cluster l = length (graphemes_left l.clusters)
