use Rattle.std.proofs.Common.{arith, ap}
use Rattle.std.specs.List.{flat_map}
use Rattle.unicode_segmentation.specs.Iter.{graphemes_left}
use Rattle.nv_text.specs.Pieces.{cluster_parts, parts_cells}
use Rattle.nv_text.proofs.FrontLemmas.{front_cells}
use Rattle.nv_text.proofs.PartLemmas.{text_cells-le, cells_next}
use Rattle.nv_text.proofs.measuring.text_width.Goals as goal

pub loop-cluster-init : goal.loop-cluster-init
loop-cluster-init c =
    omega (
      arith,
      ap (λ ls. parts_cells (flat_map cluster_parts ls)) c.graphemes-clusters.ensures.left,
      front_cells c.args.text.now _ _ c.plain_len.result c.split_at.ensures.front c.split_at.ensures.back c.plain_len.ensures.plain c.plain_len.ensures.cut,
    )

pub overflow_add-cells : goal.overflow_add-cells
overflow_add-cells c =
    omega (
      arith,
      c.requires,
      c.loop-cluster.invariant,
      c.cluster_width-cells.ensures,
      text_cells-le c.args.text.now c.utf8.text,
      cells_next (graphemes_left c.loop-cluster.clusters) (graphemes_left c.next.new.self) c.in-Some.cluster.now c.in-Some.ensures.steps,
    )

pub returns-clause-bound : goal.returns-clause-bound
returns-clause-bound c = omega (arith, c.loop-cluster.invariant, text_cells-le c.args.text.now c.utf8.text)
