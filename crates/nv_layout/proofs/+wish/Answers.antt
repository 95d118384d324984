use Rattle.std.proofs.Common.{rules, ◌∙◌, ap, sym, w64}
use Rattle.std.proofs.lemmas.Int.{to_z-of_z}
use Rattle.std.proofs.lemmas.List.{length-set}
use mir.Val.{to_z, of_z}
use Rattle.nv_layout.specs.Content.{shape_of, shapes_of}
use Rattle.nv_layout.specs.Changes.{with_wish, with_wish_among}
use Rattle.nv_layout.proofs.Wishes.{wishes_more, wishes_all}
use Rattle.nv_layout.proofs.+wish.Goals as goal

pub changes::put_wish_among-loop-tree-preserved : goal.changes::put_wish_among-loop-tree-preserved
changes::put_wish_among-loop-tree-preserved t c = (
  (
    length-set c.loop-tree.trees c.loop-tree.tree-index c.put_wish.new.self ∙ c.loop-tree.auto.trees,
    λ k d h. search rules,
  ),
  wishes_more (with_wish c.args.axis c.args.wish (to_z w64 (of_z w64 c.args.window))) c.args.trees.now c.loop-tree.trees c.loop-tree.tree-index c.tree-item.result c.put_wish.new.self
      c.loop-tree-test.true c.loop-tree.auto.trees c.loop-tree.invariant.1 c.tree-item.is
      (c.put_wish.ensures ∙ ap (λ d. with_wish c.args.axis c.args.wish (to_z w64 (of_z w64 c.args.window)) (shape_of d)) (sym c.tree-item.is)),
)

pub changes::put_wish_among-returns : goal.changes::put_wish_among-returns
changes::put_wish_among-returns t c =
    wishes_all c.args.axis c.args.wish (to_z w64 (of_z w64 c.args.window)) c.args.trees.now c.loop-tree.trees c.loop-tree.tree-index c.loop-tree-test.false c.loop-tree.invariant.1
    ∙ ap (λ w. with_wish_among c.args.axis c.args.wish w (shapes_of c.args.trees.now)) (to_z-of_z w64 c.args.window c.ranges.window)
