use Rattle.std.proofs.Common.{◌∙◌}
use Rattle.nv_layout.proofs.Children.{wish_of_last, wish_of_any, wish_of_earlier}
use Rattle.nv_layout.proofs.division.counted_wish.Goals as goal
use Rattle.nv_layout.proofs.division.counted_wish.Goals.{else-all_wish-via-then-all_wish+else-place-trees, else-all_wish-via-else-all_wish}

pub returns-then-place-trees : goal.returns-then-place-trees
returns-then-place-trees c = wish_of_last c.args.axis c.args.trees.now c.args.all_wish c.args.place c.if-all_wish.true c.if-place-trees.true

pub returns-else-all_wish : goal.returns-else-all_wish
returns-else-all_wish c = elim c.else-all_wish.branch [
  | else-all_wish-via-then-all_wish+else-place-trees w ↦
      c.wish_along.ensures ∙ wish_of_earlier c.args.axis c.args.trees.now c.args.all_wish c.args.place c.index-trees-place.result c.requires c.index-trees-place.is w.if-place-trees.false
  | else-all_wish-via-else-all_wish w ↦
      c.wish_along.ensures ∙ wish_of_any c.args.axis c.args.trees.now c.args.all_wish c.args.place c.index-trees-place.result c.requires c.index-trees-place.is w.if-all_wish.false
]
