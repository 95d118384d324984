use Rattle.std.proofs.Common.{◌≡◌, drop}
use Rattle.nv_value.specs.View.{contents, pair_contents}
use Rattle.nv_book.specs.inside.Fitness.{are_tellable}
use Rattle.nv_book.proofs.fitness.+tellable.Given as goal

abbrev pub invariant-are_tellable-loop-item : goal.invariant-are_tellable-loop-item
invariant-are_tellable-loop-item l =
    are_tellable l.depth (contents (drop l.item-index l.item-items)) ≡ are_tellable l.depth (contents l.item-items)

abbrev pub invariant-have_tellable-loop-pair : goal.invariant-have_tellable-loop-pair
invariant-have_tellable-loop-pair l =
    are_tellable l.depth (pair_contents (drop l.pair-index l.pair-items)) ≡ are_tellable l.depth (pair_contents l.pair-items)
