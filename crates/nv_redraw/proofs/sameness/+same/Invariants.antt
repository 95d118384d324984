-- The values gone over are the same.
use Rattle.std.proofs.Common.{◌≡◌, length, drop}
use Rattle.nv_value.specs.View.{contents, pair_contents}
use Rattle.nv_redraw.specs.inside.SameTrees.{same_trees}
use Rattle.nv_redraw.proofs.sameness.+same.Given as goal

abbrev pub invariant-same_items-loop-item : goal.invariant-same_items-loop-item
invariant-same_items-loop-item l = record {
  at : l.at ≡ l.item-index;
  all : same_trees (contents (drop l.item-index l.item-items)) (contents (drop l.item-index l.others.items)) ≡ same_trees (contents l.items.items) (contents l.others.items);
  long : length l.items.items ≡ length l.others.items;
}

abbrev pub invariant-same_fields-loop-pair : goal.invariant-same_fields-loop-pair
invariant-same_fields-loop-pair l = record {
  at : l.at ≡ l.pair-index;
  all : same_trees (pair_contents (drop l.pair-index l.pair-items)) (pair_contents (drop l.pair-index l.others.items)) ≡ same_trees (pair_contents l.fields.items) (pair_contents l.others.items);
  long : length l.fields.items ≡ length l.others.items;
}
