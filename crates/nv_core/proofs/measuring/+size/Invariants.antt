use Rattle.std.proofs.Common.{◌≡◌, drop}
use Rattle.nv_value.specs.View.{contents, pair_contents}
use Rattle.nv_core.specs.Sizes.{memory_with}
use Rattle.nv_core.proofs.measuring.+size.Given as goal

abbrev pub invariant-size_of_items-loop-item : goal.invariant-size_of_items-loop-item
invariant-size_of_items-loop-item l =
    memory_with (contents (drop l.item-index l.item-items)) l.size ≡ memory_with (contents l.item-items) 32

abbrev pub invariant-size_of_fields-loop-pair : goal.invariant-size_of_fields-loop-pair
invariant-size_of_fields-loop-pair l =
    memory_with (pair_contents (drop l.pair-index l.pair-items)) l.size ≡ memory_with (pair_contents l.pair-items) 32
