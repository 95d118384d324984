-- What has been copied so far has the content of the items gone over.
use Rattle.std.proofs.Common.{◌≡◌, map, take}
use Rattle.nv_value.specs.View.{content, pair_content}
use Rattle.nv_value.proofs.value.+copy.Given as goal

abbrev pub invariant-copy_fields-loop-pair : goal.invariant-copy_fields-loop-pair
invariant-copy_fields-loop-pair l = map pair_content l.copies.items ≡ map pair_content (take l.pair-index l.pair-items)

abbrev pub invariant-copy_items-loop-item : goal.invariant-copy_items-loop-item
invariant-copy_items-loop-item l = map content l.copies.items ≡ map content (take l.item-index l.item-items)
