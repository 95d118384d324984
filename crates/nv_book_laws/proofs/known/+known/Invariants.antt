-- Where the values that are left are so, all are.
use Rattle.std.proofs.Common.{drop}
use Rattle.nv_value.specs.View.{contents, pair_contents}
use Rattle.nv_msgpack.specs.Shortest.{AreInRange}
use Rattle.nv_book_laws.proofs.known.+known.Given as goal

abbrev pub invariant-known_fields-loop-pair : goal.invariant-known_fields-loop-pair
invariant-known_fields-loop-pair l =
    AreInRange (pair_contents (drop l.pair-index l.pair-items)) → AreInRange (pair_contents l.pair-items)

abbrev pub invariant-known_items-loop-item : goal.invariant-known_items-loop-item
invariant-known_items-loop-item l =
    AreInRange (contents (drop l.item-index l.item-items)) → AreInRange (contents l.item-items)
