-- What has been written so far is what was there, and the spellings of the values gone over.
use Rattle.std.proofs.Common.{◌≡◌, ◌++◌, take}
use Rattle.nv_value.specs.View.{contents, pair_contents}
use Rattle.nv_msgpack.specs.Shortest.{all_shortest, AreInRange}
use Rattle.nv_msgpack.proofs.writer.+encode.Given as goal

abbrev pub invariant-put_fields-loop-pair : goal.invariant-put_fields-loop-pair
invariant-put_fields-loop-pair l = record {
  written : l.into.items ≡ l.fn.into.items ++ all_shortest (pair_contents (take l.pair-index l.pair-items));
  in_range : AreInRange (pair_contents (take l.pair-index l.pair-items));
}

abbrev pub invariant-put_items-loop-item : goal.invariant-put_items-loop-item
invariant-put_items-loop-item l = record {
  written : l.into.items ≡ l.fn.into.items ++ all_shortest (contents (take l.item-index l.item-items));
  in_range : AreInRange (contents (take l.item-index l.item-items));
}
