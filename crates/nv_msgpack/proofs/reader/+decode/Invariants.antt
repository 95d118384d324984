use Rattle.std.proofs.Common.{◌≡◌, ◌+◌, ◌*◌, ◌≤◌, length}
use Rattle.nv_value.specs.View.{contents, pair_contents}
use Rattle.nv_msgpack.proofs.Loop.{behind, owed_at}
use Rattle.nv_msgpack.proofs.reader.+decode.Given as goal

-- a value's measure is above that of what it holds, one less deep
abbrev pub decreases-value_of : goal.decreases-value_of
decreases-value_of l = 4 * l.depth + 3

abbrev pub decreases-list_of : goal.decreases-list_of
decreases-list_of l = 4 * l.depth + 6

abbrev pub decreases-map_of : goal.decreases-map_of
decreases-map_of l = 4 * l.depth + 6

abbrev pub decreases-items_of : goal.decreases-items_of
decreases-items_of l = 4 * l.depth + 5

abbrev pub decreases-put_item : goal.decreases-put_item
decreases-put_item l = 4 * l.depth + 4

abbrev pub decreases-fields_of : goal.decreases-fields_of
decreases-fields_of l = 4 * l.depth + 5

abbrev pub decreases-pair_of : goal.decreases-pair_of
decreases-pair_of l = 4 * l.depth + 4

-- the values read so far and those owed are all of them
abbrev pub invariant-items_of-loop-owed : goal.invariant-items_of-loop-owed
invariant-items_of-loop-owed l = record {
  within : l.at ≤ length l.bytes;
  fits : l.at + l.owed ≤ l.limit;
  so_far : behind (contents l.items.items) (owed_at l.depth l.limit l.bytes l.owed l.at) ≡ owed_at l.depth l.limit l.bytes l.count l.start;
}

abbrev pub decreases-items_of-loop-owed : goal.decreases-items_of-loop-owed
decreases-items_of-loop-owed l = l.owed

abbrev pub invariant-fields_of-loop-owed : goal.invariant-fields_of-loop-owed
invariant-fields_of-loop-owed l = record {
  within : l.at ≤ length l.bytes;
  fits : l.at + 2 * l.owed ≤ l.limit;
  so_far : behind (pair_contents l.fields.items) (owed_at l.depth l.limit l.bytes (2 * l.owed) l.at) ≡ owed_at l.depth l.limit l.bytes (2 * l.count) l.start;
}

abbrev pub decreases-fields_of-loop-owed : goal.decreases-fields_of-loop-owed
decreases-fields_of-loop-owed l = l.owed
