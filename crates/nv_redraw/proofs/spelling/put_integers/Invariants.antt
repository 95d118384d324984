-- What was written, with the values to come, is all.
use Rattle.std.proofs.Common.{◌≡◌, ◌++◌, map, drop}
use Rattle.nv_value.specs.Content.{trees_of, integer}
use Rattle.nv_msgpack.specs.Shortest.{all_shortest, BeginsAs}
use Rattle.nv_redraw.proofs.spelling.put_integers.Given as goal

abbrev pub invariant-loop-number : goal.invariant-loop-number
invariant-loop-number l = record {
  kept : BeginsAs l.fn.into.items l.into.items;
  all : l.into.items ++ all_shortest (trees_of (map integer (drop l.number-index l.numbers)))
      ≡ l.fn.into.items ++ all_shortest (trees_of (map integer l.numbers));
}
