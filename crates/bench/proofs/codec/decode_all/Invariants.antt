-- The place is within the bytes, and each value so far has a spelling.
use Rattle.std.proofs.Common.{◌≤◌, length}
use Rattle.nv_value.specs.View.{contents}
use Rattle.nv_msgpack.specs.Shortest.{HaveSpellings}
use Rattle.bench.proofs.codec.decode_all.Given as goal

abbrev pub invariant-loop : goal.invariant-loop
invariant-loop l = record {
  within : l.at ≤ length l.bytes;
  spelled : HaveSpellings (contents l.values.items);
}
