-- The values so far, and those of the bytes that are left, are all.
use Rattle.std.proofs.Common.{◌≤◌, ◌-◌, map, drop, length}
use Rattle.nv_value.specs.View.{content}
use Rattle.nv_watch.specs.SentParts.{values_read}
use Rattle.nv_watch.proofs.Readings.{Goes}
use Rattle.nv_watch.proofs.reading.values_of.Given as goal

abbrev pub invariant-loop : goal.invariant-loop
invariant-loop l = record {
  goes : Goes (map content l.values.items) (length l.bytes - l.counter) (drop l.taken l.bytes) (values_read l.bytes);
  within : l.taken ≤ length l.bytes;
}
