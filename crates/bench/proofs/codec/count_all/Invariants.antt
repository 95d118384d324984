-- The place is within the bytes.
use Rattle.std.proofs.Common.{◌≤◌, length}
use Rattle.bench.proofs.codec.count_all.Given as goal

abbrev pub invariant-loop-count : goal.invariant-loop-count
invariant-loop-count l = l.at ≤ length l.bytes
