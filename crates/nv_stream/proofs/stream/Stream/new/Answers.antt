use Rattle.std.proofs.Common.{arith}
use Rattle.nv_stream.proofs.Scans.{place_starts}
use Rattle.nv_stream.proofs.stream.Stream.new.Goals as goal

pub invariant_of-result : goal.invariant_of-result
invariant_of-result c = (c.requires, omega arith, omega arith, place_starts _ _ _ c.new-2.result c.requires c.new-2.ensures)
