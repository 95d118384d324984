use Rattle.nv_stream.specs.inside.Scanning.{IsPlace, left_to_do}
use Rattle.nv_stream.proofs.scan.Scan.waits.Given as goal

abbrev pub invariant-loop : goal.invariant-loop
invariant-loop l = IsPlace l.bounds.depth l.bounds.bytes l.bytes l.self

abbrev pub decreases-loop : goal.decreases-loop
decreases-loop l = left_to_do l.bytes l.self
