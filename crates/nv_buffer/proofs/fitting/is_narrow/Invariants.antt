use Rattle.std.proofs.Common.{take, All}
use Rattle.nv_buffer.specs.Splices.{IsNarrowLine}
use Rattle.nv_buffer.proofs.fitting.is_narrow.Given as goal

abbrev pub invariant-loop-place : goal.invariant-loop-place
invariant-loop-place l = All IsNarrowLine (take l.place l.lines)
