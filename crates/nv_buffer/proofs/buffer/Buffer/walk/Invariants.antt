use Rattle.nv_buffer.proofs.Going.{Walking}
use Rattle.nv_buffer.proofs.buffer.Buffer.walk.Given as goal

abbrev pub invariant-loop-leg : goal.invariant-loop-leg
invariant-loop-leg l = Walking l.initial.self l.legs l.self l.events.items l.leg-index
