use Rattle.std.proofs.Common.{arith}
use Rattle.nv_buffer.proofs.Going.{way_to_parent}
use Rattle.nv_buffer.proofs.buffer.Buffer.undo.Goals as goal

pub walk-requires-in_default-clause-way : goal.walk-requires-in_default-clause-way
walk-requires-in_default-clause-way c =
    way_to_parent c.seal.new.self.undo _ c.as_slice-in_default.result.now c.as_slice-in_default.ensures c.undone.ensures.value (omega arith) c.undone.ensures.within
