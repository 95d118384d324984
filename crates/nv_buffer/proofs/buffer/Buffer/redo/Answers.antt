use Rattle.nv_buffer.proofs.Going.{way_none, way_to_child}
use Rattle.nv_buffer.proofs.buffer.Buffer.redo.Goals as goal

pub walk-requires-clause-way : goal.walk-requires-clause-way
walk-requires-clause-way c = way_none c.seal.new.self.undo c.as_slice.result.now c.as_slice.ensures

pub walk-requires-in-Some-clause-way : goal.walk-requires-in-Some-clause-way
walk-requires-in-Some-clause-way c =
    way_to_child c.seal.new.self.undo _ c.as_slice-in-Some.result.now c.as_slice-in-Some.ensures c.in-Some.ensures.child
