use Rattle.nv_buffer.proofs.Placing.{cleared_places}
use Rattle.nv_buffer.proofs.buffer.Buffer.clear_marks.Goals as goal

pub invariant_of-self : goal.invariant_of-self
invariant_of-self c =
    let inside = c.self.inside in
    let places =
    cleared_places c.clear.result inside.text c.args.ns c.args.from c.args.to inside.marks c.clear.new.self c.self.invariant.5
    c.clear.ensures.marks c.clear.ensures.err in
    (c.self.invariant.0, c.self.invariant.1, c.self.invariant.2, c.self.invariant.3, c.self.invariant.4, places)
