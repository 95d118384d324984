use Rattle.std.proofs.Common.{ap}
use Rattle.nv_buffer.specs.Content.{Content}
use Rattle.nv_buffer.proofs.Placing.{set_places}
use Rattle.nv_buffer.proofs.buffer.Buffer.set_mark.Goals as goal

pub invariant_of-self : goal.invariant_of-self
invariant_of-self c =
    let inside = c.self.inside in
    let places =
    set_places c.set.result inside.text c.args.self.now.text c.args.mark inside.marks c.set.new.self (ap (λ (b : Content). b.text) c.self.view_is)
    c.requires.places c.self.invariant.5 c.set.ensures.marks c.set.ensures.err in
    (c.self.invariant.0, c.self.invariant.1, c.self.invariant.2, c.self.invariant.3, c.self.invariant.4, places)
