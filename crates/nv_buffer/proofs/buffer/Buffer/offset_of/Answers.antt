use Rattle.std.proofs.Common.{ap, arith}
use Rattle.nv_buffer.specs.Content.{Content}
use Rattle.nv_buffer.proofs.Measures.{place_fits}
use Rattle.nv_buffer.proofs.buffer.Buffer.offset_of.Goals as goal

pub overflow_add-result : goal.overflow_add-result
overflow_add-result c =
    let same = ap (λ (b : Content). b.text) c.self.view_is in
    omega (arith, c.offset.ensures, place_fits c.self.inside.text c.args.self.now.text c.args.place same c.self.invariant.0 c.requires)
