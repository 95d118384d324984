use Rattle.std.proofs.Common.{ap, subst, arith}
use Rattle.nv_buffer.specs.Content.{Content}
use Rattle.nv_buffer.specs.Steps.{IsBuffer}
use Rattle.nv_buffer.proofs.buffer.Buffer.undone.Goals as goal

pub returns-clause-within : goal.returns-clause-within
returns-clause-within c =
    let is = subst (λ (b : Content). IsBuffer b.text b.tick b.undo b.unsealed) c.self.view_is c.self.invariant.3 in
    let seen = ap (λ (b : Content). b.undo.current) c.self.view_is in
    let within = is.tree.within in
    omega (arith, c.current.ensures.number, seen, within)
