use Rattle.std.proofs.Common.{subst, arith}
use Rattle.std.proofs.lemmas.Int.{ints}
use Rattle.nv_buffer.specs.Splices.{IsBufferText}
use Rattle.nv_buffer.specs.Content.{Content}
use Rattle.nv_buffer.specs.Steps.{IsBuffer}
use Rattle.nv_buffer.proofs.Keeping.{text_of_buffer}
use Rattle.nv_buffer.proofs.buffer.Buffer.known.Goals as goal

pub returns-clause-buffer : goal.returns-clause-buffer
returns-clause-buffer c = subst (λ (b : Content). IsBuffer b.text b.tick b.undo b.unsealed) c.self.view_is c.self.invariant.3

pub returns-clause-small : goal.returns-clause-small
returns-clause-small c =
    let counted = (subst (λ (b : Content). IsBuffer b.text b.tick b.undo b.unsealed) c.self.view_is c.self.invariant.3).counted in
    omega (arith, ints, counted, c.tick-tick.ensures, c.tick-tick.type_inv)

pub returns-clause-text : goal.returns-clause-text
returns-clause-text c =
    let is = subst (λ (b : Content). IsBuffer b.text b.tick b.undo b.unsealed) c.self.view_is c.self.invariant.3 in
    text_of_buffer c.args.self.now.text c.args.self.now.tick c.args.self.now.undo c.args.self.now.unsealed is
