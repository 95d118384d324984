use Rattle.std.proofs.Common.{◌≡◌, refl, sym, subst}
use Rattle.nv_undo.specs.Tree.{tree_after_leg}
use Rattle.nv_buffer.specs.Changes.{text_at}
use Rattle.nv_buffer.specs.Content.{Content}
use Rattle.nv_undo.specs.Ways.{IsNext}
use Rattle.nv_buffer.proofs.TreeAhead.{next-behind, arrived_seen}
use Rattle.nv_buffer.proofs.LeadingBack.{leg_stands}
use Rattle.nv_buffer.proofs.buffer.Buffer.arrive.Goals as goal

pub go_leg-requires : goal.go_leg-requires
go_leg-requires c = next-behind c.self.inside.tree c.args.leg (subst (λ (b : Content). IsNext b.undo c.args.leg) (sym c.self.view_is) c.requires.next)

pub invariant_of-self : goal.invariant_of-self
invariant_of-self c =
    let next = subst (λ (b : Content). IsNext b.undo c.args.leg) (sym c.self.view_is) c.requires.next in
    let arrived = subst (λ (b : Content). b.text ≡ text_at b.undo (tree_after_leg c.args.leg b.undo).current) (sym c.self.view_is) c.requires.text in
    let made =
    leg_stands c.self.inside.text c.self.inside.tick c.self.inside.tree c.go_leg.new.tree c.self.inside.unsealed.items c.clear.new.self.items c.args.leg
    c.self.invariant.3 c.self.invariant.4 next arrived c.go_leg.ensures c.clear.ensures.items in
    (c.self.invariant.0, c.self.invariant.1, c.self.invariant.2, made.buffer, made.lead, c.self.invariant.5)

pub returns : goal.returns
returns c =
    arrived_seen _ c.args.self.now c.self.inside.tree c.go_leg.new.tree c.clear.new.self.items c.args.leg c.self.view_is refl c.go_leg.ensures
    c.clear.ensures.items
