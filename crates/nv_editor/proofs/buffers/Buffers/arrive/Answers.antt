use Rattle.std.proofs.Common.{◌≡◌, refl, ap, rules}
use Rattle.nv_buffer.specs.Content.{Content}
use Rattle.nv_editor.proofs.NamesKept.{numbers_stay}
use Rattle.nv_editor.proofs.Putting.{IsPut, put_here, put_updated, done_in, needed, looked_up_by, not_there}
use Rattle.std.specs.Prelude.{[], true}
use Rattle.nv_buffer.specs.Changes.{text_at}
use Rattle.nv_undo.specs.Tree.{tree_after_leg}
use Rattle.nv_undo.specs.Ways.{IsNext}
use Rattle.nv_editor.proofs.buffers.Buffers.arrive.Goals as goal

pub unreachable-requires : goal.unreachable-requires
unreachable-requires c =
    not_there c.self.inside.items.entries c.args.self.now c.args.handle c.self.view_is (search rules) c.in_default.ensures.value c.requires.there

pub arrive-requires-clause-next : goal.arrive-requires-clause-next
arrive-requires-clause-next c =
    let was = looked_up_by _ _ c.args.handle _ c.self.view_is (search rules) c.in-Some.ensures.value in
    needed c.args.self.now c.args.handle _ was (λ (b : Content). IsNext b.undo c.args.leg) c.requires.next

pub arrive-requires-clause-text : goal.arrive-requires-clause-text
arrive-requires-clause-text c =
    let was = looked_up_by _ _ c.args.handle _ c.self.view_is (search rules) c.in-Some.ensures.value in
    needed c.args.self.now c.args.handle _ was (λ (b : Content). b.text ≡ text_at b.undo (tree_after_leg c.args.leg b.undo).current) c.requires.text

pub invariant_of-self : goal.invariant_of-self
invariant_of-self c =
    let is : IsPut c.self.inside.items.entries (c.get_mut.follows.lender c.arrive.new.self).entries c.args.handle c.in-Some.buffer.now c.arrive.new.self =
    put_here _ _ _ c.args.handle _ _ refl (search rules) c.in-Some.ensures.value (c.get_mut.follows.holds c.arrive.new.self).0 in
    numbers_stay _ _ _ _ _ _ is (ap (λ (b : Content). b.name) c.arrive.ensures) c.self.invariant

pub returns-clause-updated : goal.returns-clause-updated
returns-clause-updated c =
    let is : IsPut c.args.self.now (c.get_mut.follows.lender c.arrive.new.self).entries c.args.handle c.in-Some.buffer.now c.arrive.new.self =
    put_here _ _ _ c.args.handle _ _ c.self.view_is (search rules) c.in-Some.ensures.value (c.get_mut.follows.holds c.arrive.new.self).0 in
    put_updated _ _ _ _ _ is

pub returns-clause-buffer : goal.returns-clause-buffer
returns-clause-buffer c =
    let is : IsPut c.args.self.now (c.get_mut.follows.lender c.arrive.new.self).entries c.args.handle c.in-Some.buffer.now c.arrive.new.self =
    put_here _ _ _ c.args.handle _ _ c.self.view_is (search rules) c.in-Some.ensures.value (c.get_mut.follows.holds c.arrive.new.self).0 in
    done_in _ _ _ _ _ is (λ (b d : Content). d ≡ record b { modified = true; undo = tree_after_leg c.args.leg b.undo; unsealed = [] }) c.arrive.ensures
