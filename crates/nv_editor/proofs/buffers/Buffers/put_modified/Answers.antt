use Rattle.std.proofs.Common.{◌≡◌, refl, ap, rules}
use Rattle.nv_buffer.specs.Content.{Content}
use Rattle.nv_editor.proofs.NamesKept.{numbers_stay}
use Rattle.nv_editor.proofs.Putting.{IsPut, put_here, put_updated, done_in, not_there}
use Rattle.nv_editor.proofs.buffers.Buffers.put_modified.Goals as goal

pub unreachable-requires : goal.unreachable-requires
unreachable-requires c =
    not_there c.self.inside.items.entries c.args.self.now c.args.handle c.self.view_is (search rules) c.in_default.ensures.value c.requires.there

pub invariant_of-self : goal.invariant_of-self
invariant_of-self c =
    let is : IsPut c.self.inside.items.entries (c.get_mut.follows.lender c.put_modified.new.self).entries c.args.handle c.in-Some.buffer.now c.put_modified.new.self =
    put_here _ _ _ c.args.handle _ _ refl (search rules) c.in-Some.ensures.value (c.get_mut.follows.holds c.put_modified.new.self).0 in
    numbers_stay _ _ _ _ _ _ is (ap (λ (b : Content). b.name) c.put_modified.ensures) c.self.invariant

pub returns-clause-updated : goal.returns-clause-updated
returns-clause-updated c =
    let is : IsPut c.args.self.now (c.get_mut.follows.lender c.put_modified.new.self).entries c.args.handle c.in-Some.buffer.now c.put_modified.new.self =
    put_here _ _ _ c.args.handle _ _ c.self.view_is (search rules) c.in-Some.ensures.value (c.get_mut.follows.holds c.put_modified.new.self).0 in
    put_updated _ _ _ _ _ is

pub returns-clause-buffer : goal.returns-clause-buffer
returns-clause-buffer c =
    let is : IsPut c.args.self.now (c.get_mut.follows.lender c.put_modified.new.self).entries c.args.handle c.in-Some.buffer.now c.put_modified.new.self =
    put_here _ _ _ c.args.handle _ _ c.self.view_is (search rules) c.in-Some.ensures.value (c.get_mut.follows.holds c.put_modified.new.self).0 in
    done_in _ _ _ _ _ is (λ (b d : Content). d ≡ record b { modified = c.args.on }) c.put_modified.ensures
