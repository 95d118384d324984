use Rattle.std.proofs.Common.{◌≡◌, refl, ap, rules}
use Rattle.nv_buffer.specs.Content.{Content}
use Rattle.nv_editor.proofs.NamesKept.{numbers_stay}
use Rattle.nv_editor.proofs.Putting.{IsPut, put_here, put_updated, done_in, not_there}
use Rattle.nv_buffer.specs.Marks.{IsUnmarked}
use Rattle.nv_marks.specs.Marks.{mark_at}
use Rattle.nv_editor.proofs.buffers.Buffers.remove_mark.Goals as goal

pub unreachable-requires : goal.unreachable-requires
unreachable-requires c =
    not_there c.self.inside.items.entries c.args.self.now c.args.handle c.self.view_is (search rules) c.in_default.ensures.value c.requires.there

pub invariant_of-self : goal.invariant_of-self
invariant_of-self c =
    let is : IsPut c.self.inside.items.entries (c.get_mut.follows.lender c.remove_mark.new.self).entries c.args.handle c.in-Some.buffer.now c.remove_mark.new.self =
    put_here _ _ _ c.args.handle _ _ refl (search rules) c.in-Some.ensures.value (c.get_mut.follows.holds c.remove_mark.new.self).0 in
    numbers_stay _ _ _ _ _ _ is (ap (λ (b : Content). b.name) c.remove_mark.ensures.rest) c.self.invariant

pub returns-clause-updated : goal.returns-clause-updated
returns-clause-updated c =
    let is : IsPut c.args.self.now (c.get_mut.follows.lender c.remove_mark.new.self).entries c.args.handle c.in-Some.buffer.now c.remove_mark.new.self =
    put_here _ _ _ c.args.handle _ _ c.self.view_is (search rules) c.in-Some.ensures.value (c.get_mut.follows.holds c.remove_mark.new.self).0 in
    put_updated _ _ _ _ _ is

pub returns-clause-taken : goal.returns-clause-taken
returns-clause-taken c =
    let is : IsPut c.args.self.now (c.get_mut.follows.lender c.remove_mark.new.self).entries c.args.handle c.in-Some.buffer.now c.remove_mark.new.self =
    put_here _ _ _ c.args.handle _ _ c.self.view_is (search rules) c.in-Some.ensures.value (c.get_mut.follows.holds c.remove_mark.new.self).0 in
    done_in _ _ _ _ _ is (λ (b d : Content). c.remove_mark.result ≡ mark_at b.marks.marks c.args.ns c.args.id) c.remove_mark.ensures.taken

pub returns-clause-marks : goal.returns-clause-marks
returns-clause-marks c =
    let is : IsPut c.args.self.now (c.get_mut.follows.lender c.remove_mark.new.self).entries c.args.handle c.in-Some.buffer.now c.remove_mark.new.self =
    put_here _ _ _ c.args.handle _ _ c.self.view_is (search rules) c.in-Some.ensures.value (c.get_mut.follows.holds c.remove_mark.new.self).0 in
    done_in _ _ _ _ _ is (λ (b d : Content). IsUnmarked b.marks d.marks c.args.ns c.args.id) c.remove_mark.ensures.marks

pub returns-clause-rest : goal.returns-clause-rest
returns-clause-rest c =
    let is : IsPut c.args.self.now (c.get_mut.follows.lender c.remove_mark.new.self).entries c.args.handle c.in-Some.buffer.now c.remove_mark.new.self =
    put_here _ _ _ c.args.handle _ _ c.self.view_is (search rules) c.in-Some.ensures.value (c.get_mut.follows.holds c.remove_mark.new.self).0 in
    done_in _ _ _ _ _ is (λ (b d : Content). d ≡ record b { marks = d.marks }) c.remove_mark.ensures.rest
