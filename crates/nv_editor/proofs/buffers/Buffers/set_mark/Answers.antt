use Rattle.std.proofs.Common.{◌≡◌, refl, ap, rules}
use Rattle.nv_buffer.specs.Content.{Content}
use Rattle.nv_editor.proofs.NamesKept.{numbers_stay}
use Rattle.nv_editor.proofs.Putting.{IsPut, put_here, put_updated, done_in, needed, looked_up_by, not_there}
use Rattle.std.specs.Prelude.{OnOk, OnErr}
use Rattle.nv_buffer.specs.Marks.{IsMarkIn, IsMarked}
use Rattle.nv_editor.proofs.buffers.Buffers.set_mark.Goals as goal

pub unreachable-requires : goal.unreachable-requires
unreachable-requires c =
    not_there c.self.inside.items.entries c.args.self.now c.args.handle c.self.view_is (search rules) c.in_default.ensures.value c.requires.there

pub set_mark-requires : goal.set_mark-requires
set_mark-requires c =
    let was = looked_up_by _ _ c.args.handle _ c.self.view_is (search rules) c.in-Some.ensures.value in
    record { places = needed c.args.self.now c.args.handle _ was (λ (b : Content). IsMarkIn b.text c.args.mark) c.requires.places }

pub invariant_of-self : goal.invariant_of-self
invariant_of-self c =
    let is : IsPut c.self.inside.items.entries (c.get_mut.follows.lender c.set_mark.new.self).entries c.args.handle c.in-Some.buffer.now c.set_mark.new.self =
    put_here _ _ _ c.args.handle _ _ refl (search rules) c.in-Some.ensures.value (c.get_mut.follows.holds c.set_mark.new.self).0 in
    numbers_stay _ _ _ _ _ _ is (ap (λ (b : Content). b.name) c.set_mark.ensures.rest) c.self.invariant

pub returns-clause-updated : goal.returns-clause-updated
returns-clause-updated c =
    let is : IsPut c.args.self.now (c.get_mut.follows.lender c.set_mark.new.self).entries c.args.handle c.in-Some.buffer.now c.set_mark.new.self =
    put_here _ _ _ c.args.handle _ _ c.self.view_is (search rules) c.in-Some.ensures.value (c.get_mut.follows.holds c.set_mark.new.self).0 in
    put_updated _ _ _ _ _ is

pub returns-clause-marks : goal.returns-clause-marks
returns-clause-marks c =
    let is : IsPut c.args.self.now (c.get_mut.follows.lender c.set_mark.new.self).entries c.args.handle c.in-Some.buffer.now c.set_mark.new.self =
    put_here _ _ _ c.args.handle _ _ c.self.view_is (search rules) c.in-Some.ensures.value (c.get_mut.follows.holds c.set_mark.new.self).0 in
    done_in _ _ _ _ _ is (λ (b d : Content). OnOk c.set_mark.result (IsMarked b.marks d.marks c.args.mark)) c.set_mark.ensures.marks

pub returns-clause-rest : goal.returns-clause-rest
returns-clause-rest c =
    let is : IsPut c.args.self.now (c.get_mut.follows.lender c.set_mark.new.self).entries c.args.handle c.in-Some.buffer.now c.set_mark.new.self =
    put_here _ _ _ c.args.handle _ _ c.self.view_is (search rules) c.in-Some.ensures.value (c.get_mut.follows.holds c.set_mark.new.self).0 in
    done_in _ _ _ _ _ is (λ (b d : Content). d ≡ record b { marks = d.marks }) c.set_mark.ensures.rest

pub returns-clause-err : goal.returns-clause-err
returns-clause-err c =
    let is : IsPut c.args.self.now (c.get_mut.follows.lender c.set_mark.new.self).entries c.args.handle c.in-Some.buffer.now c.set_mark.new.self =
    put_here _ _ _ c.args.handle _ _ c.self.view_is (search rules) c.in-Some.ensures.value (c.get_mut.follows.holds c.set_mark.new.self).0 in
    done_in _ _ _ _ _ is (λ (b d : Content). OnErr c.set_mark.result (d ≡ b)) c.set_mark.ensures.err
