use Rattle.std.proofs.Common.{◌≡◌, refl, rules}
use Rattle.nv_buffer.specs.Content.{Content}
use Rattle.nv_editor.proofs.NamesKept.{numbers_stay}
use Rattle.nv_editor.proofs.MarksDone.{name_stays}
use Rattle.nv_editor.proofs.Putting.{IsPut, put_here, put_updated, done_in, not_there}
use Rattle.std.specs.Prelude.{OnOk, OnErr}
use Rattle.nv_buffer.specs.Marks.{marks_cleared}
use Rattle.nv_editor.proofs.buffers.Buffers.clear_marks.Goals as goal

pub unreachable-requires : goal.unreachable-requires
unreachable-requires c =
    not_there c.self.inside.items.entries c.args.self.now c.args.handle c.self.view_is (search rules) c.in_default.ensures.value c.requires.there

pub invariant_of-self : goal.invariant_of-self
invariant_of-self c =
    let is : IsPut c.self.inside.items.entries (c.get_mut.follows.lender c.clear_marks.new.self).entries c.args.handle c.in-Some.buffer.now c.clear_marks.new.self =
    put_here _ _ _ c.args.handle _ _ refl (search rules) c.in-Some.ensures.value (c.get_mut.follows.holds c.clear_marks.new.self).0 in
    numbers_stay _ _ _ _ _ _ is (name_stays c.clear_marks.result c.args.ns c.args.from c.args.to c.in-Some.buffer.now c.clear_marks.new.self c.clear_marks.ensures.ok c.clear_marks.ensures.err) c.self.invariant

pub returns-clause-updated : goal.returns-clause-updated
returns-clause-updated c =
    let is : IsPut c.args.self.now (c.get_mut.follows.lender c.clear_marks.new.self).entries c.args.handle c.in-Some.buffer.now c.clear_marks.new.self =
    put_here _ _ _ c.args.handle _ _ c.self.view_is (search rules) c.in-Some.ensures.value (c.get_mut.follows.holds c.clear_marks.new.self).0 in
    put_updated _ _ _ _ _ is

pub returns-clause-ok : goal.returns-clause-ok
returns-clause-ok c =
    let is : IsPut c.args.self.now (c.get_mut.follows.lender c.clear_marks.new.self).entries c.args.handle c.in-Some.buffer.now c.clear_marks.new.self =
    put_here _ _ _ c.args.handle _ _ c.self.view_is (search rules) c.in-Some.ensures.value (c.get_mut.follows.holds c.clear_marks.new.self).0 in
    done_in _ _ _ _ _ is (λ (b d : Content). OnOk c.clear_marks.result (d ≡ record b { marks = marks_cleared c.args.ns c.args.from c.args.to b.marks })) c.clear_marks.ensures.ok

pub returns-clause-err : goal.returns-clause-err
returns-clause-err c =
    let is : IsPut c.args.self.now (c.get_mut.follows.lender c.clear_marks.new.self).entries c.args.handle c.in-Some.buffer.now c.clear_marks.new.self =
    put_here _ _ _ c.args.handle _ _ c.self.view_is (search rules) c.in-Some.ensures.value (c.get_mut.follows.holds c.clear_marks.new.self).0 in
    done_in _ _ _ _ _ is (λ (b d : Content). OnErr c.clear_marks.result (d ≡ b)) c.clear_marks.ensures.err
