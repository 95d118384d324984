use Rattle.std.proofs.Common.{◌≡◌, refl, ap, rules, ℤ, ◌<◌, ◌+◌}
use Rattle.nv_buffer.specs.Content.{Content, after_edit, event_at}
use Rattle.nv_editor.proofs.NamesKept.{numbers_stay}
use Rattle.nv_editor.proofs.Putting.{IsPut, put_here, put_updated, done_in, needed, looked_up_by, not_there, either, on_ok, on_err}
use Rattle.std.specs.Prelude.{◌<ℤ◌, ◌+ℤ◌, pos, IfOk, OnOk, OnErr}
use Rattle.nv_buffer.specs.Changes.{Fits}
use Rattle.nv_editor.proofs.buffers.Buffers.put_edit.Goals as goal

pub unreachable-requires : goal.unreachable-requires
unreachable-requires c =
    not_there c.self.inside.items.entries c.args.self.now c.args.handle c.self.view_is (search rules) c.in_default.ensures.value c.requires.there

pub put_edit-requires-clause-fits : goal.put_edit-requires-clause-fits
put_edit-requires-clause-fits c =
    let was = looked_up_by _ _ c.args.handle _ c.self.view_is (search rules) c.in-Some.ensures.value in
    needed c.args.self.now c.args.handle _ was (λ (b : Content). Fits b.text c.args.edit) c.requires.fits

pub put_edit-requires-clause-tick : goal.put_edit-requires-clause-tick
put_edit-requires-clause-tick c =
    let was = looked_up_by _ _ c.args.handle _ c.self.view_is (search rules) c.in-Some.ensures.value in
    needed c.args.self.now c.args.handle _ was (λ (b : Content). b.tick <ℤ pos 9223372036854775807) c.requires.tick

pub invariant_of-self : goal.invariant_of-self
invariant_of-self c =
    let is : IsPut c.self.inside.items.entries (c.get_mut.follows.lender c.put_edit.new.self).entries c.args.handle c.in-Some.buffer.now c.put_edit.new.self =
    put_here _ _ _ c.args.handle _ _ refl (search rules) c.in-Some.ensures.value (c.get_mut.follows.holds c.put_edit.new.self).0 in
    numbers_stay _ _ _ _ _ _ is (either c.put_edit.result _ (on_ok c.put_edit.result _ _ (ap (λ (b : Content). b.name)) c.put_edit.ensures.ok) (on_err c.put_edit.result _ _ (ap (λ (b : Content). b.name)) c.put_edit.ensures.err)) c.self.invariant

pub returns-clause-updated : goal.returns-clause-updated
returns-clause-updated c =
    let is : IsPut c.args.self.now (c.get_mut.follows.lender c.put_edit.new.self).entries c.args.handle c.in-Some.buffer.now c.put_edit.new.self =
    put_here _ _ _ c.args.handle _ _ c.self.view_is (search rules) c.in-Some.ensures.value (c.get_mut.follows.holds c.put_edit.new.self).0 in
    put_updated _ _ _ _ _ is

pub returns-clause-ok : goal.returns-clause-ok
returns-clause-ok c =
    let is : IsPut c.args.self.now (c.get_mut.follows.lender c.put_edit.new.self).entries c.args.handle c.in-Some.buffer.now c.put_edit.new.self =
    put_here _ _ _ c.args.handle _ _ c.self.view_is (search rules) c.in-Some.ensures.value (c.get_mut.follows.holds c.put_edit.new.self).0 in
    done_in _ _ _ _ _ is (λ (b d : Content). OnOk c.put_edit.result (d ≡ after_edit b c.args.edit)) c.put_edit.ensures.ok

pub returns-clause-told : goal.returns-clause-told
returns-clause-told c =
    let is : IsPut c.args.self.now (c.get_mut.follows.lender c.put_edit.new.self).entries c.args.handle c.in-Some.buffer.now c.put_edit.new.self =
    put_here _ _ _ c.args.handle _ _ c.self.view_is (search rules) c.in-Some.ensures.value (c.get_mut.follows.holds c.put_edit.new.self).0 in
    done_in _ _ _ _ _ is (λ (b d : Content). IfOk c.put_edit.result (λ event. event ≡ event_at (b.tick +ℤ pos 1) c.args.edit)) c.put_edit.ensures.told

pub returns-clause-err : goal.returns-clause-err
returns-clause-err c =
    let is : IsPut c.args.self.now (c.get_mut.follows.lender c.put_edit.new.self).entries c.args.handle c.in-Some.buffer.now c.put_edit.new.self =
    put_here _ _ _ c.args.handle _ _ c.self.view_is (search rules) c.in-Some.ensures.value (c.get_mut.follows.holds c.put_edit.new.self).0 in
    done_in _ _ _ _ _ is (λ (b d : Content). OnErr c.put_edit.result (d ≡ b)) c.put_edit.ensures.err
