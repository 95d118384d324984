use Rattle.std.proofs.Common.{◌≡◌, refl, ap, rules}
use Rattle.nv_buffer.specs.Content.{Content, after_seal}
use Rattle.nv_buffer.specs.Steps.{IsBuffer}
use Rattle.nv_editor.proofs.NamesKept.{numbers_stay, seal_name}
use Rattle.nv_editor.proofs.Putting.{IsPut, put_here, put_updated, done_in, not_there, either, on_ok, on_err}
use Rattle.std.specs.Prelude.{[], OnOk, OnErr}
use Rattle.nv_editor.proofs.buffers.Buffers.seal.Goals as goal

pub unreachable-requires : goal.unreachable-requires
unreachable-requires c =
    not_there c.self.inside.items.entries c.args.self.now c.args.handle c.self.view_is (search rules) c.in_default.ensures.value c.requires.there

pub invariant_of-self : goal.invariant_of-self
invariant_of-self c =
    let is : IsPut c.self.inside.items.entries (c.get_mut.follows.lender c.seal.new.self).entries c.args.handle c.in-Some.buffer.now c.seal.new.self =
    put_here _ _ _ c.args.handle _ _ refl (search rules) c.in-Some.ensures.value (c.get_mut.follows.holds c.seal.new.self).0 in
    numbers_stay _ _ _ _ _ _ is (either c.seal.result _ (on_ok c.seal.result _ _ (seal_name c.in-Some.buffer.now c.seal.new.self) c.seal.ensures.ok) (on_err c.seal.result _ _ (ap (λ (b : Content). b.name)) c.seal.ensures.err)) c.self.invariant

pub returns-clause-updated : goal.returns-clause-updated
returns-clause-updated c =
    let is : IsPut c.args.self.now (c.get_mut.follows.lender c.seal.new.self).entries c.args.handle c.in-Some.buffer.now c.seal.new.self =
    put_here _ _ _ c.args.handle _ _ c.self.view_is (search rules) c.in-Some.ensures.value (c.get_mut.follows.holds c.seal.new.self).0 in
    put_updated _ _ _ _ _ is

pub returns-clause-ok : goal.returns-clause-ok
returns-clause-ok c =
    let is : IsPut c.args.self.now (c.get_mut.follows.lender c.seal.new.self).entries c.args.handle c.in-Some.buffer.now c.seal.new.self =
    put_here _ _ _ c.args.handle _ _ c.self.view_is (search rules) c.in-Some.ensures.value (c.get_mut.follows.holds c.seal.new.self).0 in
    done_in _ _ _ _ _ is (λ (b d : Content). OnOk c.seal.result (d ≡ after_seal b)) c.seal.ensures.ok

pub returns-clause-sealed : goal.returns-clause-sealed
returns-clause-sealed c =
    let is : IsPut c.args.self.now (c.get_mut.follows.lender c.seal.new.self).entries c.args.handle c.in-Some.buffer.now c.seal.new.self =
    put_here _ _ _ c.args.handle _ _ c.self.view_is (search rules) c.in-Some.ensures.value (c.get_mut.follows.holds c.seal.new.self).0 in
    done_in _ _ _ _ _ is (λ (b d : Content). OnOk c.seal.result (d.unsealed ≡ [])) c.seal.ensures.sealed

pub returns-clause-err : goal.returns-clause-err
returns-clause-err c =
    let is : IsPut c.args.self.now (c.get_mut.follows.lender c.seal.new.self).entries c.args.handle c.in-Some.buffer.now c.seal.new.self =
    put_here _ _ _ c.args.handle _ _ c.self.view_is (search rules) c.in-Some.ensures.value (c.get_mut.follows.holds c.seal.new.self).0 in
    done_in _ _ _ _ _ is (λ (b d : Content). OnErr c.seal.result (d ≡ b)) c.seal.ensures.err

pub returns-clause-known : goal.returns-clause-known
returns-clause-known c =
    let is : IsPut c.args.self.now (c.get_mut.follows.lender c.seal.new.self).entries c.args.handle c.in-Some.buffer.now c.seal.new.self =
    put_here _ _ _ c.args.handle _ _ c.self.view_is (search rules) c.in-Some.ensures.value (c.get_mut.follows.holds c.seal.new.self).0 in
    done_in _ _ _ _ _ is (λ (b d : Content). IsBuffer b.text b.tick b.undo b.unsealed) c.known.ensures.buffer
