use Rattle.std.proofs.Common.{◌≡◌, refl, ap, sym, subst, ◌∙◌, rules, ℤ, List}
use Rattle.std.specs.Prelude.{OnOk, OnErr, is_some, Some, None}
use Rattle.std.specs.BTreeMap.{BTreeMap}
use Rattle.nv_undo.specs.Tree.{IsTree}
use Rattle.nv_buffer.specs.Content.{Content, after_seal}
use Rattle.nv_editor.specs.inside.Named.{AreNameCounts, number_named}
use Rattle.nv_editor.specs.inside.Sealing.{HasSameEntries, with_sealed}
use Rattle.nv_editor.proofs.NamesKept.{numbers_stay, seal_name}
use Rattle.nv_editor.proofs.Putting.{IsPut, put_here, put_updated, done_in, looked_up_by, not_there, either, on_ok, on_err}
use Rattle.nv_editor.proofs.Seals.{left_same, not_there_same, sealed_same}
use Rattle.nv_editor.proofs.buffers.Buffers.seal_there.Goals as goal

pub invariant_of-self-2 : goal.invariant_of-self-2
invariant_of-self-2 c =
    let is : IsPut c.self.inside.items.entries (c.get_mut.follows.lender c.seal.new.self).entries c.args.handle c.in-Some.buffer.now c.seal.new.self =
    put_here _ _ _ c.args.handle _ _ refl (search rules) c.in-Some.ensures.value (c.get_mut.follows.holds c.seal.new.self).0 in
    numbers_stay _ _ _ _ _ _ is (either c.seal.result _ (on_ok c.seal.result _ _ (seal_name c.in-Some.buffer.now c.seal.new.self) c.seal.ensures.ok) (on_err c.seal.result _ _ (ap (λ (b : Content). b.name)) c.seal.ensures.err)) c.self.invariant

pub returns-clause-ok : goal.returns-clause-ok
returns-clause-ok c =
    let is : IsPut c.args.self.now (c.get_mut.follows.lender c.seal.new.self).entries c.args.handle c.in-Some.buffer.now c.seal.new.self =
    put_here _ _ _ c.args.handle _ _ c.self.view_is (search rules) c.in-Some.ensures.value (c.get_mut.follows.holds c.seal.new.self).0 in
    on_ok c.seal.result _ _ (sealed_same _ _ c.args.handle (put_updated _ _ _ _ _ is))
    (done_in _ _ _ _ _ is (λ (b d : Content). OnOk c.seal.result (d ≡ after_seal b)) c.seal.ensures.ok)

pub returns-clause-err : goal.returns-clause-err
returns-clause-err c =
    let is : IsPut c.args.self.now (c.get_mut.follows.lender c.seal.new.self).entries c.args.handle c.in-Some.buffer.now c.seal.new.self =
    put_here _ _ _ c.args.handle _ _ c.self.view_is (search rules) c.in-Some.ensures.value (c.get_mut.follows.holds c.seal.new.self).0 in
    on_err c.seal.result _ _ (left_same _ _ c.args.handle (put_updated _ _ _ _ _ is))
    (done_in _ _ _ _ _ is (λ (b d : Content). OnErr c.seal.result (d ≡ b)) c.seal.ensures.err)

pub returns-clause-tree : goal.returns-clause-tree
returns-clause-tree c there =
    let is : IsPut c.args.self.now (c.get_mut.follows.lender c.seal.new.self).entries c.args.handle c.in-Some.buffer.now c.seal.new.self =
    put_here _ _ _ c.args.handle _ _ c.self.view_is (search rules) c.in-Some.ensures.value (c.get_mut.follows.holds c.seal.new.self).0 in
    done_in _ _ _ _ _ is (λ (b d : Content). IsTree b.undo) c.known.ensures.buffer.tree

pub invariant_of-self : goal.invariant_of-self
invariant_of-self c =
    subst (λ (m : BTreeMap ℤ Content). AreNameCounts c.self.inside.names.counts (number_named m.entries))
    (sym c.get_mut.follows.holds-at-none) c.self.invariant

pub returns-in_default-clause-ok : goal.returns-in_default-clause-ok
returns-in_default-clause-ok c =
    let same : c.get_mut.follows.lender-at-none.entries ≡ c.args.self.now =
    ap (λ (m : BTreeMap ℤ Content). m.entries) c.get_mut.follows.holds-at-none ∙ c.self.view_is in
    subst (λ (es : List (ℤ × Content)). HasSameEntries es (with_sealed c.args.self.now c.args.handle)) (sym same)
    (not_there_same c.args.self.now c.args.handle
    (ap (λ o. is_some o) (looked_up_by _ _ c.args.handle None c.self.view_is (search rules) c.in_default.ensures.value)))

pub returns-in_default-clause-tree : goal.returns-in_default-clause-tree
returns-in_default-clause-tree c there =
    absurd (not_there c.self.inside.items.entries c.args.self.now c.args.handle c.self.view_is (search rules) c.in_default.ensures.value there)
