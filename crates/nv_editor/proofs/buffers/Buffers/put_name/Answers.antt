use Rattle.std.proofs.Common.{◌≡◌, refl, ap, sym, subst, rules, ℕ, List}
use Rattle.nv_buffer.specs.Content.{Content}
use Rattle.nv_editor.specs.inside.Named.{AreNameCounts, number_named, with_one_of}
use Rattle.nv_editor.proofs.NamesKept.{numbers_after, numbers_before}
use Rattle.nv_editor.proofs.Putting.{IsPut, put_here, put_updated, done_in, not_there}
use Rattle.nv_editor.proofs.TakingOut.{but_at}
use Rattle.nv_editor.proofs.buffers.Buffers.put_name.Goals as goal

pub unreachable-requires : goal.unreachable-requires
unreachable-requires c =
    not_there c.self.inside.items.entries c.args.self.now c.args.handle c.self.view_is (search rules) c.in_default.ensures.value c.requires.there

pub invariant_of-self : goal.invariant_of-self
invariant_of-self c =
    let is : IsPut c.self.inside.items.entries (c.get_mut.follows.lender c.put_name.new.self).entries c.args.handle c.in-Some.buffer.now c.put_name.new.self =
    put_here _ _ _ c.args.handle _ _ refl (search rules) c.in-Some.ensures.value (c.get_mut.follows.holds c.put_name.new.self).0 in
    let others = number_named (but_at c.args.handle c.self.inside.items.entries) in
    let named : c.put_name.new.self.name ≡ c.args.name = ap (λ (b : Content). b.name) c.put_name.ensures in
    numbers_after _ _ _ _ _ _ is
    (subst (λ (l : List ℕ). AreNameCounts c.rename.new.names.counts (with_one_of l others)) (sym named)
    (c.rename.ensures others (numbers_before _ _ _ _ is.was c.self.invariant)))

pub returns-clause-updated : goal.returns-clause-updated
returns-clause-updated c =
    let is : IsPut c.args.self.now (c.get_mut.follows.lender c.put_name.new.self).entries c.args.handle c.in-Some.buffer.now c.put_name.new.self =
    put_here _ _ _ c.args.handle _ _ c.self.view_is (search rules) c.in-Some.ensures.value (c.get_mut.follows.holds c.put_name.new.self).0 in
    put_updated _ _ _ _ _ is

pub returns-clause-buffer : goal.returns-clause-buffer
returns-clause-buffer c =
    let is : IsPut c.args.self.now (c.get_mut.follows.lender c.put_name.new.self).entries c.args.handle c.in-Some.buffer.now c.put_name.new.self =
    put_here _ _ _ c.args.handle _ _ c.self.view_is (search rules) c.in-Some.ensures.value (c.get_mut.follows.holds c.put_name.new.self).0 in
    done_in _ _ _ _ _ is (λ (b d : Content). d ≡ record b { name = c.args.name }) c.put_name.ensures
