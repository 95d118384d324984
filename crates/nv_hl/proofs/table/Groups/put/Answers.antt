use Rattle.std.proofs.Common.{length, sym, subst}
use Rattle.nv_hl.specs.Groups.{AreSound, HasGroup, LinksWithin}
use Rattle.nv_hl.proofs.GroupLemmas.{sound-with_group}
use Rattle.nv_hl.proofs.StoredLemmas.{index-with_group}
use Rattle.nv_hl.proofs.table.Groups.put.Goals as goal

pub invariant_of-self : goal.invariant_of-self
invariant_of-self c =
    let gs = c.self.inside.entries.items in
    let there = subst (λ xs. HasGroup xs c.args.id) (sym c.self.view_is) c.requires.there in
    let linked = subst (λ xs. LinksWithin (length xs) c.args.group) (sym c.self.view_is) c.requires.linked in (
      subst AreSound (sym c.set.ensures) (sound-with_group gs c.args.id c.args.group c.self.invariant.0 there.0 linked),
      index-with_group c.self.inside.index gs c.set.new.entries.items c.args.id c.args.group there c.set.ensures c.self.invariant.1,
    )
