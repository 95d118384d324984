use Rattle.std.proofs.Common.{sym, subst}
use Rattle.nv_hl.specs.Groups.{AreSound}
use Rattle.nv_hl.proofs.GroupLemmas.{sound-nothing}
use Rattle.nv_hl.proofs.StoredLemmas.{index-empty}
use Rattle.nv_hl.proofs.table.Groups.none.Goals as goal

pub invariant_of-result : goal.invariant_of-result
invariant_of-result c =
    (subst AreSound (sym c.new-2.ensures.items) sound-nothing, index-empty c.new.result c.new-2.result.items c.new.ensures.empty c.new-2.ensures.items)
