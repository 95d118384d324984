use Rattle.std.proofs.Common.{refl}
use Rattle.nv_watch.proofs.Checked.{none_checked}
use Rattle.nv_watch.proofs.mark_check.MarkCheck.new.Goals as goal

pub returns : goal.returns
returns c = (refl, none_checked _ _ c.new.ensures.items c.new-2.ensures.items)
