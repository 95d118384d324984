use Rattle.std.proofs.Common.{arith}
use Rattle.nv_undo.proofs.tree.UndoTree.next.Goals as goal

pub returns : goal.returns
returns g c = rw (← c.self.view_is) (omega (arith, c.len.ensures, c.self.invariant.counted))
