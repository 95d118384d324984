use Rattle.std.proofs.Common.{arith}
use Rattle.nv_undo.proofs.NumberLemmas.{child_read}
use Rattle.nv_undo.proofs.tree.UndoTree.child.Goals as goal

pub returns-else-child-eq0-clause-child : goal.returns-else-child-eq0-clause-child
returns-else-child-eq0-clause-child g c =
    let fields = c.self.inside in
    rw (← c.self.view_is) (
    c.self.invariant.child fields.current c.index-child.result.now
    (child_read fields.entered.items fields.current c.index-child.result.now (omega (arith, c.self.invariant.counted, c.self.invariant.within)) c.index-child.ensures (omega arith))
    )
