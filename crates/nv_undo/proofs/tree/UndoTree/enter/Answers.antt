use Rattle.nv_undo.specs.Tree.{tree_of}
use Rattle.nv_undo.proofs.StepLemmas.{entered_stays}
use Rattle.nv_undo.proofs.tree.UndoTree.enter.Goals as goal

pub invariant_of-self : goal.invariant_of-self
invariant_of-self g c =
    let fields = c.self.inside in
    entered_stays (tree_of fields.changes.items fields.current fields.entered.items) c.args.child c.self.invariant (rw (← c.self.view_is) at c.requires)
