use Rattle.std.proofs.Common.{rules}
use Rattle.nv_undo.specs.Tree.{tree_of}
use Rattle.nv_undo.proofs.StepLemmas.{pushed_stays}
use Rattle.nv_undo.proofs.tree.UndoTree.push.Goals as goal

pub invariant_of-self-2 : goal.invariant_of-self-2
invariant_of-self-2 g c =
    let fields = c.self.inside in
    pushed_stays c.args.change (tree_of fields.changes.items fields.current fields.entered.items)
    c.push_reserved.new.self.items c.len-number.result c.push_reserved-2.new.self.items c.self.invariant
    (search rules) (search rules) (search rules)
