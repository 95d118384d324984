use Rattle.std.proofs.Common.{ap, sym, option_map}
use Rattle.nv_undo.proofs.tree.UndoTree.parent.Goals as goal

pub returns-clause-below : goal.returns-clause-below
returns-clause-below g c =
    c.in_ok-node.ensures.tree.below c.args.n _ (ap (option_map (λ node. node.0)) (sym c.in_ok-node.ensures.node))
