use Rattle.std.proofs.Common.{ap, sym, option_map}
use Rattle.nv_undo.proofs.tree.UndoTree.parent_below.Goals as goal

pub returns-clause-below : goal.returns-clause-below
returns-clause-below g c =
    c.node.ensures.tree.below c.args.n _ (ap (option_map (λ node. node.0)) (sym c.in-Some.ensures.node))
