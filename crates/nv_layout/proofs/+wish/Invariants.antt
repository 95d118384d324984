use Rattle.std.proofs.Common.{◌≡◌, ◌++◌, map, take, drop}
use Rattle.nv_layout.specs.Content.{shape_of}
use Rattle.nv_layout.specs.Changes.{with_wish}
use Rattle.nv_layout.proofs.+wish.Given as goal

abbrev pub invariant-changes::put_wish_among-loop-tree : goal.invariant-changes::put_wish_among-loop-tree
invariant-changes::put_wish_among-loop-tree l =
    goal.unvisited-changes::put_wish_among-loop-tree l
    × (map shape_of l.trees ≡ map (with_wish l.axis l.wish l.window) (take l.tree-index (map shape_of l.fn.trees)) ++ drop l.tree-index (map shape_of l.fn.trees))
