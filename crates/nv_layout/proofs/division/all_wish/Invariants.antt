use Rattle.std.proofs.Common.{◌≡◌, drop}
use Rattle.std.specs.List.{list_all}
use Rattle.nv_layout.specs.Content.{shapes_of}
use Rattle.nv_layout.specs.Division.{wishes}
use Rattle.nv_layout.specs.Least.{child_list}
use Rattle.nv_layout.proofs.division.all_wish.Given as goal

abbrev pub invariant-loop-tree : goal.invariant-loop-tree
invariant-loop-tree l = list_all wishes (child_list l.axis (shapes_of l.trees)) ≡ list_all wishes (child_list l.axis (shapes_of (drop l.tree-index l.trees)))
