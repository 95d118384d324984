use Rattle.std.proofs.Common.{◌≡◌, drop}
use Rattle.nv_layout.specs.Content.{shapes_of}
use Rattle.nv_layout.specs.Changes.{append}
use Rattle.nv_layout.proofs.+copy.Given as goal

abbrev pub invariant-changes::push_copies-loop-tree : goal.invariant-changes::push_copies-loop-tree
invariant-changes::push_copies-loop-tree l = append (shapes_of l.all.items) (shapes_of (drop l.tree-index l.trees)) ≡ append (shapes_of l.initial.all.items) (shapes_of l.trees)
