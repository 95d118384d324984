use Rattle.std.proofs.Common.{◌≡◌, length, drop}
use Rattle.nv_layout.specs.Content.{shapes_of}
use Rattle.nv_layout.specs.Least.{leaves_in}
use Rattle.nv_layout.proofs.+has_window.Given as goal

abbrev pub invariant-changes::any_has_window-loop-tree : goal.invariant-changes::any_has_window-loop-tree
invariant-changes::any_has_window-loop-tree l = length (leaves_in (shapes_of l.trees)) ≡ length (leaves_in (shapes_of (drop l.tree-index l.trees)))
