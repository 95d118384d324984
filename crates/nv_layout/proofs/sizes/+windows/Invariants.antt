use Rattle.std.proofs.Common.{◌≡◌, ◌++◌, drop}
use Rattle.nv_layout.specs.Content.{shapes_of}
use Rattle.nv_layout.specs.Least.{leaves_in}
use Rattle.nv_layout.specs.Tiling.{windows}
use Rattle.nv_layout.proofs.sizes.+windows.Given as goal

abbrev pub invariant-push_windows_in-loop-tree : goal.invariant-push_windows_in-loop-tree
invariant-push_windows_in-loop-tree l = l.into.items ++ windows (leaves_in (shapes_of (drop l.tree-index l.trees))) ≡ l.initial.into.items ++ windows (leaves_in (shapes_of l.trees))
