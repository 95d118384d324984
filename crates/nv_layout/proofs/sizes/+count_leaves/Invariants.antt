use Rattle.std.proofs.Common.{◌≡◌, ◌+◌, length, drop}
use Rattle.nv_layout.specs.Content.{shape_of, shapes_of}
use Rattle.nv_layout.specs.Least.{leaves_of, leaves_in}
use Rattle.nv_layout.proofs.sizes.+count_leaves.Given as goal

abbrev pub invariant-loop-child : goal.invariant-loop-child
invariant-loop-child l = l.count + length (leaves_in (shapes_of (drop l.child-index l.child-items))) ≡ length (leaves_of (shape_of l.tree))
