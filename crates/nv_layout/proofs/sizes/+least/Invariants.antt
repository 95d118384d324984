use Rattle.std.proofs.Common.{◌≡◌, ◌+◌, max, drop}
use Rattle.nv_layout.specs.Content.{shapes_of}
use Rattle.nv_layout.specs.Least.{least_sum, least_max}
use Rattle.nv_layout.proofs.sizes.+least.Given as goal

abbrev pub invariant-least_max-loop-child : goal.invariant-least_max-loop-child
invariant-least_max-loop-child l = max l.most (least_max l.axis (shapes_of (drop l.child-index l.children))) ≡ least_max l.axis (shapes_of l.children)

abbrev pub invariant-least_sum-loop-place : goal.invariant-least_sum-loop-place
invariant-least_sum-loop-place l = l.sum + least_sum l.axis (shapes_of (drop l.place l.children)) ≡ least_sum l.axis (shapes_of l.children)
