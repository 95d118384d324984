use Rattle.std.proofs.Common.{◌++◌, drop}
use Rattle.nv_layout.specs.Content.{group, shapes_of}
use Rattle.nv_layout.specs.Places.{separators}
use Rattle.nv_scene.specs.Separators.{spanned_area}
use Rattle.nv_scene.specs.inside.Parting.{windows_behind, windows_within}
use Rattle.nv_scene.proofs.Parted.{Parting}
use Rattle.nv_scene.proofs.parting.+separators.Given as goal

abbrev pub invariant-push_in_group-loop-place : goal.invariant-push_in_group-loop-place
invariant-push_in_group-loop-place l =
    Parting l.axis (shapes_of (drop l.place l.trees)) l.left (windows_behind (group l.axis (shapes_of l.trees)) l.fn.placed) l.into.items
    (l.fn.into.items ++ separators (group l.axis (shapes_of l.trees)) (spanned_area (windows_within (group l.axis (shapes_of l.trees)) l.fn.placed)))
