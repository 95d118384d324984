use Rattle.std.proofs.Common.{◌≡◌, ◌++◌, drop}
use Rattle.std.specs.Prelude.{flat_map}
use Rattle.nv_layout.specs.Content.{shape_of}
use Rattle.nv_layout.specs.Least.{leaves_of}
use Rattle.nv_layout.specs.Tiling.{windows}
use Rattle.nv_windows.proofs.tabs.all_windows.Given as goal

abbrev pub invariant-loop-tabpage : goal.invariant-loop-tabpage
invariant-loop-tabpage l =
    l.all.items ++ flat_map (λ t. windows (leaves_of (shape_of t.tree))) (drop l.tabpage-index l.tabpages)
    ≡ flat_map (λ t. windows (leaves_of (shape_of t.tree))) l.tabpages
