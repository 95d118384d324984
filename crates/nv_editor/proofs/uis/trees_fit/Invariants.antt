use Rattle.std.proofs.Common.{◌≡◌, drop}
use Rattle.std.specs.List.{list_all}
use Rattle.nv_layout.specs.Content.{shape_of}
use Rattle.nv_windows.specs.Rooms.{fits_screen}
use Rattle.nv_editor.proofs.uis.trees_fit.Given as goal

abbrev pub invariant-loop-tabpage : goal.invariant-loop-tabpage
invariant-loop-tabpage l =
    list_all (λ t. fits_screen l.width l.height (shape_of t.tree)) l.tabpages
    ≡ list_all (λ t. fits_screen l.width l.height (shape_of t.tree)) (drop l.tabpage-index l.tabpages)
