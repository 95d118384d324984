use Rattle.std.proofs.Common.{◌++◌, ◌<◌, All, List, drop}
use Rattle.nv_screen.specs.declared.scene.Pane.{Pane}
use Rattle.nv_model.specs.Standing.{seen_now}
use Rattle.nv_scene.specs.Scenes.{ArePanesIn}
use Rattle.nv_scene.proofs.scenes.panes_in.Given as goal

abbrev pub invariant-loop-at : goal.invariant-loop-at
invariant-loop-at l =
    ((more : List Pane) → ArePanesIn (seen_now l.editor) (drop l.at-index l.placed) more → ArePanesIn (seen_now l.editor) l.placed (l.panes.items ++ more))
    × All (λ (p : Pane). 0 < p.tabstop) l.panes.items
