use Rattle.std.proofs.Common.{ℕ, ◌<◌, get_or, length}
use Rattle.nv_screen.specs.declared.scene.Pane.{Pane}
use Rattle.nv_screen.specs.Sound.{IsDrawable}
use Rattle.bench.proofs.draw.is_drawable.Given as goal

abbrev pub invariant-loop-pane : goal.invariant-loop-pane
invariant-loop-pane l = (k : ℕ) (d : Pane) → k < l.pane-index → IsDrawable (get_or l.scene.panes.items k d)
