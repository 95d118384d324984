use Rattle.std.proofs.Common.{◌≡◌, drop}
use Rattle.nv_screen.specs.Drawing.{with_panes}
use Rattle.nv_screen.proofs.drawing.lay_panes.Given as goal

abbrev pub invariant-loop-pane : goal.invariant-loop-pane
invariant-loop-pane g l =
    record l.canvas { rows = with_panes l.looks l.bars l.canvas.rows (drop l.pane-index l.panes) }
    ≡ record l.fn.canvas { rows = with_panes l.looks l.bars l.fn.canvas.rows l.panes }
