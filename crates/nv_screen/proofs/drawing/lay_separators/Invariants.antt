use Rattle.std.proofs.Common.{◌≡◌, drop}
use Rattle.nv_screen.specs.Drawing.{with_separators}
use Rattle.nv_screen.proofs.drawing.lay_separators.Given as goal

abbrev pub invariant-loop-rect : goal.invariant-loop-rect
invariant-loop-rect l =
    record l.canvas { rows = with_separators l.bars l.canvas.rows (drop l.rect-index l.rects) }
    ≡ record l.fn.canvas { rows = with_separators l.bars l.fn.canvas.rows l.rects }
