use Rattle.std.proofs.Common.{sym, subst}
use Rattle.nv_hl.specs.Cells.{IsSized}
use Rattle.nv_screen.proofs.CanvasLemmas.{finished}
use Rattle.nv_screen.proofs.canvas.Canvas.finish.Goals as goal

pub from_rows-requires : goal.from_rows-requires
from_rows-requires c =
    let w = c.self.inside.width in
    let h = c.self.inside.height in
    subst (λ rows. IsSized (record { width = w; height = h; rows = rows })) (sym c.in_ok-rows.ensures) (finished w h c.self.inside.strips.items c.self.invariant)
