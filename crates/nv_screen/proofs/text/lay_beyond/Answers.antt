use Rattle.std.proofs.Common.{◌+◌, arith, refl}
use Rattle.nv_screen.specs.Drawing.{row_beyond}
use Rattle.nv_screen.specs.inside.Laying.{row_at}
use Rattle.nv_screen.proofs.LayLemmas.{equal_next, laid_next}
use Rattle.nv_screen.proofs.text.lay_beyond.Goals as goal

pub loop-k-preserved : goal.loop-k-preserved
loop-k-preserved c =
    let at = c.loop-k in
    let f = c.args.frame.now in
    let row = row_at f c.args.room in
    laid_next at.canvas c.lay.new.self _ (row + at.k) (row + (at.k + 1)) f.col c.in_ok-cells.cells.items _ _ _ _
    (equal_next c.args.room at.k (row_beyond f.width f.looks.now) c.loop-k-test.true) c.in_ok-cells.ensures refl (omega arith) c.in_ok-lay.ensures at.invariant
