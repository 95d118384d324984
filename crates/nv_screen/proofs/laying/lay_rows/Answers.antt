use Rattle.std.proofs.Common.{◌+◌, ◌-◌, ◌∙◌, ap, sym, arith}
use Rattle.std.specs.Vec.Iter.{into_iter_items}
use Rattle.nv_screen.proofs.LayLemmas.{behind_next, laid_next, rows_next}
use Rattle.nv_screen.specs.Drawing.{rows_of_cells}
use Rattle.nv_screen.specs.inside.Laying.{cells_behind}
use Rattle.nv_screen.proofs.laying.lay_rows.Goals as goal

pub loop-k-preserved : goal.loop-k-preserved
loop-k-preserved c =
    let at = c.loop-k in
    let n = c.args.count in
    let w = c.args.width in
    let cs = into_iter_items at.rest in
    let lt = c.loop-k-test.true in record {
      laid = laid_next at.canvas c.lay.new.self _ (c.args.row + at.k) (c.args.row + (at.k + 1)) c.args.col c.in_ok-cells.cells.items _ _ _ _
          (rows_next n at.k w cs lt) c.in_ok-cells.ensures.cells
          (ap (rows_of_cells (n - (at.k + 1)) w) (sym c.in_ok-cells.ensures.rest)) (omega arith) c.in_ok-lay.ensures at.invariant.laid;
      rest = ap (cells_behind (n - (at.k + 1)) w) c.in_ok-cells.ensures.rest ∙ sym (behind_next n at.k w cs lt) ∙ at.invariant.rest;
    }
