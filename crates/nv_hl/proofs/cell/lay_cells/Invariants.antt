use Rattle.std.proofs.Common.{◌≡◌}
use Rattle.std.specs.Vec.Iter.{into_iter_items}
use Rattle.nv_hl.specs.Cells.{with_cells}
use Rattle.nv_hl.proofs.cell.lay_cells.Given as goal

abbrev pub invariant-loop-cell : goal.invariant-loop-cell
invariant-loop-cell l =
    with_cells l.row.items l.at (into_iter_items l.cell-iterator) ≡ with_cells l.fn.row.items l.col l.fn.cells.items
