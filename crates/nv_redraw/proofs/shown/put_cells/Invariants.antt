-- The row with the cells to come is the row with all of them.
use Rattle.std.proofs.Common.{◌≡◌, ◌≤◌, ◌+◌, length}
use Rattle.std.specs.Vec.Iter.{into_iter_items}
use Rattle.nv_linegrid.specs.Client.{row_with}
use Rattle.nv_redraw.proofs.shown.put_cells.Given as goal

abbrev pub invariant-loop-cell : goal.invariant-loop-cell
invariant-loop-cell l = record {
  within : l.at + length (into_iter_items l.cell-iterator) ≤ length l.row.items;
  all : row_with l.row.items l.at (into_iter_items l.cell-iterator) ≡ row_with l.fn.row.items l.col l.fn.cells.items;
}
