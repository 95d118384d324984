use Rattle.std.proofs.Common.{◌≡◌, ◌≤◌, ◌+◌, length}
use Rattle.std.specs.Vec.Iter.{into_iter_items}
use Rattle.nv_linegrid.specs.Client.{row_with}
use Rattle.nv_painter.proofs.shown.put_cells.Given as goal

abbrev pub invariant-loop-cell : goal.invariant-loop-cell
invariant-loop-cell l =
    l.at + length l.fn.cells.items ≤ length l.fn.row.items
    → (l.place + length (into_iter_items l.cell-iterator) ≤ length l.row.items)
    × (row_with l.row.items l.place (into_iter_items l.cell-iterator) ≡ row_with l.fn.row.items l.at l.fn.cells.items)
