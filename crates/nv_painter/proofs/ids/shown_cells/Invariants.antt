use Rattle.std.proofs.Common.{◌≡◌, map, take}
use Rattle.nv_linegrid.specs.Told.{id_of, shown_cell}
use Rattle.nv_painter.proofs.ids.shown_cells.Given as goal

abbrev pub invariant-loop-cell : goal.invariant-loop-cell
invariant-loop-cell l = record {
  shown : l.shown.items ≡ map (shown_cell l.attrs) (take l.cell-index l.cells);
  id : l.id ≡ id_of l.attrs l.last;
}
