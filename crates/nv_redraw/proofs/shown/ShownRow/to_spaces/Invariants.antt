use Rattle.std.proofs.Common.{◌≡◌, take}
use Rattle.nv_linegrid.specs.Client.{row_of_spaces}
use Rattle.nv_redraw.proofs.shown.ShownRow.to_spaces.Given as goal

abbrev pub invariant-loop-cell : goal.invariant-loop-cell
invariant-loop-cell l = l.cells.items ≡ row_of_spaces (take l._cell-index l._cell-items)
