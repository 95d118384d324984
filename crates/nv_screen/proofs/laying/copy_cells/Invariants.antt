use Rattle.std.proofs.Common.{◌≡◌, take}
use Rattle.nv_screen.proofs.laying.copy_cells.Given as goal

abbrev pub invariant-loop-cell : goal.invariant-loop-cell
invariant-loop-cell l = l.copy.items ≡ take l.cell-index l.cells
