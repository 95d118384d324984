use Rattle.std.proofs.Common.{◌≡◌, ◌++◌, map, take, drop}
use Rattle.nv_linedraw.specs.inside.OneRow.{recoloured}
use Rattle.nv_linedraw.proofs.one_row.recolour.Given as goal

abbrev pub invariant-loop-cell : goal.invariant-loop-cell
invariant-loop-cell l =
    l.cell-items ≡ map (recoloured l.attr) (take l.cell-index l.fn.cells.items) ++ drop l.cell-index l.fn.cells.items
