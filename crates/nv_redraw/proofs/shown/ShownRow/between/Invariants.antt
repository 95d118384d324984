-- The cells so far, with those to come, are all of the row.
use Rattle.std.proofs.Common.{◌≡◌, ◌++◌, drop}
use Rattle.nv_linegrid.specs.Client.{row_between}
use Rattle.nv_redraw.proofs.shown.ShownRow.between.Given as goal

abbrev pub invariant-loop-cell : goal.invariant-loop-cell
invariant-loop-cell l = record {
  at : l.at ≡ l.cell-index;
  all : l.cells.items ++ row_between l.left l.right l.source l.at (drop l.cell-index l.cell-items)
      ≡ row_between l.left l.right l.source 0 l.cell-items;
}
