-- The rows so far, with those to come, are all of them.
use Rattle.std.proofs.Common.{◌≡◌, ◌++◌, drop}
use Rattle.nv_linegrid.specs.Client.{scrolled_from, rows_scrolled}
use Rattle.nv_redraw.proofs.lines.scrolled_rows.Given as goal

abbrev pub invariant-loop-row : goal.invariant-loop-row
invariant-loop-row l = record {
  at : l.at ≡ l.row-index;
  all : l.scrolled.items ++ scrolled_from l.rectangle.top l.rectangle.bot l.rectangle.left l.rectangle.right l.rectangle.rows l.rows l.at (drop l.row-index l.rows)
      ≡ rows_scrolled l.rectangle.top l.rectangle.bot l.rectangle.left l.rectangle.right l.rectangle.rows l.rows;
}
