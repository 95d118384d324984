-- The cells gone over are seen as they should be.
use Rattle.std.proofs.Common.{◌≡◌, ◌++◌, length, drop}
use Rattle.nv_linegrid.specs.Client.{first_table}
use Rattle.nv_redraw.specs.inside.Taking.{row_shows}
use Rattle.nv_redraw.proofs.lines.row_shows.Given as goal

abbrev pub invariant-loop-cell : goal.invariant-loop-cell
invariant-loop-cell l = record {
  at : l.at ≡ l.cell-index;
  all : row_shows (l.table ++ first_table) (drop l.cell-index l.shown) (drop l.cell-index l.cells) ≡ row_shows (l.table ++ first_table) l.shown l.cells;
  long : length l.shown ≡ length l.cells;
}
