-- The rows gone over are seen as they should be.
use Rattle.std.proofs.Common.{◌≡◌, ◌++◌, length, drop}
use Rattle.nv_linegrid.specs.Client.{first_table}
use Rattle.nv_redraw.specs.inside.Taking.{rows_show}
use Rattle.nv_redraw.proofs.lines.rows_show.Given as goal

abbrev pub invariant-loop-row : goal.invariant-loop-row
invariant-loop-row l = record {
  at : l.at ≡ l.row-index;
  all : rows_show (l.table ++ first_table) (drop l.row-index l.shown) (drop l.row-index l.rows) ≡ rows_show (l.table ++ first_table) l.shown l.rows;
  long : length l.shown ≡ length l.rows;
}
