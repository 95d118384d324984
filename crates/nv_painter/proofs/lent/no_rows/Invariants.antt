use Rattle.std.proofs.Common.{◌≡◌, All, List, length}
use Rattle.nv_hl.specs.declared.cell.Cell.{Cell}
use Rattle.nv_painter.specs.inside.Lent.{AreLent, IsOfLine, placed_rows}
use Rattle.nv_painter.proofs.lent.no_rows.Given as goal

abbrev pub invariant-loop : goal.invariant-loop
invariant-loop l = record {
  count : length l.rows.items ≡ l.counter;
  none : (screen : List (List Cell)) → AreLent (placed_rows l.rows.items) screen;
  lines : All IsOfLine l.rows.items;
}
