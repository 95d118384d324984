use Rattle.std.proofs.Common.{◌≡◌, ◌++◌, List, drop, length}
use Rattle.nv_hl.specs.declared.cell.Cell.{Cell}
use Rattle.nv_linegrid.specs.Rows.{lines_of_rows}
use Rattle.nv_linegrid.specs.Told.{shown_rows}
use Rattle.nv_painter.specs.inside.Due.{AreDue}
use Rattle.nv_painter.specs.inside.Lent.{lent_rows}
use Rattle.nv_painter.proofs.SketchLemmas.{ToldTo}
use Rattle.nv_painter.proofs.lines.push_rows.Given as goal

abbrev pub invariant-loop-k : goal.invariant-loop-k
invariant-loop-k l = record {
  high : length l.rows.items ≡ length l.drawn;
  rest : drop l.k l.rows.items ≡ drop l.k l.fn.rows.items;
  told : (screen : List (List Cell)) → AreDue l.dues (lent_rows l.drawn) l.attrs l.fn.rows.items screen
      → ToldTo l.k l.attrs screen l.rows.items l.events.items
      (l.fn.events.items ++ lines_of_rows 0 l.fn.rows.items (shown_rows l.attrs screen));
}
