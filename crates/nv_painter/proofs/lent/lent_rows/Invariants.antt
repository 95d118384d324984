use Rattle.std.proofs.Common.{◌≡◌, All, length}
use Rattle.nv_screen.specs.Drawing.{drawn_rows}
use Rattle.nv_painter.specs.inside.Lent.{AreLent, IsOfLine, placed_rows}
use Rattle.nv_painter.proofs.lent.lent_rows.Given as goal

abbrev pub invariant-loop-pane : goal.invariant-loop-pane
invariant-loop-pane l = record {
  count : length l.rows.items ≡ l.scene.height;
  lent : AreLent (placed_rows l.rows.items) (drawn_rows l.scene);
  lines : All IsOfLine l.rows.items;
}
