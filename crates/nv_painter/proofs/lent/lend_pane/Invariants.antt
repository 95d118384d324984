use Rattle.std.proofs.Common.{◌≡◌, ◌<◌, ◌≤◌, ◌+◌, ◌-◌, ℕ, All, List, [], drop, get_or, length}
use Rattle.nv_hl.specs.declared.cell.Cell.{Cell}
use Rattle.nv_screen.specs.Drawing.{pane_rows, text_rows}
use Rattle.nv_painter.specs.inside.Lent.{AreLent, IsOfLine, placed_rows}
use Rattle.nv_painter.proofs.lent.lend_pane.Given as goal

abbrev pub invariant-loop-line : goal.invariant-loop-line
invariant-loop-line l = record {
  count : length l.rows.items ≡ length l.fn.rows.items;
  room : l.room ≤ l.pane.rect.height;
  left : (k : ℕ) → k < l.room
      → get_or (text_rows l.pane.rect.width l.pane.tabstop l.looks l.room (drop l.line-index l.line-items)) k []
      ≡ get_or (pane_rows l.looks l.pane) (l.pane.rect.height - l.room + k) [];
  lent : (screen : List (List Cell))
      → ((k : ℕ) → k < l.pane.rect.height → get_or (pane_rows l.looks l.pane) k [] ≡ get_or screen (l.pane.rect.row + k) [])
      → AreLent (placed_rows l.fn.rows.items) screen
      → AreLent (placed_rows l.rows.items) screen;
  lines : All IsOfLine l.fn.rows.items → All IsOfLine l.rows.items;
}
