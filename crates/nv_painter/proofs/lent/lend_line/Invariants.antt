use Rattle.std.proofs.Common.{◌≡◌, ◌<◌, ◌+◌, ℕ, All, List, [], get_or, length}
use Rattle.nv_hl.specs.declared.cell.Cell.{Cell}
use Rattle.nv_painter.specs.inside.Lent.{AreLent, IsFound, IsOfLine, cells_lent, lent_content, placed_rows, row_of_key}
use Rattle.nv_painter.proofs.lent.lend_line.Given as goal

abbrev pub invariant-loop-k : goal.invariant-loop-k
invariant-loop-k l = record {
  count : length l.rows.items ≡ length l.fn.rows.items;
  lent : (screen : List (List Cell))
      → ((k : ℕ) → k < l.count → row_of_key (lent_content l.key) k ≡ get_or screen (l.at + k) [])
      → AreLent (placed_rows l.fn.rows.items) screen
      → AreLent (placed_rows l.rows.items) screen;
  lines : IsFound (lent_content l.key) (cells_lent l.cells) l.count → All IsOfLine l.fn.rows.items → All IsOfLine l.rows.items;
}
