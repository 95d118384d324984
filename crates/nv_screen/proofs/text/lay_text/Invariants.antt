use Rattle.std.proofs.Common.{◌≡◌, ◌≤◌, drop}
use Rattle.nv_screen.specs.Drawing.{with_rows}
use Rattle.nv_screen.specs.inside.Laying.{frame_rows, row_at}
use Rattle.nv_screen.proofs.text.lay_text.Given as goal

abbrev pub invariant-loop-line : goal.invariant-loop-line
invariant-loop-line g l = record {
  laid : record l.canvas { rows = with_rows l.canvas.rows (row_at l.frame l.room) l.frame.col (frame_rows l.frame l.room (drop l.line-index l.lines)) }
      ≡ record l.fn.canvas { rows = with_rows l.fn.canvas.rows l.frame.row l.frame.col (frame_rows l.frame l.frame.height l.lines) };
  room : l.room ≤ l.frame.height;
}
