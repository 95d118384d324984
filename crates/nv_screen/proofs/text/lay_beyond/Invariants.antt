use Rattle.std.proofs.Common.{◌≡◌, ◌+◌, ◌-◌, replicate}
use Rattle.nv_screen.specs.Drawing.{row_beyond, with_rows}
use Rattle.nv_screen.specs.inside.Laying.{row_at}
use Rattle.nv_screen.proofs.text.lay_beyond.Given as goal

abbrev pub invariant-loop-k : goal.invariant-loop-k
invariant-loop-k l =
    record l.canvas { rows = with_rows l.canvas.rows (l.row + l.k) l.frame.col (replicate (l.room - l.k) (row_beyond l.frame.width l.frame.looks.now)) }
    ≡ record l.fn.canvas { rows = with_rows l.fn.canvas.rows (row_at l.frame l.room) l.frame.col (replicate l.room (row_beyond l.frame.width l.frame.looks.now)) }
