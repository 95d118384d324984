use Rattle.std.proofs.Common.{◌≡◌, ◌++◌, drop}
use Rattle.nv_linegrid.specs.Client.{scrolled_from}
use Rattle.nv_linegrid.specs.Scrolls.{rows_after_shift}
use Rattle.nv_painter.proofs.scrolling.copied_rows.Given as goal

abbrev pub invariant-loop-k : goal.invariant-loop-k
invariant-loop-k l =
    l.after.items ++ scrolled_from l.shift.top l.shift.bot l.shift.left l.shift.right l.shift.rows l.rows l.k (drop l.k l.rows)
    ≡ rows_after_shift l.shift l.rows
