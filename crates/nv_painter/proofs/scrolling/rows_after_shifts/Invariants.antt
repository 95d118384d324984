use Rattle.std.proofs.Common.{◌≡◌, drop}
use Rattle.nv_linegrid.specs.Scrolls.{rows_after_shifts}
use Rattle.nv_painter.proofs.scrolling.rows_after_shifts.Given as goal

abbrev pub invariant-loop-shift : goal.invariant-loop-shift
invariant-loop-shift l = rows_after_shifts (drop l.shift-index l.shifts) l.rows.items ≡ rows_after_shifts l.shifts l.fn.rows.items
