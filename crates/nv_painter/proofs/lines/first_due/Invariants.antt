use Rattle.std.proofs.Common.{◌≡◌, ◌-◌, length, map}
use Rattle.nv_linegrid.specs.Rows.{first_due}
use Rattle.nv_linegrid.specs.Told.{shown_cell}
use Rattle.nv_painter.proofs.lines.first_due.Given as goal

abbrev pub invariant-loop-k : goal.invariant-loop-k
invariant-loop-k l =
    first_due l.old (map (shown_cell l.attrs) l.cells) (length l.cells - l.k) l.k
    ≡ first_due l.old (map (shown_cell l.attrs) l.cells) (length l.cells - l.from) l.from
