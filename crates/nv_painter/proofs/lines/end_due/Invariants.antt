use Rattle.std.proofs.Common.{◌≡◌, map}
use Rattle.nv_linegrid.specs.Rows.{end_due}
use Rattle.nv_linegrid.specs.Told.{shown_cell}
use Rattle.nv_painter.proofs.lines.end_due.Given as goal

abbrev pub invariant-loop-k : goal.invariant-loop-k
invariant-loop-k l =
    end_due l.old (map (shown_cell l.attrs) l.cells) l.k ≡ end_due l.old (map (shown_cell l.attrs) l.cells) l.to
