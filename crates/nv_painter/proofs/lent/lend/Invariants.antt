use Rattle.std.proofs.Common.{◌≡◌, take}
use Rattle.nv_painter.specs.inside.Lent.{lent_rows}
use Rattle.nv_painter.proofs.lent.lend.Given as goal

abbrev pub invariant-loop-row : goal.invariant-loop-row
invariant-loop-row l = lent_rows l.lent.items ≡ take l.row-index l.rows
