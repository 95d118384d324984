use Rattle.std.proofs.Common.{◌≡◌, replicate, None}
use Rattle.nv_redraw.proofs.shown.ShownRow.unknown.Given as goal

abbrev pub invariant-loop : goal.invariant-loop
invariant-loop l = l.cells.items ≡ replicate l.counter None
