use Rattle.std.proofs.Common.{◌≡◌}
use Rattle.nv_linegrid.specs.Client.{rows_unknown}
use Rattle.nv_redraw.proofs.lines.unknown_rows.Given as goal

abbrev pub invariant-loop : goal.invariant-loop
invariant-loop l = l.rows.items ≡ rows_unknown l.width l.counter
