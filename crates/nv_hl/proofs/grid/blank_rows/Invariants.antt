use Rattle.std.proofs.Common.{◌≡◌}
use Rattle.nv_hl.specs.Cells.{blank_rows}
use Rattle.nv_hl.proofs.grid.blank_rows.Given as goal

abbrev pub invariant-loop : goal.invariant-loop
invariant-loop l = l.rows.items ≡ blank_rows l.width l.counter
