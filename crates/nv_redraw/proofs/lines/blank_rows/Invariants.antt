use Rattle.std.proofs.Common.{◌≡◌, map, take}
use Rattle.nv_linegrid.specs.Client.{row_of_spaces}
use Rattle.nv_redraw.proofs.lines.blank_rows.Given as goal

abbrev pub invariant-loop-row : goal.invariant-loop-row
invariant-loop-row l = l.blank.items ≡ map row_of_spaces (take l.row-index l.rows)
