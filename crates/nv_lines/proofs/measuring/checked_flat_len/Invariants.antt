use Rattle.std.proofs.Common.{◌≡◌}
use Rattle.nv_places.specs.Flat.{row_start}
use Rattle.nv_lines.proofs.measuring.checked_flat_len.Given as goal

abbrev pub invariant-loop-line : goal.invariant-loop-line
invariant-loop-line l = l.bytes ≡ row_start l.lines l.line-index
