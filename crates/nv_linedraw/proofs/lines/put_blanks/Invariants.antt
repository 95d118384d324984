use Rattle.std.proofs.Common.{◌≡◌, ◌++◌, replicate}
use Rattle.nv_hl.specs.Cells.{space}
use Rattle.nv_linedraw.proofs.lines.put_blanks.Given as goal

abbrev pub invariant-loop : goal.invariant-loop
invariant-loop l = l.cells.items ≡ l.fn.cells.items ++ replicate l.counter (space l.attr)
