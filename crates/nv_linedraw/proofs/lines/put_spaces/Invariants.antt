use Rattle.std.proofs.Common.{◌≡◌, ◌++◌, replicate}
use Rattle.nv_hl.specs.Attributes.{empty_attr}
use Rattle.nv_hl.specs.Cells.{space}
use Rattle.nv_linedraw.proofs.lines.put_spaces.Given as goal

abbrev pub invariant-loop : goal.invariant-loop
invariant-loop l = l.cells.items ≡ l.fn.cells.items ++ replicate l.counter (space empty_attr)
