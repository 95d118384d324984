use Rattle.std.proofs.Common.{◌≡◌, ◌++◌, ◌∷◌, [], replicate}
use Rattle.nv_hl.specs.Cells.{cell_of}
use Rattle.nv_screen.proofs.laying.pad.Given as goal

abbrev pub invariant-loop : goal.invariant-loop
invariant-loop l = l.cells.items ≡ l.fn.cells.items ++ replicate l.counter (cell_of (l.byte ∷ []) l.attr)
