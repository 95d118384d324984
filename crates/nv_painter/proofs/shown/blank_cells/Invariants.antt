use Rattle.std.proofs.Common.{◌≡◌, ◌∷◌, [], Some, replicate}
use Rattle.nv_linegrid.specs.Client.{shown_of}
use Rattle.nv_painter.proofs.shown.blank_cells.Given as goal

abbrev pub invariant-loop : goal.invariant-loop
invariant-loop l = l.cells.items ≡ replicate l.counter (Some (shown_of (32 ∷ []) 0))
