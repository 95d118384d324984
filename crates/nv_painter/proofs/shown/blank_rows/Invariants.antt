use Rattle.std.proofs.Common.{◌≡◌, ◌∷◌, [], Some, replicate}
use Rattle.nv_linegrid.specs.Client.{shown_of}
use Rattle.nv_painter.proofs.shown.blank_rows.Given as goal

abbrev pub invariant-loop : goal.invariant-loop
invariant-loop l = l.rows.items ≡ replicate l.counter (replicate l.width (Some (shown_of (32 ∷ []) 0)))
