use Rattle.std.proofs.Common.{◌≡◌, ◌<◌, ℕ, [], false, get_or, length}
use Rattle.nv_painter.specs.inside.Lent.{lent_rows}
use Rattle.nv_painter.proofs.sketch.are_drawn.Given as goal

abbrev pub invariant-loop-k : goal.invariant-loop-k
invariant-loop-k l = (k : ℕ) → k < l.k → get_or l.flags k false ≡ false → 0 < length (get_or (lent_rows l.drawn) k [])
