use Rattle.std.proofs.Common.{◌≡◌, ◌⊎◌, ℕ, false, get_or, true}
use Rattle.nv_painter.specs.inside.Lent.{placed_rows}
use Rattle.nv_painter.specs.inside.Moving.{ComesAsIs}
use Rattle.nv_painter.proofs.sketch.flag_brought.Given as goal

abbrev pub invariant-loop-k : goal.invariant-loop-k
invariant-loop-k l =
    (j : ℕ) → get_or l.flags.items j false ≡ true
    → (get_or l.fn.flags.items j false ≡ true) ⊎ ComesAsIs l.shift (placed_rows l.before) (placed_rows l.drawn) j
