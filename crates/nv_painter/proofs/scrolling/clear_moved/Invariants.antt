use Rattle.std.proofs.Common.{◌≡◌, ℕ, true, false, get_or, take}
use Rattle.nv_painter.specs.inside.Moving.{StaysIn}
use Rattle.nv_painter.proofs.scrolling.clear_moved.Given as goal

abbrev pub invariant-loop-shift : goal.invariant-loop-shift
invariant-loop-shift l =
    (j : ℕ) → get_or l.flags.items j false ≡ true
    → (get_or l.fn.flags.items j false ≡ true) × StaysIn (take l.shift-index l.shifts) j
