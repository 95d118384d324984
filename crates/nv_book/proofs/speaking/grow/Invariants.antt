use Rattle.std.proofs.Common.{◌≡◌, ℕ, suc, length}
use Rattle.std.specs.Prelude.{◌-◌}
use Rattle.nv_book.specs.inside.Playing.{told_at}
use Rattle.nv_book.proofs.speaking.grow.Given as goal

abbrev pub invariant-loop-alloc : goal.invariant-loop-alloc
invariant-loop-alloc l = (s : ℕ) → told_at l.painters.items s ≡ told_at l.initial.painters.items s

abbrev pub decreases-loop-alloc : goal.decreases-loop-alloc
decreases-loop-alloc l = suc l.session - length l.painters.items
