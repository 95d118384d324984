-- The clients stay, and room is made for one more.
use Rattle.std.proofs.Common.{◌≡◌, ◌+◌, ◌-◌, ℕ, length}
use Rattle.nv_watch.specs.inside.GridsFolded.{client_kept}
use Rattle.nv_watch.proofs.grid_fold.extend.Given as goal

abbrev pub invariant-loop-alloc : goal.invariant-loop-alloc
invariant-loop-alloc l = (s : ℕ) → client_kept l.clients.items s ≡ client_kept l.fn.clients.items s

abbrev pub decreases-loop-alloc : goal.decreases-loop-alloc
decreases-loop-alloc l = l.session + 1 - length l.clients.items
