-- The numbers stay, and room is made for a place more.
use Rattle.std.proofs.Common.{◌≡◌, ◌+◌, ◌-◌, ℕ, length}
use Rattle.nv_watch.specs.inside.Counts.{number_kept}
use Rattle.nv_watch.proofs.counts.extend.Given as goal

abbrev pub invariant-loop-numbers : goal.invariant-loop-numbers
invariant-loop-numbers l = (s : ℕ) → number_kept l.numbers.items s ≡ number_kept l.fn.numbers.items s

abbrev pub decreases-loop-numbers : goal.decreases-loop-numbers
decreases-loop-numbers l = l.session + 1 - length l.numbers.items
