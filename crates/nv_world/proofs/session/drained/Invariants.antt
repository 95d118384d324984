use Rattle.std.proofs.Common.{◌≡◌, ◌++◌, length, reverse}
use Rattle.nv_world.proofs.session.drained.Given as goal

abbrev pub invariant-all : goal.invariant-all
invariant-all l =
    (l.outbox.items ++ reverse l.messages.items ≡ l.initial.outbox.items) × (l.outbox.capacity ≡ l.initial.outbox.capacity)

abbrev pub decreases-all : goal.decreases-all
decreases-all l = length l.outbox.items
