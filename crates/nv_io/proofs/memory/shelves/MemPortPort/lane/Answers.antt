use Rattle.std.proofs.Common.{Some}
use Rattle.nv_io.specs.Lanes.{IsFreshLane}
use Rattle.nv_io.proofs.ShelfLemmas.{given_holds, rest_holds}
use Rattle.nv_io.proofs.memory.shelves.MemPortPort.lane.Goals as goal

pub invariant_of-self-else-is_none : goal.invariant_of-self-else-is_none
invariant_of-self-else-is_none g c =
    rest_holds (λ d. IsFreshLane (Some d.shelf.back) (Some d.shelf.out) d.failures.faults)
    c.give-next.result c.give-next.new.self.coming c.self.inside.shelf.coming c.give-next.ensures.coming c.self.invariant

pub returns-else-is_none-clause-fresh : goal.returns-else-is_none-clause-fresh
returns-else-is_none-clause-fresh g c =
    given_holds (λ d. IsFreshLane (Some d.shelf.back) (Some d.shelf.out) d.failures.faults)
    c.give-next.result c.give-next.new.self.coming c.self.inside.shelf.coming c.give-next.ensures.coming c.self.invariant
