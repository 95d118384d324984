use Rattle.std.proofs.Common.{Some}
use Rattle.nv_io.specs.Known.{IsUnused}
use Rattle.nv_io.proofs.ShelfLemmas.{rest_holds}
use Rattle.nv_io.proofs.memory.shelves.MemFilesFiles.sink.Goals as goal

pub invariant_of-self-else-is_none : goal.invariant_of-self-else-is_none
invariant_of-self-else-is_none g c = (
  c.self.invariant.0,
  rest_holds (λ d. IsUnused (Some d.taken) d.failures.faults)
      c.give-next.result c.give-next.new.self.coming c.self.inside.sinks.coming c.give-next.ensures.coming c.self.invariant.1,
)
