use Rattle.std.proofs.Common.{Some}
use Rattle.nv_io.specs.Known.{IsUnread}
use Rattle.nv_io.proofs.ShelfLemmas.{rest_holds}
use Rattle.nv_io.proofs.memory.shelves.MemFilesFiles.source.Goals as goal

pub invariant_of-self-else-is_none : goal.invariant_of-self-else-is_none
invariant_of-self-else-is_none g c = (
  rest_holds (λ d. IsUnread (Some d.pieces.taken) d.reads d.failures.faults)
      c.give-next.result c.give-next.new.self.coming c.self.inside.sources.coming c.give-next.ensures.coming c.self.invariant.0,
  c.self.invariant.1,
)
