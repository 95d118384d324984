use Rattle.std.proofs.Common.{ap}
use Rattle.nv_io.specs.Known.{IsUnread, IsUnused}
use Rattle.nv_io.proofs.ShelfLemmas.{same_holds}
use Rattle.nv_io.proofs.memory.shelves.MemLane.new.Goals as goal

pub invariant_of-result : goal.invariant_of-result
invariant_of-result g c =
    same_holds (λ d. IsUnread (g.I.Source.words d.0).taken (g.I.Source.words d.0).reads (g.I.Source.words d.0).faults × IsUnused (g.S.Sink.words d.1).taken (g.S.Sink.words d.1).faults)
    c.args.conns.items c.in_ok-shelf.shelf.coming (ap (λ s. s.coming) c.in_ok-shelf.ensures) c.requires
