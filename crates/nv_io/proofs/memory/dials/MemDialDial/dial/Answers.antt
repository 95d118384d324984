use Rattle.nv_io.specs.Known.{IsUnread, IsUnused}
use Rattle.nv_io.proofs.ShelfLemmas.{given_holds, rest_holds}
use Rattle.nv_io.proofs.memory.dials.MemDialDial.dial.Goals as goal

pub invariant_of-self-else-is_none : goal.invariant_of-self-else-is_none
invariant_of-self-else-is_none g c =
    rest_holds (λ d. IsUnread (g.I.Source.words d.0).taken (g.I.Source.words d.0).reads (g.I.Source.words d.0).faults × IsUnused (g.S.Sink.words d.1).taken (g.S.Sink.words d.1).faults)
    c.give-next.result c.give-next.new.self.coming c.self.inside.shelf.coming c.give-next.ensures.coming c.self.invariant

pub returns-else-is_none-clause-fresh : goal.returns-else-is_none-clause-fresh
returns-else-is_none-clause-fresh g c =
    given_holds (λ d. IsUnread (g.I.Source.words d.0).taken (g.I.Source.words d.0).reads (g.I.Source.words d.0).faults × IsUnused (g.S.Sink.words d.1).taken (g.S.Sink.words d.1).faults)
    c.give-next.result c.give-next.new.self.coming c.self.inside.shelf.coming c.give-next.ensures.coming c.self.invariant
