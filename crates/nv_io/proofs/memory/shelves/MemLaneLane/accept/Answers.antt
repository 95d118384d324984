use Rattle.std.proofs.Common.{subst, IfSome}
use Rattle.nv_io.specs.Known.{IsUnread, IsUnused}
use Rattle.nv_io.proofs.ShelfLemmas.{given_holds, rest_holds}
use Rattle.nv_io.proofs.memory.shelves.MemLaneLane.accept.Goals as goal

pub invariant_of-self-2 : goal.invariant_of-self-2
invariant_of-self-2 g c =
    rest_holds (λ d. IsUnread (g.I.Source.words d.0).taken (g.I.Source.words d.0).reads (g.I.Source.words d.0).faults × IsUnused (g.S.Sink.words d.1).taken (g.S.Sink.words d.1).faults)
    c.give.result c.give.new.self.coming c.self.inside.shelf.coming c.give.ensures.coming c.self.invariant

pub returns-clause-fresh : goal.returns-clause-fresh
returns-clause-fresh g c =
    let h = subst (λ o. IfSome o (λ d. IsUnread (g.I.Source.words d.0).taken (g.I.Source.words d.0).reads (g.I.Source.words d.0).faults × IsUnused (g.S.Sink.words d.1).taken (g.S.Sink.words d.1).faults)) c.in-Some.is
    (given_holds (λ d. IsUnread (g.I.Source.words d.0).taken (g.I.Source.words d.0).reads (g.I.Source.words d.0).faults × IsUnused (g.S.Sink.words d.1).taken (g.S.Sink.words d.1).faults)
    c.give.result c.give.new.self.coming c.self.inside.shelf.coming c.give.ensures.coming c.self.invariant) in (h.0.0, h.1)

pub returns-clause-unread : goal.returns-clause-unread
returns-clause-unread g c =
    (subst (λ o. IfSome o (λ d. IsUnread (g.I.Source.words d.0).taken (g.I.Source.words d.0).reads (g.I.Source.words d.0).faults × IsUnused (g.S.Sink.words d.1).taken (g.S.Sink.words d.1).faults)) c.in-Some.is
    (given_holds (λ d. IsUnread (g.I.Source.words d.0).taken (g.I.Source.words d.0).reads (g.I.Source.words d.0).faults × IsUnused (g.S.Sink.words d.1).taken (g.S.Sink.words d.1).faults)
    c.give.result c.give.new.self.coming c.self.inside.shelf.coming c.give.ensures.coming c.self.invariant)).0.1
