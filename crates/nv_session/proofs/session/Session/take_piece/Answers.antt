use Rattle.std.proofs.Common.{refl, sym, subst}
use Rattle.nv_calls.specs.Intakes.{IsLive, WantsMore}
use Rattle.nv_calls.proofs.Giving.{ends_there}
use Rattle.nv_session.specs.inside.Serving.{state_of}
use Rattle.nv_session.proofs.Steps.{cut_none, ends_last, fails_last}
use Rattle.nv_session.proofs.session.Session.take_piece.Goals as goal

pub end-requires-clause-live : goal.end-requires-clause-live
end-requires-clause-live g c =
    let r = rw (c.in-Err.is, c.in-End.is) at c.read.ensures.reads in
    subst IsLive (sym r.2.0) c.requires.live

pub end-requires-clause-waits : goal.end-requires-clause-waits
end-requires-clause-waits g c =
    let r = rw (c.in-Err.is, c.in-End.is) at c.read.ensures.reads in
    subst WantsMore (sym r.2.0) c.requires.waits

pub returns-in-Ok-clause-takes : goal.returns-in-Ok-clause-takes
returns-in-Ok-clause-takes g c =
    let r = rw c.in-Ok.is at c.read.ensures.reads in
    (r.0, r.1, λ world ready. (r.2.0, refl, refl, r.2.1))

pub returns-in-NoMemory-clause-takes : goal.returns-in-NoMemory-clause-takes
returns-in-NoMemory-clause-takes g c =
    let r = rw (c.in-Err.is, c.in-NoMemory.is) at c.read.ensures.reads in
    (r.0, r.1, λ world ready out. cut_none _ (state_of c.args.self.now world) _ out ready refl)

pub returns-in-End-clause-takes : goal.returns-in-End-clause-takes
returns-in-End-clause-takes g c =
    let r = rw (c.in-Err.is, c.in-End.is) at c.read.ensures.reads in
    (r.0, r.1, λ world ready out. ends_last _ c.end.result r.0 (state_of c.args.self.now world) _ _ out r.2.1 r.2.0 refl r.2.2 ready c.end.ensures)

pub returns-in-Failed-clause-takes : goal.returns-in-Failed-clause-takes
returns-in-Failed-clause-takes g c =
    let r = rw (c.in-Err.is, c.in-Failed.is) at c.read.ensures.reads in
    (r.0, r.1, λ world ready out. fails_last (Unit {0}) r.0 (state_of c.args.self.now world) _ out r.2.1 refl ready (ends_there c.args.self.now.intake c.requires.waits))
