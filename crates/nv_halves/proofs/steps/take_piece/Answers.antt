use Rattle.std.proofs.Common.{sym, subst}
use Rattle.nv_calls.specs.Intakes.{IsLive, WantsMore}
use Rattle.nv_calls.proofs.Giving.{ends_there, gave_piece}
use Rattle.nv_halves.proofs.Intaking.{stops_wanting, stops_last, stops_failed}
use Rattle.nv_halves.proofs.steps.take_piece.Goals as goal

pub end_of-requires-clause-live : goal.end_of-requires-clause-live
end_of-requires-clause-live g c =
    let r = rw (c.in-Err.is, c.in-End.is) at c.read.ensures.reads in
    subst IsLive (sym r.2.0) c.requires.live

pub end_of-requires-clause-waits : goal.end_of-requires-clause-waits
end_of-requires-clause-waits g c =
    let r = rw (c.in-Err.is, c.in-End.is) at c.read.ensures.reads in
    subst WantsMore (sym r.2.0) c.requires.waits

pub returns-in-Ok-clause-holds : goal.returns-in-Ok-clause-holds
returns-in-Ok-clause-holds g c =
    let r = rw c.in-Ok.is at c.read.ensures.reads in
    (r.0, gave_piece _ _ r.0 r.1, (r.2.0, r.2.1))

pub returns-in-NoMemory-clause-holds : goal.returns-in-NoMemory-clause-holds
returns-in-NoMemory-clause-holds g c =
    let r = rw (c.in-Err.is, c.in-NoMemory.is) at c.read.ensures.reads in
    (r.0, gave_piece _ _ r.0 r.1, λ p s. stops_wanting (Unit {0}) _ c.args.intake.now p s)

pub returns-in-End-clause-holds : goal.returns-in-End-clause-holds
returns-in-End-clause-holds g c =
    let r = rw (c.in-Err.is, c.in-End.is) at c.read.ensures.reads in
    (r.0, gave_piece _ _ r.0 r.1, λ p s. stops_last _ c.end_of.result r.0 c.args.intake.now c.read.new.self p s r.2.1 r.2.0 r.2.2 c.end_of.ensures)

pub returns-in-Failed-clause-holds : goal.returns-in-Failed-clause-holds
returns-in-Failed-clause-holds g c =
    let r = rw (c.in-Err.is, c.in-Failed.is) at c.read.ensures.reads in
    (r.0, gave_piece _ _ r.0 r.1, λ p s. stops_failed (Unit {0}) r.0 c.args.intake.now p s r.2.1 (ends_there c.args.intake.now c.requires.waits))
