use Rattle.std.proofs.Common.{◌≡◌, ◌+◌, ◌<◌, ◌^◌, ◌++◌, length, Option, Ok, subst}
use Rattle.std.proofs.lemmas.Result.{err_from_is_err_and}
use Rattle.nv_world.specs.Worlds.{WorldRecord}
use Rattle.nv_book.specs.Upcoming.{ReadsNext}
use Rattle.nv_book.specs.declared.replay.Upcoming.{Upcoming}
use Rattle.nv_book.proofs.Standing.{gave_then}
use Rattle.nv_book.proofs.Entering.{one_for, unread_for}
use Rattle.nv_book.proofs.replay.Replay.next.Goals as goal

pub returns-in_err-upcoming-clause-goes : goal.returns-in_err-upcoming-clause-goes
returns-in_err-upcoming-clause-goes g c =
    let r = c.in_err-upcoming.ensures.goes in
    let e = err_from_is_err_and c.from_residual.result c.from_residual.ensures.1 in
    (r.0, r.1, λ fed records played i. rw (e.1, e.2) (r.2 fed records played i))

pub returns-in_err-step-in-Some-clause-goes : goal.returns-in_err-step-in-Some-clause-goes
returns-in_err-step-in-Some-clause-goes g c =
    let r = c.in_ok-upcoming.ensures.goes in
    let n = c.in_err-step-in-Some.ensures.goes in
    let e = err_from_is_err_and c.from_residual-in_err-step-in-Some.result c.from_residual-in_err-step-in-Some.ensures.1 in (
      r.0 ++ n.0,
      gave_then _ _ _ _ _ _ r.0 n.0 r.1 n.1,
      λ fed records played i.
          rw (e.1, e.2)
          (unread_for _ fed r.0 n.0 _ _
          (n.2 (fed ++ r.0) records played
          (subst (λ (o : Option Upcoming). ReadsNext (fed ++ r.0) (g.S.Source.words c.read.new.source).left records played (Ok o) c.read.new.self) c.in-Some.is (r.2 fed records played i)))),
    )

pub returns-in_ok-step-in-Some-clause-goes : goal.returns-in_ok-step-in-Some-clause-goes
returns-in_ok-step-in-Some-clause-goes g c =
    let r = c.in_ok-upcoming.ensures.goes in
    let n = c.in_ok-step-in-Some.ensures.goes in (
      r.0 ++ n.0,
      gave_then _ _ _ _ _ _ r.0 n.0 r.1 n.1,
      λ fed records played i.
          one_for fed r.0 n.0 records played c.in_ok-step-in-Some.step _
          (n.2 (fed ++ r.0) records played
          (subst (λ (o : Option Upcoming). ReadsNext (fed ++ r.0) (g.S.Source.words c.read.new.source).left records played (Ok o) c.read.new.self) c.in-Some.is (r.2 fed records played i))),
    )

pub returns-in-None-clause-goes : goal.returns-in-None-clause-goes
returns-in-None-clause-goes g c =
    let r = c.in_ok-upcoming.ensures.goes in (
      r.0,
      r.1,
      λ fed records played i.
          subst (λ (o : Option Upcoming). ReadsNext (fed ++ r.0) (g.S.Source.words c.read.new.source).left records played (Ok o) c.read.new.self) c.in-None.is (r.2 fed records played i),
    )

pub returns-in_ok-step-in-Some-clause-grows : goal.returns-in_ok-step-in-Some-clause-grows
returns-in_ok-step-in-Some-clause-grows g c = λ step is.
    subst (λ (k : WorldRecord). (length k.history < 2 ^ 63) × (length c.play.new.self.world.history ≡ length k.history + 1))
    c.in_ok-upcoming.ensures.world c.in_ok-step-in-Some.ensures.grows
