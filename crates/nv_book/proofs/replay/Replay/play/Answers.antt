use Rattle.std.proofs.Common.{◌++◌, sym, subst}
use Rattle.std.proofs.lemmas.Result.{err_from_is_err_and}
use Rattle.nv_book.specs.Reading.{Replaying}
use Rattle.nv_book.specs.Upcoming.{HasEntered, IsUpcoming}
use Rattle.nv_book.proofs.Entering.{entering_of}
use Rattle.nv_book.proofs.replay.Replay.play.Goals as goal

pub returns-in_err-step-clause-goes : goal.returns-in_err-step-clause-goes
returns-in_err-step-clause-goes g c =
    let n = c.in_err-step.ensures.goes in
    let e = err_from_is_err_and c.from_residual.result c.from_residual.ensures.1 in
    let s = c.self.inside in (
      n.0,
      n.1,
      λ fed records played i.
          let k = subst (λ (z : Replaying). IsUpcoming fed records played c.args.upcoming z) (sym c.self.view_is) i in
          rw (e.1, e.2) (n.2 s.start fed records played (entering_of s.start fed records played c.args.upcoming s.intake s.player s.recorded.items k)),
    )

pub returns-clause-goes : goal.returns-clause-goes
returns-clause-goes g c =
    let n = c.in_ok-step.ensures.goes in
    let s = c.self.inside in (
      n.0,
      n.1,
      λ fed records played i.
          let k = subst (λ (z : Replaying). IsUpcoming fed records played c.args.upcoming z) (sym c.self.view_is) i in
          n.2 s.start fed records played (entering_of s.start fed records played c.args.upcoming s.intake s.player s.recorded.items k),
    )

pub returns-clause-enters : goal.returns-clause-enters
returns-clause-enters g c =
    subst (λ (z : Replaying). HasEntered c.args.upcoming.heading.entry z.world c.enter.new.player.world c.in_ok-step.step)
    c.self.view_is c.in_ok-step.ensures.enters
