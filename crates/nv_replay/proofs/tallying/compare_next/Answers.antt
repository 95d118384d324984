use Rattle.std.proofs.Common.{rules, ◌≡◌, ◌∙◌, ◌++◌, Err, ap}
use Rattle.std.proofs.lemmas.Result.{err_from_is_err_and}
use Rattle.nv_book.specs.declared.faults.Unread.{Unread}
use Rattle.nv_replay.proofs.Seeing.{goes_on, unread_one}
use Rattle.nv_replay.proofs.tallying.compare_next.Goals as goal

pub returns-in_err-step-clause-goes : goal.returns-in_err-step-clause-goes
returns-in_err-step-clause-goes g c =
    let t = c.in_err-step.ensures.goes in
    let p = err_from_is_err_and c.from_residual.result c.from_residual.ensures.1 in
    let is : c.from_residual.result ≡ Err c.in_err-step.field-0.0 = p.1 ∙ ap (λ (u : Unread). Err u) p.2 in (
      t.0,
      t.1,
      λ fed records played seen coming. unread_one _ _ records played seen _ _ _ _ is (t.2 fed records played coming.upcoming),
    )

pub returns-clause-goes : goal.returns-clause-goes
returns-clause-goes g c =
    let t = c.in_ok-step.ensures.goes in (
      t.0,
      t.1,
      λ fed records played seen coming.
          goes_on fed (fed ++ t.0) records played seen c.args.upcoming c.in_ok-step.step _ _ c.args.replay.now c.play.new.self coming c.in_ok-step.ensures.same (search rules)
          (t.2 fed records played coming.upcoming),
    )
