use Rattle.std.proofs.Common.{Bool, true, ◌++◌, ◌∙◌, ap, subst, ℕ, ◌+◌, ◌≡◌, length, length-append, arith}
use Rattle.std.specs.Prelude.{Ok}
use Rattle.std.proofs.lemmas.Result.{err_from_is_err_and}
use Rattle.nv_book.specs.inside.Intakes.{Skips}
use Rattle.nv_book.proofs.Standing.{gave_then}
use Rattle.nv_book.proofs.intake.Intake.drain.Goals as goal

pub returns-in_err-skip-clause-drains : goal.returns-in_err-skip-clause-drains
returns-in_err-skip-clause-drains g c =
    let i = c.loop.invariant.drained in
    let s = c.in_err-skip.ensures.skips in
    let p = err_from_is_err_and c.from_residual.result c.from_residual.ensures.1 in
    (i.0 ++ s.0, gave_then _ _ _ _ _ _ i.0 s.0 i.1 s.1, rw p.1 tt)

pub loop-preserved : goal.loop-preserved
loop-preserved g c =
    let i = c.loop.invariant.drained in
    let s = c.in_ok-skip.ensures.skips in
    let more = subst (λ (b : Bool). Skips s.0 (g.S.Source.words c.skip.new.source).left (Ok b) c.loop.self c.skip.new.self) c.if-branch.true s.2 in
    record {
      drained = (i.0 ++ s.0, gave_then _ _ _ _ _ _ i.0 s.0 i.1 s.1, omega (arith, more.2, i.2, length-append i.0 s.0));
      later = omega (arith, c.in_ok-skip.ensures.later, c.loop.invariant.later);
    }
