use Rattle.std.proofs.Common.{[], ◌∷◌, ◌++◌, Option, subst, arith}
use Rattle.std.specs.Prelude.{Ok}
use Rattle.std.proofs.lemmas.Result.{err_from_is_err_and}
use Rattle.nv_value.specs.View.{content}
use Rattle.nv_value.specs.declared.value.Value.{Value}
use Rattle.nv_book.specs.inside.Intakes.{GivesOne}
use Rattle.nv_book.proofs.Standing.{gave_none, gave_then, given_still, given_for, stops_for}
use Rattle.nv_book.proofs.intake.Intake.value.Goals as goal

pub loop-value-init : goal.loop-value-init
loop-value-init g c = record {
  given = ([], gave_none _ _, λ fed values h. given_still fed values c.args.self.now.taken c.args.self.now.stream h);
  later = omega arith;
}

pub returns-in_err-value-clause-takes : goal.returns-in_err-value-clause-takes
returns-in_err-value-clause-takes g c =
    let i = c.loop-value.invariant.given in
    let s = c.in_err-value.ensures.steps in
    let p = err_from_is_err_and c.from_residual.result c.from_residual.ensures.1 in
    (i.0 ++ s.0, gave_then _ _ _ _ _ _ i.0 s.0 i.1 s.1, λ fed values h. rw (p.1, p.2) (stops_for fed i.0 s.0 _ values _ _ (s.2 (fed ++ i.0) values (i.2 fed values h))))

pub returns-in-Some-clause-takes : goal.returns-in-Some-clause-takes
returns-in-Some-clause-takes g c =
    let i = c.loop-value.invariant.given in
    let s = c.in_ok-value.ensures.steps in (
      i.0 ++ s.0,
      gave_then _ _ _ _ _ _ i.0 s.0 i.1 s.1,
      λ fed values h.
          given_for fed i.0 s.0 (values ++ content c.in-Some.value ∷ []) _ _
          (subst (λ (o : Option Value). GivesOne ((fed ++ i.0) ++ s.0) (g.S.Source.words c.step.new.source).left values (Ok o) c.step.new.self) c.in-Some.is (s.2 (fed ++ i.0) values (i.2 fed values h))),
    )

pub loop-value-preserved : goal.loop-value-preserved
loop-value-preserved g c =
    let i = c.loop-value.invariant.given in
    let s = c.in_ok-value.ensures.steps in
    record {
      given = (
        i.0 ++ s.0,
        gave_then _ _ _ _ _ _ i.0 s.0 i.1 s.1,
        λ fed values h.
            given_for fed i.0 s.0 values _ _
            (subst (λ (o : Option Value). GivesOne ((fed ++ i.0) ++ s.0) (g.S.Source.words c.step.new.source).left values (Ok o) c.step.new.self) c.in_default.is (s.2 (fed ++ i.0) values (i.2 fed values h))),
      );
      later = omega (arith, c.in_ok-value.ensures.later, c.loop-value.invariant.later);
    }
