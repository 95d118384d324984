use Rattle.std.proofs.Common.{[], ◌++◌, Ok, refl, ap, ◌∙◌, arith}
use Rattle.std.proofs.lemmas.Result.{err_from_is_err_and}
use Rattle.nv_mirror.specs.inside.Steps.{standing_of}
use Rattle.nv_mirror.proofs.Outs.{known_none, known_both}
use Rattle.nv_mirror.proofs.Standings.{steps_none, steps_on, steps_stop}
use Rattle.nv_mirror.proofs.client.Client.take_held.Goals as goal

pub loop-init : goal.loop-init
loop-init g c = record {
  stepped = ([], known_none _, steps_none ⊥ (standing_of c.args.self.now) _ refl);
  ready = c.requires.ready;
  same = refl;
  later = omega arith;
}

pub loop-preserved : goal.loop-preserved
loop-preserved g c =
    let s = c.in_ok-step.ensures.steps in
    let i = c.loop.invariant.stepped in
    record {
      stepped = (
        i.0 ++ s.0,
        known_both _ _ _ i.0 s.0 i.1 s.1,
        steps_on ⊥ ⊥ [] [] i.0 s.0 (standing_of c.args.self.now) (standing_of c.loop.self) (standing_of c.step.new.self) i.2 s.2,
      );
      ready = c.in_ok-step.ensures.ready;
      same = c.in_ok-step.ensures.same ∙ c.loop.invariant.same;
      later = omega (arith, c.in_ok-step.ensures.later, c.loop.invariant.later);
    }

pub returns-in_err-step-clause-steps : goal.returns-in_err-step-clause-steps
returns-in_err-step-clause-steps g c =
    let s = c.in_err-step.ensures.steps in
    let i = c.loop.invariant.stepped in
    let p = err_from_is_err_and c.from_residual.result c.from_residual.ensures.1 in
    rw (p.1, p.2) (
      i.0 ++ s.0,
      known_both _ _ _ i.0 s.0 i.1 s.1,
      steps_stop ⊥ ⊥ c.in_err-step.field-0.0 [] [] i.0 s.0 (standing_of c.args.self.now) (standing_of c.loop.self) (standing_of c.step.new.self) i.2 s.2,
    )

pub returns-clause-steps : goal.returns-clause-steps
returns-clause-steps g c =
    let s = c.in_ok-step.ensures.steps in
    let i = c.loop.invariant.stepped in (
      i.0 ++ s.0,
      known_both _ _ _ i.0 s.0 i.1 s.1,
      steps_on ⊥ ⊥ [] [] i.0 s.0 (standing_of c.args.self.now) (standing_of c.loop.self) (standing_of c.step.new.self) i.2 s.2,
    )

pub loop-smaller : goal.loop-smaller
loop-smaller g c = c.in_ok-step.ensures.smaller (ap Ok c.if-branch.true)

pub returns-clause-waits : goal.returns-clause-waits
returns-clause-waits g c = c.in_ok-step.ensures.waits (ap Ok c.if-branch.false)
