use Rattle.std.proofs.Common.{Bool, true, false, [], ◌++◌, List, ℕ, Some, refl, ◌∙◌, arith, sym, subst}
use Rattle.std.specs.Prelude.{Ok, Err}
use Rattle.std.proofs.lemmas.Result.{err_from_is_err_and}
use Rattle.nv_speech.specs.Flows.{FlowsOut}
use Rattle.nv_session.specs.inside.Serving.{bytes_waiting, state_of}
use Rattle.nv_session.proofs.Serving.{served_none, served_on, ends_on}
use Rattle.nv_session.proofs.Gathering.{steps_behind, goes_behind, nothing_added}
use Rattle.nv_session.proofs.session.Session.answer_held.Goals as goal

pub loop-init : goal.loop-init
loop-init g c = record {
  served = (
    [],
    served_none (state_of c.args.self.now c.args.world.now) (Some []),
    subst (λ (l : List ℕ). FlowsOut (g.S.Sink.words c.args.output.now).taken (g.S.Sink.words c.args.output.now).taken [] [] l) (sym c.requires.nothing_waits) (nothing_added _ []),
  );
  ready = c.requires.ready;
  begins = refl;
  later = omega arith;
}

pub loop-preserved : goal.loop-preserved
loop-preserved g c =
    let i = c.loop.invariant in
    let s = rw c.if-branch.true at c.in_ok-step.ensures.steps in
    let first = state_of c.args.self.now c.args.world.now in
    let second = state_of c.loop.self c.loop.world in
    let third = state_of c.step.new.self c.step.new.world in
    let on = steps_behind (Ok true) second third i.served.0 s.0 s.1 in
    record {
      served = (
        i.served.0 ++ s.0,
        served_on _ first second third _ _ _ i.served.1 on.0,
        goes_behind {A = Bool} (Ok true) _ _ _ i.served.0 (bytes_waiting c.loop.self) s.0 (bytes_waiting c.step.new.self) i.served.2 s.2,
      );
      ready = on.1;
      begins = c.in_ok-step.ensures.begins ∙ i.begins;
      later = omega (arith, c.in_ok-step.ensures.later, i.later);
    }

pub loop-smaller : goal.loop-smaller
loop-smaller g c =
    let s = rw c.if-branch.true at c.in_ok-step.ensures.steps in
    s.1.2

pub returns-in_err-step-clause-serves : goal.returns-in_err-step-clause-serves
returns-in_err-step-clause-serves g c =
    let i = c.loop.invariant in
    let s = c.in_err-step.ensures.steps in
    let first = state_of c.args.self.now c.args.world.now in
    let second = state_of c.loop.self c.loop.world in
    let last = state_of c.step.new.self c.step.new.world in
    let p = err_from_is_err_and c.from_residual.result c.from_residual.ensures.1 in (
      i.served.0 ++ s.0,
      rw (p.1, p.2) (ends_on ⊥ c.in_err-step.field-0.0 _ first second last _ _ _ i.served.1 (steps_behind (Err c.in_err-step.field-0.0) second last i.served.0 s.0 s.1)),
      rw (p.1, p.2) (goes_behind {A = Bool} (Err c.in_err-step.field-0.0) _ _ _ i.served.0 (bytes_waiting c.loop.self) s.0 (bytes_waiting c.step.new.self) i.served.2 s.2),
    )

pub returns-clause-serves : goal.returns-clause-serves
returns-clause-serves g c =
    let i = c.loop.invariant in
    let s = rw c.if-branch.false at c.in_ok-step.ensures.steps in
    let first = state_of c.args.self.now c.args.world.now in
    let second = state_of c.loop.self c.loop.world in
    let last = state_of c.step.new.self c.step.new.world in
    let on = steps_behind (Ok false) second last i.served.0 s.0 s.1 in (
      i.served.0 ++ s.0,
      (served_on _ first second last _ _ _ i.served.1 on.0, on.1, on.2),
      goes_behind {A = Bool} (Ok false) _ _ _ i.served.0 (bytes_waiting c.loop.self) s.0 (bytes_waiting c.step.new.self) i.served.2 s.2,
    )
