use Rattle.std.proofs.Common.{[], Some, refl, ap, inl}
use Rattle.std.proofs.lemmas.Result.{err_from_is_err_and}
use Rattle.nv_rpc.specs.Frames.{call_of_frame}
use Rattle.nv_calls.specs.Intakes.{IntakeState}
use Rattle.nv_session.specs.inside.Serving.{bytes_waiting, state_of}
use Rattle.nv_session.proofs.Steps.{light_call, cut_none, stopped_at, served_one, flawed}
use Rattle.nv_session.proofs.Gathering.{needs_on, nothing_added}
use Rattle.nv_session.proofs.session.Session.step.Goals as goal

pub answer_call-requires-clause-light : goal.answer_call-requires-clause-light
answer_call-requires-clause-light g c =
    let n = rw c.in-Call.is at c.in-Ok.ensures.ok in
    light_call (call_of_frame c.in-Call.call) n.short

pub returns-in_default-clause-steps : goal.returns-in_default-clause-steps
returns-in_default-clause-steps g c =
    ([], cut_none _ (state_of c.args.self.now c.args.world.now) _ (Some []) c.requires.ready refl, inl (nothing_added _ (bytes_waiting c.args.self.now)))

pub returns-in_err-answer_call-in-Call-clause-steps : goal.returns-in_err-answer_call-in-Call-clause-steps
returns-in_err-answer_call-in-Call-clause-steps g c =
    let n = rw c.in-Call.is at c.in-Ok.ensures.ok in
    let a = c.in_err-answer_call-in-Call.ensures.answers in
    let p = err_from_is_err_and c.from_residual.result c.from_residual.ensures.1 in (
      a.0,
      rw (p.1, p.2) (stopped_at c.in_err-answer_call-in-Call.field-0.0 (call_of_frame c.in-Call.call) (state_of c.args.self.now c.args.world.now) (state_of c.answer_call.new.self c.answer_call.new.world) c.next.new.self (Some []) (Some a.0) n a.1),
      rw (p.1, p.2) a.2,
    )

pub returns-in_ok-answer_call-in-Call-clause-steps : goal.returns-in_ok-answer_call-in-Call-clause-steps
returns-in_ok-answer_call-in-Call-clause-steps g c =
    let n = rw c.in-Call.is at c.in-Ok.ensures.ok in
    let a = c.in_ok-answer_call-in-Call.ensures.answers in
    (a.0, served_one (call_of_frame c.in-Call.call) (state_of c.args.self.now c.args.world.now) (state_of c.answer_call.new.self c.answer_call.new.world) c.next.new.self (Some []) (Some a.0) n a.1, a.2)

pub returns-in-More-clause-steps : goal.returns-in-More-clause-steps
returns-in-More-clause-steps g c =
    let n = rw c.in-More.is at c.in-Ok.ensures.ok in
    let s = state_of c.args.self.now c.args.world.now in
    ([], needs_on s _ (Some []) c.requires.ready (ap (λ (x : IntakeState). record s { intake = x }) n.0) n.1, nothing_added _ (bytes_waiting c.args.self.now))

pub returns-in-Flaw-clause-steps : goal.returns-in-Flaw-clause-steps
returns-in-Flaw-clause-steps g c =
    let n = rw c.in-Flaw.is at c.in-Ok.ensures.ok in
    ([], flawed c.in-Flaw.flaw (state_of c.args.self.now c.args.world.now) _ (Some []) c.requires.ready refl n, inl (nothing_added _ (bytes_waiting c.args.self.now)))
