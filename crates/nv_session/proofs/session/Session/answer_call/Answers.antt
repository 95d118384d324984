use Rattle.std.proofs.Common.{◌≡◌, [], Some, None, refl, sym, subst, inl, inr}
use Rattle.std.proofs.lemmas.Result.{err_from_is_err_and}
use Rattle.nv_rpc.specs.Frames.{call_of_frame}
use Rattle.nv_core.specs.declared.start.Start.{Start}
use Rattle.nv_speech.specs.Flows.{bytes_said, sent_in}
use Rattle.nv_world.specs.Worlds.{start_of}
use Rattle.nv_session.specs.Sending.{cause_after}
use Rattle.nv_session.specs.inside.Alone.{HasNothingDue}
use Rattle.nv_session.specs.inside.Serving.{bytes_waiting, state_of}
use Rattle.nv_session.specs.inside.Worlds.{entries_in, IsEndedBy}
use Rattle.nv_session.proofs.Steps.{unanswered_part, cut_at, goes_on, ended_call}
use Rattle.nv_session.proofs.Gathering.{nothing_added}
use Rattle.nv_session.proofs.session.Session.answer_call.Goals as goal

pub returns-in_default-clause-answers : goal.returns-in_default-clause-answers
returns-in_default-clause-answers g c =
    let w = c.args.world.now in (
      [],
      unanswered_part (start_of w) (entries_in w) (entries_in c.answer.new.world) (call_of_frame c.args.call) c.args.self.now.painter.told (Some []) c.requires.alone c.in_default.ensures.err,
      inl (nothing_added _ (bytes_waiting c.args.self.now)),
    )

pub returns-in_err-put-clause-answers : goal.returns-in_err-put-clause-answers
returns-in_err-put-clause-answers g c =
    let p = err_from_is_err_and c.from_residual.result c.from_residual.ensures.1 in
    let e = c.in_err-put.ensures.err in
    let told = c.args.self.now.painter.told in (
      bytes_said told (sent_in c.in-Ok.batch) c.in-Ok.batch.scene,
      rw (p.1, p.2)
          (cut_at c.in_err-put.field-0.0 c.args.world.now c.answer.new.world (call_of_frame c.args.call) (sent_in c.in-Ok.batch) c.in-Ok.batch.scene told e.0 c.requires.alone c.in-Ok.ensures.answers),
      rw (p.1, p.2) (inr e),
    )

pub ended-requires-clause-nothing_due : goal.ended-requires-clause-nothing_due
ended-requires-clause-nothing_due g c =
    subst (λ (d : Start). HasNothingDue d (entries_in c.answer.new.world)) (sym c.in-Ok.ensures.begins) c.in-Ok.ensures.answers.nothing_due

pub returns-in-None-clause-answers : goal.returns-in-None-clause-answers
returns-in-None-clause-answers g c =
    let told = c.args.self.now.painter.told in (
      bytes_said told (sent_in c.in-Ok.batch) c.in-Ok.batch.scene,
      goes_on (call_of_frame c.args.call) (sent_in c.in-Ok.batch) c.in-Ok.batch.scene (state_of c.args.self.now c.args.world.now) _ (Some []) _ c.in_ok-put.ensures.intake
          c.in-Ok.ensures.begins c.in_ok-put.ensures.told c.in-Ok.ensures.answers refl
          (subst (λ (d : Start). cause_after d (entries_in c.answer.new.world) ≡ None) c.in-Ok.ensures.begins c.in-None.ensures),
      c.in_ok-put.ensures.ok,
    )

pub returns-in-Some-clause-answers : goal.returns-in-Some-clause-answers
returns-in-Some-clause-answers g c =
    let told = c.args.self.now.painter.told in (
      bytes_said told (sent_in c.in-Ok.batch) c.in-Ok.batch.scene,
      ended_call c.in-Some.ended (call_of_frame c.args.call) (sent_in c.in-Ok.batch) c.in-Ok.batch.scene c.args.world.now c.answer.new.world told (Some []) _
          c.in-Ok.ensures.answers refl
          (subst (λ (d : Start). IsEndedBy (Some c.in-Some.ended) (cause_after d (entries_in c.answer.new.world))) c.in-Ok.ensures.begins c.in-Some.ensures),
      inl c.in_ok-put.ensures.ok,
    )
