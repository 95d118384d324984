use Rattle.std.proofs.Common.{List, ℕ, ◌∙◌, ap, sym, subst, take}
use Rattle.std.specs.Io.KnownBytes.{append_known}
use Rattle.nv_io.specs.declared.lanes.Ended.{Ended}
use Rattle.nv_session.specs.inside.Serving.{EndsIn, bytes_waiting, state_of}
use Rattle.nv_speech.proofs.Flowing.{rose_after}
use Rattle.nv_session.proofs.Gathering.{serves_all, serves_short, ends_short_of, rose_before}
use Rattle.nv_session.proofs.session.Session.serve_held.Goals as goal

pub returns-then-put_all-clause-serves : goal.returns-then-put_all-clause-serves
returns-then-put_all-clause-serves g c =
    let a = c.answer_held-answered.ensures.serves in
    let u = (g.S.Sink.words c.answer_held-answered.new.output).taken in
    serves_all c.answer_held-answered.result (state_of c.args.self.now c.args.world.now) (state_of c.answer_held-answered.new.self c.answer_held-answered.new.world) a.0 (bytes_waiting c.answer_held-answered.new.self) _ u _ c.requires.ready
    (c.if-put_all.ensures.all ∙ ap (λ (l : List ℕ). append_known u l) c.deref.ensures.value) a.2 a.1

pub returns-in-Ok-clause-serves : goal.returns-in-Ok-clause-serves
returns-in-Ok-clause-serves g c =
    let first = state_of c.args.self.now c.args.world.now in
    let last = state_of c.answer_held-answered.new.self c.answer_held-answered.new.world in
    let a = rw c.in-Ok.is at c.answer_held-answered.ensures.serves in
    let u = (g.S.Sink.words c.answer_held-answered.new.output).taken in
    let front = c.if-put_all.ensures.prefix in
    serves_short c.in-Ok.field-0 first last a.0 (bytes_waiting c.answer_held-answered.new.self) front.0 _ u _ c.requires.ready
    (front.2 ∙ ap (λ (l : List ℕ). append_known u (take front.0 l)) c.deref.ensures.value) a.2 a.1

pub returns-in-Err-clause-serves : goal.returns-in-Err-clause-serves
returns-in-Err-clause-serves g c =
    let first = state_of c.args.self.now c.args.world.now in
    let last = state_of c.answer_held-answered.new.self c.answer_held-answered.new.world in
    let a = rw c.in-Err.is at c.answer_held-answered.ensures.serves in
    let u = (g.S.Sink.words c.answer_held-answered.new.output).taken in
    let front = c.if-put_all.ensures.prefix in
    subst (λ (x : Ended). EndsIn ⊥ x c.args.self.now.intake.held first last (g.S.Sink.words c.args.output.now).taken (g.S.Sink.words c.put_all.new.sink).taken) (sym c.end_by_fault.ensures)
    (ends_short_of c.in-Err.ended first last a.0 (bytes_waiting c.answer_held-answered.new.self) front.0 _ u _ c.requires.ready
    (front.2 ∙ ap (λ (l : List ℕ). append_known u (take front.0 l)) c.deref.ensures.value) a.2 a.1)

pub returns-then-put_all-clause-fault : goal.returns-then-put_all-clause-fault
returns-then-put_all-clause-fault g c = λ e. rose_before _ _ _ (c.answer_held-answered.ensures.fault e) c.if-put_all.ensures.later

pub returns-in-Ok-clause-fault : goal.returns-in-Ok-clause-fault
returns-in-Ok-clause-fault g c = λ e. rose_after _ _ _ c.answer_held-answered.ensures.later c.if-put_all.ensures.failed

pub returns-in-Err-clause-fault : goal.returns-in-Err-clause-fault
returns-in-Err-clause-fault g c = λ e. rose_after _ _ _ c.answer_held-answered.ensures.later c.if-put_all.ensures.failed
