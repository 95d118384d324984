use Rattle.std.proofs.Common.{◌∙◌, List, ℕ, refl, ap}
use Rattle.std.specs.Prelude.{Err}
use Rattle.std.specs.Io.KnownBytes.{append_known}
use Rattle.nv_speech.specs.Flows.{bytes_said, sent_in}
use Rattle.nv_speech.proofs.Flowing.{front_same, flows_all, flows_cut, front_cut, rose_after}
use Rattle.nv_halves.proofs.Writings.{unsaid_cut, unsaid_fault}
use Rattle.nv_halves.proofs.sending.send.Goals as goal

pub returns-in-Err-clause-err : goal.returns-in-Err-clause-err
returns-in-Err-clause-err g c =
    unsaid_cut c.in-Err.why c.end_unsaid.result _ c.end_unsaid.ensures
    (front_cut _ _ c.clear.new.self.items (bytes_said (g.V.Voice.told c.args.voice.now) (sent_in c.args.batch) c.args.batch.scene) c.clear.ensures.items c.in-Err.ensures.err)

pub returns-in-Err-clause-fault : goal.returns-in-Err-clause-fault
returns-in-Err-clause-fault g c = λ e. c.in-Err.ensures.fault (ap Err (unsaid_fault c.in-Err.why c.end_unsaid.result (Err c.end_unsaid.result) c.end_unsaid.ensures refl e))

pub returns-then-put_all-clause-ok : goal.returns-then-put_all-clause-ok
returns-then-put_all-clause-ok g c =
    let all = bytes_said (g.V.Voice.told c.args.voice.now) (sent_in c.args.batch) c.args.batch.scene in
    flows_all _ _ _ c.clear.new.self.items all c.say.new.room.items c.clear.ensures.items c.in_default.ensures.ok
    (c.if-put_all.ensures.all ∙ ap (λ (l : List ℕ). append_known (g.S.Sink.words c.say.new.output).taken l) c.deref.ensures.value)

pub returns-else-put_all-clause-err : goal.returns-else-put_all-clause-err
returns-else-put_all-clause-err g c =
    let all = bytes_said (g.V.Voice.told c.args.voice.now) (sent_in c.args.batch) c.args.batch.scene in
    let front = c.if-put_all.ensures.prefix in (
      tt,
      flows_cut _ _ _ c.clear.new.self.items all c.say.new.room.items c.clear.ensures.items c.in_default.ensures.ok
          (front_same _ _ c.deref.result.now c.say.new.room.items (record { count = front.0; written = front.2 }) c.deref.ensures.value),
    )

pub returns-else-put_all-clause-fault : goal.returns-else-put_all-clause-fault
returns-else-put_all-clause-fault g c = λ e. rose_after _ _ _ c.in_default.ensures.later c.if-put_all.ensures.failed
