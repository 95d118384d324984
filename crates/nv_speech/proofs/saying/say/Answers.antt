use Rattle.std.proofs.Common.{◌++◌, List, ℕ, ap, sym, ◌∙◌}
use Rattle.std.specs.Prelude.{Err}
use Rattle.std.proofs.lemmas.Result.{err_from_is_err_and}
use Rattle.nv_history.specs.Spoken.{bytes_of_messages, bytes_of_scene}
use Rattle.nv_speech.specs.Flows.{sent_in}
use Rattle.nv_speech.proofs.Flowing.{goes_same, goes_more, goes_flush, goes_cut, flush_cut, front_before, front_same, none_out, ok_goes, err_front, passed_on, rose_after}
use Rattle.nv_speech.proofs.saying.say.Goals as goal

pub returns-in_err-send_messages-clause-err : goal.returns-in_err-send_messages-clause-err
returns-in_err-send_messages-clause-err g c =
    let room = c.args.room.now.items in
    let made = c.make_room.new.room.items in
    let messages = bytes_of_messages (sent_in c.args.batch) in
    let scene = bytes_of_scene (g.V.Voice.told c.args.voice.now) c.args.batch.scene in
    let p = err_from_is_err_and c.from_residual.result c.from_residual.ensures.1 in
    passed_on c.from_residual.result c.in_err-send_messages.field-0.0 (p.1 ∙ ap Err p.2)
    (λ f. front_same _ _ (made ++ (messages ++ scene)) (room ++ (messages ++ scene)) (front_before _ _ made messages scene f) (ap (λ (l : List ℕ). l ++ (messages ++ scene)) c.make_room.ensures))
    c.in_err-send_messages.ensures.err

pub returns-in_err-send_messages-clause-fault : goal.returns-in_err-send_messages-clause-fault
returns-in_err-send_messages-clause-fault g c =
    let p = err_from_is_err_and c.from_residual.result c.from_residual.ensures.1 in
    λ e. c.in_err-send_messages.ensures.fault (sym (p.1 ∙ ap Err p.2) ∙ e)

pub returns-in_default-clause-err : goal.returns-in_default-clause-err
returns-in_default-clause-err g c =
    let room = c.args.room.now.items in
    let made = c.make_room.new.room.items in
    let messages = bytes_of_messages (sent_in c.args.batch) in
    let scene = bytes_of_scene (g.V.Voice.told c.args.voice.now) c.args.batch.scene in
    front_same _ _ (made ++ (messages ++ scene)) (room ++ (messages ++ scene))
    (goes_cut _ _ _ made messages c.send_messages.new.room.items scene c.in_ok-send_messages.ensures.ok (none_out _ (c.send_messages.new.room.items ++ scene)))
    (ap (λ (l : List ℕ). l ++ (messages ++ scene)) c.make_room.ensures)

pub returns-clause-ok : goal.returns-clause-ok
returns-clause-ok g c =
    let room = c.args.room.now.items in
    let made = c.make_room.new.room.items in
    let messages = bytes_of_messages (sent_in c.args.batch) in
    let scene = bytes_of_scene (g.V.Voice.told c.args.voice.now) c.args.batch.scene in
    let flows = goes_more _ _ made messages c.send_messages.new.room.items scene c.speak.new.into.items c.in_ok-send_messages.ensures.ok c.in-Ok.ensures.spoken in
    let same = goes_same _ _ made (messages ++ scene) room (messages ++ scene) c.speak.new.into.items flows (ap (λ (l : List ℕ). l ++ (messages ++ scene)) c.make_room.ensures) in
    ok_goes c.put_out.result (goes_flush _ _ _ room (messages ++ scene) c.speak.new.into.items _ same) c.put_out.ensures.ok

pub returns-clause-err : goal.returns-clause-err
returns-clause-err g c =
    let room = c.args.room.now.items in
    let made = c.make_room.new.room.items in
    let messages = bytes_of_messages (sent_in c.args.batch) in
    let scene = bytes_of_scene (g.V.Voice.told c.args.voice.now) c.args.batch.scene in
    let flows = goes_more _ _ made messages c.send_messages.new.room.items scene c.speak.new.into.items c.in_ok-send_messages.ensures.ok c.in-Ok.ensures.spoken in
    let same = goes_same _ _ made (messages ++ scene) room (messages ++ scene) c.speak.new.into.items flows (ap (λ (l : List ℕ). l ++ (messages ++ scene)) c.make_room.ensures) in
    err_front c.put_out.result (flush_cut _ _ _ room (messages ++ scene) c.speak.new.into.items same) c.put_out.ensures.err

pub returns-clause-fault : goal.returns-clause-fault
returns-clause-fault g c = λ e. rose_after _ _ _ c.in_ok-send_messages.ensures.later (c.put_out.ensures.fault e)
