use Rattle.std.proofs.Common.{◌≡◌, ◌∷◌, [], List, length, map, ap, sym, ◌∙◌, subst, arith, rules, All}
use Rattle.std.specs.Prelude.{Err}
use Rattle.std.proofs.lemmas.Result.{err_from_is_err_and}
use Rattle.std.proofs.lemmas.List.{nil_from_length}
use Rattle.std.proofs.lemmas.List.Elements.{All-head, All-tail}
use Rattle.std.specs.Vec.Iter.{into_iter_items}
use Rattle.nv_msgpack.specs.Shortest.{shortest}
use Rattle.nv_rpc.specs.Messages.{IsSendable, message_tree}
use Rattle.nv_history.specs.Spoken.{bytes_of_messages}
use Rattle.nv_core.specs.Contents.{sent_of_shared}
use Rattle.nv_core.specs.declared.shared.SharedMessage.{SharedMessage}
use Rattle.nv_speech.proofs.Flowing.{rose_after, going_begins, going_on, going_ends, going_cut, passed_none, passed_on}
use Rattle.nv_speech.proofs.saying.send_messages.Goals as goal

sendable_first : (ms rest : List SharedMessage) (m : SharedMessage) → ms ≡ m ∷ rest → All IsSendable (map sent_of_shared ms)
    → IsSendable (sent_of_shared m) × All IsSendable (map sent_of_shared rest)
sendable_first ms rest m e h =
    let all = subst (λ (l : List SharedMessage). All IsSendable (map sent_of_shared l)) e h in
    (All-head IsSendable (sent_of_shared m) (map sent_of_shared rest) all, All-tail IsSendable (sent_of_shared m) (map sent_of_shared rest) all)

pub loop-message-init : goal.loop-message-init
loop-message-init g c =
    let same : into_iter_items c.into_iter-message-iterator.result ≡ c.args.messages.items = search rules in
    record {
      going = going_begins _ c.args.room.now.items _ _ (ap (λ (l : List SharedMessage). bytes_of_messages (map sent_of_shared l)) same);
      sendable = subst (λ (l : List SharedMessage). All IsSendable (map sent_of_shared l)) (sym same) c.requires;
      left = search rules;
      later = omega arith;
    }

pub send_message-requires : goal.send_message-requires
send_message-requires g c = (sendable_first _ _ c.in-Some.message c.in-Some.ensures.steps.0 c.loop-message.invariant.sendable).0

pub returns-in_err-send_message-clause-err : goal.returns-in_err-send_message-clause-err
returns-in_err-send_message-clause-err g c =
    let rest : List SharedMessage = into_iter_items c.next.new.self in
    let p = err_from_is_err_and c.from_residual.result c.from_residual.ensures.1 in
    passed_on c.from_residual.result c.in_err-send_message.field-0.0 (p.1 ∙ ap Err p.2)
    (going_cut _ _ _ c.args.room.now.items c.loop-message.room.items (shortest (message_tree (sent_of_shared c.in-Some.message))) (bytes_of_messages (map sent_of_shared rest)) _ _ c.loop-message.invariant.going
    (ap (λ (l : List SharedMessage). bytes_of_messages (map sent_of_shared l)) c.in-Some.ensures.steps.0))
    c.in_err-send_message.ensures.err

pub loop-message-preserved : goal.loop-message-preserved
loop-message-preserved g c =
    let rest : List SharedMessage = into_iter_items c.next.new.self in
    record {
      going =
          going_on _ _ _ c.args.room.now.items c.loop-message.room.items c.send_message.new.room.items (shortest (message_tree (sent_of_shared c.in-Some.message))) (bytes_of_messages (map sent_of_shared rest)) _ _
          c.loop-message.invariant.going (ap (λ (l : List SharedMessage). bytes_of_messages (map sent_of_shared l)) c.in-Some.ensures.steps.0) c.in_ok-send_message.ensures.ok;
      sendable = (sendable_first _ _ c.in-Some.message c.in-Some.ensures.steps.0 c.loop-message.invariant.sendable).1;
      left = omega (arith, c.loop-message.invariant.left, ap (length {A = SharedMessage}) c.in-Some.ensures.steps.0, c.in-Some.ensures.steps.1);
      later = omega (arith, c.loop-message.invariant.later, c.in_ok-send_message.ensures.later);
    }

pub returns-clause-ok : goal.returns-clause-ok
returns-clause-ok g c =
    let none : into_iter_items c.loop-message.message-iterator ≡ [] = nil_from_length _ (omega (arith, c.loop-message.invariant.left, c.in-None.ensures.steps.0)) in
    going_ends _ _ c.args.room.now.items c.loop-message.room.items _ _ c.loop-message.invariant.going (ap (λ (l : List SharedMessage). bytes_of_messages (map sent_of_shared l)) none)

pub returns-in_err-send_message-clause-fault : goal.returns-in_err-send_message-clause-fault
returns-in_err-send_message-clause-fault g c =
    let p = err_from_is_err_and c.from_residual.result c.from_residual.ensures.1 in
    λ e. rose_after _ _ _ c.loop-message.invariant.later (c.in_err-send_message.ensures.fault (sym (p.1 ∙ ap Err p.2) ∙ e))

pub returns-clause-later : goal.returns-clause-later
returns-clause-later g c = omega (arith, c.loop-message.invariant.later)

pub returns-in_err-send_message-clause-ok : goal.returns-in_err-send_message-clause-ok
returns-in_err-send_message-clause-ok g c =
    let p = err_from_is_err_and c.from_residual.result c.from_residual.ensures.1 in
    passed_none _ c.from_residual.result c.in_err-send_message.field-0.0 (p.1 ∙ ap Err p.2)

pub returns-in_err-send_message-clause-later : goal.returns-in_err-send_message-clause-later
returns-in_err-send_message-clause-later g c = omega (arith, c.loop-message.invariant.later, c.in_err-send_message.ensures.later)
