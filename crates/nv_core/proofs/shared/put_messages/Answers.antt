use Rattle.std.proofs.Common.{rules, ◌≡◌, ℕ, List, ◌∷◌, ◌++◌, map, All, sym, ap, ◌∙◌, subst, append_assoc}
use Rattle.std.specs.Vec.Iter.{into_iter_items}
use Rattle.std.proofs.lemmas.List.Elements.{All-tail}
use Rattle.nv_msgpack.specs.Shortest.{shortest}
use Rattle.nv_rpc.specs.Messages.{message_tree, IsSendable}
use Rattle.nv_history.specs.Spoken.{bytes_of_messages}
use Rattle.nv_core.specs.Contents.{sent_of_shared}
use Rattle.nv_core.specs.declared.shared.SharedMessage.{SharedMessage}
use Rattle.nv_core.proofs.shared.put_messages.Goals as goal

pub loop-message-preserved : goal.loop-message-preserved
loop-message-preserved c =
    let left = into_iter_items c.next.new.self in
    let old = c.loop-message.into.items in
    let first : into_iter_items c.loop-message.message-iterator ≡ c.in-Some.message ∷ left = search rules in
    let sent = sent_of_shared c.in-Some.message in
    record {
      next = search rules;
      finite = search rules;
      told = ap (λ (l : List ℕ). l ++ bytes_of_messages (map sent_of_shared left)) c.in_ok-put_shared.ensures
          ∙ append_assoc old (shortest (message_tree sent)) (bytes_of_messages (map sent_of_shared left))
          ∙ ap (λ (l : List SharedMessage). old ++ bytes_of_messages (map sent_of_shared l)) (sym first)
          ∙ c.loop-message.invariant.told;
      sendable = All-tail IsSendable sent (map sent_of_shared left)
          (subst (λ (l : List SharedMessage). All IsSendable (map sent_of_shared l)) first c.loop-message.invariant.sendable);
    }
