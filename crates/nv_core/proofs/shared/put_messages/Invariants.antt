use Rattle.std.proofs.Common.{◌≡◌, ◌++◌, map}
use Rattle.std.specs.Prelude.{All}
use Rattle.std.specs.Vec.Iter.{into_iter_items}
use Rattle.nv_rpc.specs.Messages.{IsSendable}
use Rattle.nv_history.specs.Spoken.{bytes_of_messages}
use Rattle.nv_core.specs.Contents.{sent_of_shared}
use Rattle.nv_core.proofs.shared.put_messages.Given as goal

abbrev pub invariant-loop-message : goal.invariant-loop-message
invariant-loop-message l = record {
  next : (goal.iterator-loop-message).can_next l.message-iterator;
  finite : (goal.iterator-loop-message).is_finite l.message-iterator;
  told : l.into.items ++ bytes_of_messages (map sent_of_shared (into_iter_items l.message-iterator)) ≡ l.fn.into.items ++ bytes_of_messages (map sent_of_shared l.fn.messages.items);
  sendable : All IsSendable (map sent_of_shared (into_iter_items l.message-iterator));
}
