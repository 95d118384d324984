use Rattle.std.proofs.Common.{◌≡◌, ◌++◌}
use Rattle.std.specs.Vec.Iter.{into_iter_items}
use Rattle.nv_painter.specs.Spoken.{AreSendable, spoken_messages}
use Rattle.nv_painter.proofs.speaking.speak_messages.Given as goal

abbrev pub invariant-loop-message : goal.invariant-loop-message
invariant-loop-message l = record {
  told : l.into.items ++ spoken_messages (into_iter_items l.message-iterator) ≡ l.fn.into.items ++ spoken_messages l.fn.messages.items;
  sendable : AreSendable (into_iter_items l.message-iterator);
}
