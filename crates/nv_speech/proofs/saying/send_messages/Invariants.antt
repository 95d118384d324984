-- What has been put, with what is left, is all of it.
use Rattle.std.proofs.Common.{◌≡◌, ◌≤◌, length, map, All}
use Rattle.std.specs.Vec.Iter.{into_iter_items, into_iter_len}
use Rattle.nv_rpc.specs.Messages.{IsSendable}
use Rattle.nv_history.specs.Spoken.{bytes_of_messages}
use Rattle.nv_core.specs.Contents.{sent_of_shared}
use Rattle.nv_speech.proofs.Flowing.{IsGoing}
use Rattle.nv_speech.proofs.saying.send_messages.Given as goal

abbrev pub invariant-loop-message : goal.invariant-loop-message
invariant-loop-message g l = record {
  going : IsGoing (g.S.Sink.words l.initial.output).taken (g.S.Sink.words l.output).taken l.initial.room.items l.room.items
      (bytes_of_messages (map sent_of_shared (into_iter_items l.message-iterator))) (bytes_of_messages (map sent_of_shared l.fn.messages.items));
  sendable : All IsSendable (map sent_of_shared (into_iter_items l.message-iterator));
  left : into_iter_len l.message-iterator ≡ length (into_iter_items l.message-iterator);
  later : (g.S.Sink.words l.initial.output).faults ≤ (g.S.Sink.words l.output).faults;
}
