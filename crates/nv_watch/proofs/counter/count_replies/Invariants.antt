-- The replies so far, and those of the messages that are left, are all.
use Rattle.std.proofs.Common.{◌≡◌, ◌≤◌, ◌+◌, map, drop}
use Rattle.nv_rpc.specs.MessageView.{sent_of}
use Rattle.nv_watch.specs.Counting.{replies_among}
use Rattle.nv_watch.proofs.counter.count_replies.Given as goal

abbrev pub invariant-loop-message : goal.invariant-loop-message
invariant-loop-message l = record {
  count : l.count + replies_among (map sent_of (drop l.message-index l.messages)) ≡ replies_among (map sent_of l.messages);
  most : l.count ≤ l.message-index;
}
