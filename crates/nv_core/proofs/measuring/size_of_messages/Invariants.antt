use Rattle.std.proofs.Common.{◌≡◌, drop, map}
use Rattle.nv_core.specs.Contents.{sent_of_shared}
use Rattle.nv_core.specs.Sizes.{memory_of_waiting}
use Rattle.nv_core.proofs.measuring.size_of_messages.Given as goal

abbrev pub invariant-loop-message : goal.invariant-loop-message
invariant-loop-message l =
    memory_of_waiting l.size (map sent_of_shared (drop l.message-index l.messages)) ≡ memory_of_waiting 0 (map sent_of_shared l.messages)
