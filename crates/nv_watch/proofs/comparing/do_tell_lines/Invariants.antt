-- Whether one of those that are left does, since none did so far.
use Rattle.std.proofs.Common.{◌≡◌, map, drop}
use Rattle.std.specs.List.{list_any}
use Rattle.nv_rpc.specs.MessageView.{sent_of}
use Rattle.nv_watch.specs.Folds.{tells_lines}
use Rattle.nv_watch.proofs.comparing.do_tell_lines.Given as goal

abbrev pub invariant-loop-message : goal.invariant-loop-message
invariant-loop-message l =
    list_any (tells_lines l.followed.buffer) (map sent_of (drop l.message-index l.messages))
    ≡ list_any (tells_lines l.followed.buffer) (map sent_of l.messages)
