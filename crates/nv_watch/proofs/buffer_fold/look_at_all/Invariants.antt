-- The mirrors before the place were looked at, the others are as they were.
use Rattle.std.proofs.Common.{map}
use Rattle.nv_rpc.specs.MessageView.{sent_of}
use Rattle.nv_model.specs.Standing.{seen_now}
use Rattle.nv_watch.proofs.Looking.{AreLooked}
use Rattle.nv_watch.proofs.buffer_fold.look_at_all.Given as goal

abbrev pub invariant-loop-place : goal.invariant-loop-place
invariant-loop-place l =
    AreLooked (seen_now l.editor) l.step (map sent_of l.messages) l.fn.all.items l.all.items l.place l.other
