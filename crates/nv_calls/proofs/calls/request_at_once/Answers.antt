use Rattle.nv_rpc.specs.Frames.{call_of_frame}
use Rattle.nv_calls.proofs.AtOnce.{held_begins}
use Rattle.nv_calls.proofs.calls.request_at_once.Goals as goal

pub skip-requires-clause-whole : goal.skip-requires-clause-whole
skip-requires-clause-whole c =
    let h = rw c.in-Some-2.is at c.in_ok-call.ensures in
    let b = held_begins c.args.stream.now c.in-Some.bytes.now (call_of_frame c.in-Some-2.call) c.in-Some-2.length c.requires.depth c.requires.most c.in-Some.ensures.held h in
    (b.0, b.1)

pub returns-clause-takes : goal.returns-clause-takes
returns-clause-takes c =
    let h = rw c.in-Some-2.is at c.in_ok-call.ensures in
    let b = held_begins c.args.stream.now c.in-Some.bytes.now (call_of_frame c.in-Some-2.call) c.in-Some-2.length c.requires.depth c.requires.most c.in-Some.ensures.held h in
    (b.0, c.skip.ensures b.0 b.1 b.2, b.3)
