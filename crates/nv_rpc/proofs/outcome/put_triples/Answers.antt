use Rattle.std.proofs.Common.{arith}
use Rattle.nv_rpc.proofs.Triples.{all_were_put}
use Rattle.nv_rpc.proofs.outcome.put_triples.Goals as goal

pub returns : goal.returns
returns c =
    all_were_put c.args.triples.now c.loop-triple.triple-index c.args.into.now.items c.put_list_head.new.into.items c.loop-triple.into.items
    (omega arith) c.in_ok-put_list_head.ensures.ok c.loop-triple.invariant
