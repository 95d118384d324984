use Rattle.std.proofs.lemmas.Result.{on_ok_weaker}
use Rattle.nv_rpc.proofs.Triples.{triple_put}
use Rattle.nv_rpc.proofs.outcome.put_triple.Goals as goal

pub returns : goal.returns
returns c =
    on_ok_weaker c.put_unsigned-3.result
    (triple_put c.args.triple c.from.result c.from-2.result c.from-3.result c.args.into.now.items c.extend_from_slice.new.self.items c.put_unsigned.new.into.items
    c.put_unsigned-2.new.into.items c.put_unsigned-3.new.into.items
    c.from.ensures c.from-2.ensures c.from-3.ensures c.in_ok-extend_from_slice.ensures.items c.in_ok-put_unsigned.ensures.ok c.in_ok-put_unsigned-2.ensures.ok)
    c.put_unsigned-3.ensures.ok
