use Rattle.std.proofs.lemmas.Result.{on_ok_weaker}
use Rattle.nv_rpc.proofs.Spelled.{atomic_head_put}
use Rattle.nv_rpc.proofs.outcome.put_atomic_head.Goals as goal

pub returns : goal.returns
returns c =
    on_ok_weaker c.put_list_head.result
    (atomic_head_put c.args.into.now.items c.extend_from_slice.new.self.items c.put_list_head.new.into.items c.args.count c.in_ok-extend_from_slice.ensures.items)
    c.put_list_head.ensures.ok
