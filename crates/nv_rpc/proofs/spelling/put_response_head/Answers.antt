use Rattle.nv_rpc.proofs.Spelled.{response_head_put}
use Rattle.nv_rpc.proofs.spelling.put_response_head.Goals as goal

pub returns : goal.returns
returns c =
    response_head_put c.extend_from_slice-2.result c.args.into.now.items c.extend_from_slice.new.self.items c.put_unsigned.new.into.items c.extend_from_slice-2.new.self.items
    c.args.msgid c.from.result c.from.ensures c.in_ok-extend_from_slice.ensures.items c.in_ok-put_unsigned.ensures.ok c.extend_from_slice-2.ensures.items
