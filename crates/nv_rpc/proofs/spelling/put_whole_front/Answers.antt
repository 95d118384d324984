use Rattle.nv_msgpack.specs.Shortest.{shortest}
use Rattle.nv_rpc.specs.Messages.{message_tree}
use Rattle.nv_rpc.specs.MessageView.{sent_of}
use Rattle.nv_rpc.proofs.Spelled.{none_left}
use Rattle.nv_rpc.proofs.spelling.put_whole_front.Goals as goal

pub returns-clause-put : goal.returns-clause-put
returns-clause-put c =
    none_left c.args.into.now.items c.put_whole.new.into.items (shortest (message_tree (sent_of c.args.message))) c.in_ok-put_whole.ensures
