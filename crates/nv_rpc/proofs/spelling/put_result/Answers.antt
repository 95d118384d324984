use Rattle.std.proofs.lemmas.Result.{on_ok_weaker}
use Rattle.nv_rpc.specs.Outcomes.{outcome_content}
use Rattle.nv_rpc.proofs.Spelled.{response_put}
use Rattle.nv_rpc.proofs.spelling.put_result.Goals as goal

pub returns : goal.returns
returns c =
    on_ok_weaker c.put.result
    (response_put c.args.into.now.items c.put_response_head.new.into.items c.put.new.into.items c.args.msgid (outcome_content c.args.outcome.now)
    c.in_ok-put_response_head.ensures)
    c.put.ensures
