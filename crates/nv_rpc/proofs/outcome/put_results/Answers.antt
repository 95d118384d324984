use Rattle.std.proofs.Common.{arith}
use Rattle.nv_rpc.specs.Outcomes.{call_result_content}
use Rattle.nv_rpc.proofs.Puts.{one_more_put, all_were_put, spelled_at}
use Rattle.nv_rpc.proofs.outcome.put_results.Goals as goal

pub put-requires : goal.put-requires
put-requires c = spelled_at call_result_content c.args.results.now c.loop-result.result-index c.result-item.result (omega arith) c.result-item.is c.requires

pub loop-result-preserved : goal.loop-result-preserved
loop-result-preserved c =
    one_more_put call_result_content c.args.results.now c.loop-result.result-index c.result-item.result c.loop-result.into.items c.put.new.into.items _ (omega arith)
    c.result-item.is c.loop-result.invariant c.in_ok-put.ensures

pub returns : goal.returns
returns c =
    all_were_put call_result_content c.args.results.now c.loop-result.result-index c.args.into.now.items c.loop-result.into.items (omega arith) c.loop-result.invariant
