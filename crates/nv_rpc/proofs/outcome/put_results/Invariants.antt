-- What has been put so far, and what is left, is all of it.
use Rattle.std.proofs.Common.{◌≡◌, ◌++◌, drop}
use Rattle.nv_rpc.specs.Outcomes.{call_result_content}
use Rattle.nv_rpc.proofs.Puts.{all_spelled}
use Rattle.nv_rpc.proofs.outcome.put_results.Given as goal

abbrev pub invariant-loop-result : goal.invariant-loop-result
invariant-loop-result l =
    l.into.items ++ all_spelled call_result_content (drop l.result-index l.results) ≡ l.initial.into.items ++ all_spelled call_result_content l.results
