-- What has been copied so far has the content of the results gone over.
use Rattle.std.proofs.Common.{◌≡◌, map, take}
use Rattle.nv_rpc.specs.Outcomes.{call_result_content}
use Rattle.nv_rpc.proofs.outcome.copies_of.Given as goal

abbrev pub invariant-loop-result : goal.invariant-loop-result
invariant-loop-result l = map call_result_content l.copies.items ≡ map call_result_content (take l.result-index l.results)
