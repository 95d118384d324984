-- What has been made, with what is left, has the content of all results.
use Rattle.std.proofs.Common.{◌≡◌, ◌++◌, map, length}
use Rattle.std.specs.Vec.Iter.{into_iter_items, into_iter_len}
use Rattle.nv_value.specs.View.{content}
use Rattle.nv_rpc.specs.Outcomes.{call_result_content}
use Rattle.nv_rpc.proofs.outcome.results_value.Given as goal

abbrev pub invariant-loop-result : goal.invariant-loop-result
invariant-loop-result l = record {
  all : map content l.values.items ++ map call_result_content (into_iter_items l.result-iterator) ≡ map call_result_content l.fn.results.items;
  left : into_iter_len l.result-iterator ≡ length (into_iter_items l.result-iterator);
}
