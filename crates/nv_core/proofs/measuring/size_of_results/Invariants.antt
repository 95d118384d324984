use Rattle.std.proofs.Common.{◌≡◌, drop, map}
use Rattle.nv_value.specs.Content.{trees_of}
use Rattle.nv_rpc.specs.Outcomes.{call_result_content}
use Rattle.nv_core.specs.Sizes.{memory_with}
use Rattle.nv_core.proofs.measuring.size_of_results.Given as goal

abbrev pub invariant-loop-one : goal.invariant-loop-one
invariant-loop-one l =
    memory_with (trees_of (map call_result_content (drop l.one-index l.results))) l.size ≡ memory_with (trees_of (map call_result_content l.results)) 32
