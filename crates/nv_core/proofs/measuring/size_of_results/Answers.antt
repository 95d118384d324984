use Rattle.std.proofs.Common.{ℕ, List, map, refl, ap, ◌∙◌}
use Rattle.nv_value.specs.Content.{trees_of}
use Rattle.nv_rpc.specs.Outcomes.{call_result_content}
use Rattle.nv_rpc.specs.declared.outcome.CallResult.{CallResult}
use Rattle.nv_core.specs.Sizes.{plus, memory_of, memory_with}
use Rattle.nv_core.proofs.Sizing.{counted_more, counted_all}
use Rattle.nv_core.proofs.measuring.size_of_results.Goals as goal

abbrev memory_of_results : ℕ → List CallResult → ℕ
memory_of_results n results = memory_with (trees_of (map call_result_content results)) n

pub loop-one-preserved : goal.loop-one-preserved
loop-one-preserved c =
    counted_more memory_of_results (λ (n : ℕ) (r : CallResult). plus n (memory_of (call_result_content r))) (λ n r rs. refl) c.args.results.now
    c.loop-one.one-index c.loop-one.size c.saturating_add-size.result (memory_of_results 32 c.args.results.now) c.one-item.result
    c.loop-one-test.true c.one-item.is (c.saturating_add-size.ensures ∙ ap (λ (k : ℕ). plus c.loop-one.size k) c.size_of_result.ensures)
    c.loop-one.invariant

pub returns : goal.returns
returns c =
    counted_all memory_of_results (λ n. refl) c.args.results.now c.loop-one.one-index c.loop-one.size (memory_of_results 32 c.args.results.now)
    c.loop-one-test.false c.loop-one.invariant
