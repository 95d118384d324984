use Rattle.std.proofs.Common.{◌≡◌, List, [], ◌∷◌, map, ap, ◌∙◌}
use Rattle.nv_rpc.specs.Messages.{items}
use Rattle.nv_rpc.specs.Outcomes.{call_result_content}
use Rattle.nv_rpc.specs.declared.outcome.CallResult.{CallResult}
use Rattle.nv_rpc.proofs.outcome.AtomicResults.copy.Goals as goal

pub returns : goal.returns
returns c =
    let results : map call_result_content c.in_ok-results.results.items ≡ map call_result_content c.args.self.now.results.items =
    c.in_ok-results.ensures ∙ ap (λ (l : List CallResult). map call_result_content l) c.as_slice.ensures.value in
    λ i. items (items (results i) ∷ c.in_ok-stop.ensures i ∷ [])
