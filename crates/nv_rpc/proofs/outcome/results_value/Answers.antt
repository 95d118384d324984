use Rattle.std.proofs.Common.{◌≡◌, List, ap, sym, ◌∙◌, map, ◌∷◌, [], ◌++◌, append_assoc, length, arith}
use Rattle.std.proofs.lemmas.List.{map-append, append-nil, nil_from_length}
use Rattle.std.specs.Vec.Iter.{into_iter_items}
use Rattle.nv_value.specs.Content.{Tree, list, trees_of}
use Rattle.nv_value.specs.View.{content}
use Rattle.nv_value.proofs.Contents.{content-List}
use Rattle.nv_rpc.specs.Outcomes.{call_result_content}
use Rattle.nv_rpc.specs.declared.outcome.CallResult.{CallResult}
use Rattle.nv_rpc.proofs.outcome.results_value.Goals as goal

pub loop-result-preserved : goal.loop-result-preserved
loop-result-preserved c =
    let values = map content c.loop-result.values.items in
    let rest : List CallResult = into_iter_items c.next.new.self in
    record {
      all =
          ap (λ (front : List Tree). front ++ map call_result_content rest) (ap (map content) c.in_ok-push.ensures.items ∙ map-append content c.loop-result.values.items _)
          ∙ append_assoc values (content c.in_ok-into_value.field-0 ∷ []) (map call_result_content rest)
          ∙ ap (λ (t : Tree). values ++ t ∷ map call_result_content rest) c.in_ok-into_value.ensures
          ∙ ap (λ (rs : List CallResult). values ++ map call_result_content rs) (sym c.in-Some.ensures.steps.0)
          ∙ c.loop-result.invariant.all;
      left = omega (arith, c.loop-result.invariant.left, ap (length {A = CallResult}) c.in-Some.ensures.steps.0, c.in-Some.ensures.steps.1);
    }

pub returns : goal.returns
returns c =
    let none : into_iter_items c.loop-result.result-iterator ≡ [] = nil_from_length _ (omega (arith, c.loop-result.invariant.left, c.in-None.ensures.steps.0)) in
    content-List c.loop-result.values
    ∙ ap (λ (ts : List Tree). list (trees_of ts)) (sym (append-nil (map content c.loop-result.values.items))
    ∙ ap (λ (rs : List CallResult). map content c.loop-result.values.items ++ map call_result_content rs) (sym none)
    ∙ c.loop-result.invariant.all)
