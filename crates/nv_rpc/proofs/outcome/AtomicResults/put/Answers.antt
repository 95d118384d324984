use Rattle.std.proofs.Common.{◌≡◌, ℕ, List, ◌++◌, length, map, ap, sym, subst, ◌∙◌, arith}
use Rattle.std.proofs.lemmas.Result.{on_ok_weaker}
use Rattle.nv_value.specs.Content.{trees_of}
use Rattle.nv_msgpack.specs.Shortest.{HaveSpellings}
use Rattle.nv_rpc.specs.Outcomes.{call_result_content}
use Rattle.nv_rpc.specs.inside.Fronts.{atomic_head}
use Rattle.nv_rpc.specs.declared.outcome.CallResult.{CallResult}
use Rattle.nv_rpc.proofs.Puts.{all_spelled}
use Rattle.nv_rpc.proofs.Spelled.{atomic_put, are_spellable, few_results}
use Rattle.nv_rpc.proofs.outcome.AtomicResults.put.Goals as goal

pub put_atomic_head-requires : goal.put_atomic_head-requires
put_atomic_head-requires c = omega (arith, few_results c.args.self.now c.requires, c.len.ensures, c.args.self.now.results.ok.0)

pub put_results-requires : goal.put_results-requires
put_results-requires c =
    subst (λ (rs : List CallResult). HaveSpellings (trees_of (map call_result_content rs))) (sym c.as_slice.ensures.value) (are_spellable c.args.self.now c.requires).results

pub encode-requires : goal.encode-requires
encode-requires c = (are_spellable c.args.self.now c.requires).stop

pub returns : goal.returns
returns c =
    let many : c.len.result ≡ length c.args.self.now.results.items = c.len.ensures ∙ c.args.self.now.results.ok.0 in
    on_ok_weaker c.encode.result
    (atomic_put c.args.self.now c.args.into.now.items c.put_atomic_head.new.into.items c.put_results.new.into.items c.encode.new.into.items
    (c.in_ok-put_atomic_head.ensures ∙ ap (λ (n : ℕ). c.args.into.now.items ++ atomic_head n) many)
    (c.in_ok-put_results.ensures ∙ ap (λ (rs : List CallResult). c.put_atomic_head.new.into.items ++ all_spelled call_result_content rs) c.as_slice.ensures.value))
    c.encode.ensures.ok
