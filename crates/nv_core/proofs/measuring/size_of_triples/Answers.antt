use Rattle.std.proofs.Common.{◌≡◌, ℕ, ◌+◌, ◌<◌, List, map, drop, length, sym, ap, ◌∙◌}
use Rattle.std.proofs.lemmas.List.{at_drop_more}
use Rattle.nv_value.specs.Content.{trees_of}
use Rattle.nv_rpc.specs.Outcomes.{triple_content}
use Rattle.nv_rpc.specs.declared.outcome.Triple.{Triple}
use Rattle.nv_core.specs.Sizes.{plus, memory_of, memory_with}
use Rattle.nv_core.proofs.measuring.size_of_triples.Goals as goal

-- one more is counted
next_counted : (triples : List Triple) (i n one more total : ℕ) (x : Triple) → i < length triples
    → one ≡ memory_of (triple_content x) → more ≡ plus n one
    → memory_with (trees_of (map triple_content (drop i triples))) n ≡ total
    → memory_with (trees_of (map triple_content (drop (i + 1) triples))) more ≡ total
next_counted triples i n one more total x within is so e =
    ap (λ (k : ℕ). memory_with (trees_of (map triple_content (drop (i + 1) triples))) k)
    (so ∙ ap (λ (k : ℕ). plus n k) is)
    ∙ sym (at_drop_more (λ (ts : List Triple). memory_with (trees_of (map triple_content ts)) n) triples i x within)
    ∙ e

pub loop-triple-preserved : goal.loop-triple-preserved
loop-triple-preserved c =
    next_counted c.args.triples.now c.loop-triple.triple-index c.loop-triple.size c.size_of_triple.result
    c.saturating_add-size.result _ (record { first = 0; second = 0; third = 0 })
    c.loop-triple-test.true c.size_of_triple.ensures c.saturating_add-size.ensures c.loop-triple.invariant
