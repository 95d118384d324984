use Rattle.std.proofs.Common.{◌≡◌, Bool, false, sym, ap, ◌∙◌, arith, is_some}
use Rattle.std.specs.List.{list_all}
use Rattle.std.proofs.lemmas.List.Folds.{list_all-map, list_all_at}
use Rattle.std.proofs.lemmas.List.{take_all}
use Rattle.nv_value.specs.Content.{Tree}
use Rattle.nv_value.specs.View.{content}
use Rattle.nv_value.specs.declared.value.Value.{Value}
use Rattle.nv_args.specs.Chunks.{chunk_in}
use Rattle.nv_args.proofs.chunks.all_are_chunks.Goals as goal

abbrev passes : Tree → Bool
passes = λ (t : Tree). is_some (chunk_in t)

pub returns-then-not-is_chunk : goal.returns-then-not-is_chunk
returns-then-not-is_chunk c =
    let no : passes (content c.item-item.result) ≡ false = sym c.is_chunk.ensures ∙ c.if-not-is_chunk.true in
    sym (list_all-map passes content c.args.items.now
    ∙ list_all_at (λ (v : Value). passes (content v)) c.args.items.now c.loop-item.item-index c.item-item.result (omega arith)
    (ap (λ (v : Value). passes (content v)) (sym c.item-item.is) ∙ no))

pub returns : goal.returns
returns c =
    sym (list_all-map passes content c.args.items.now
    ∙ ap (list_all (λ (v : Value). passes (content v))) (sym (take_all c.loop-item.item-index c.args.items.now (omega arith)))
    ∙ c.loop-item.invariant)
