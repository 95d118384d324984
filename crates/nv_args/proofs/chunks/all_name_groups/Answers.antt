use Rattle.std.proofs.Common.{◌≡◌, Bool, false, sym, ap, ◌∙◌, arith, is_some}
use Rattle.std.specs.List.{list_all}
use Rattle.std.proofs.lemmas.List.Folds.{list_all-map, list_all_at}
use Rattle.std.proofs.lemmas.List.{take_all}
use Rattle.nv_value.specs.Content.{Tree}
use Rattle.nv_value.specs.View.{content}
use Rattle.nv_value.specs.declared.value.Value.{Value}
use Rattle.nv_args.specs.inside.Parts.{names_group_of}
use Rattle.nv_args.proofs.chunks.all_name_groups.Goals as goal

abbrev passes : Tree → Bool
passes = names_group_of

pub returns-then-not-names_group_of : goal.returns-then-not-names_group_of
returns-then-not-names_group_of c =
    let no : passes (content c.item-item.result) ≡ false = sym c.names_group_of.ensures ∙ c.if-not-names_group_of.true in
    sym (list_all-map passes content c.args.items.now
    ∙ list_all_at (λ (v : Value). passes (content v)) c.args.items.now c.loop-item.item-index c.item-item.result (omega arith)
    (ap (λ (v : Value). passes (content v)) (sym c.item-item.is) ∙ no))

pub returns : goal.returns
returns c =
    sym (list_all-map passes content c.args.items.now
    ∙ ap (list_all (λ (v : Value). passes (content v))) (sym (take_all c.loop-item.item-index c.args.items.now (omega arith)))
    ∙ c.loop-item.invariant)
