use Rattle.std.proofs.Common.{◌∙◌, ◌++◌, [], ◌∷◌, Bool, cond, map, sym, ap}
use Rattle.nv_value.specs.Content.{text, truth}
use Rattle.nv_value.specs.View.{pair_content}
use Rattle.nv_api_mark.proofs.details.push_told.Goals as goal

pub returns-then-not-is_told : goal.returns-then-not-is_told
returns-then-not-is_told c = λ rest.
    ap (λ (t : Bool). map pair_content c.args.fields.now.items ++ (cond t ((text c.args.key.now, truth c.args.is_set) ∷ []) [] ++ rest))
    (sym c.if-not-is_told.true)

pub returns : goal.returns
returns c = λ rest.
    c.in_ok-put_truth.ensures rest
    ∙ ap (λ (t : Bool). map pair_content c.args.fields.now.items ++ (cond t ((text c.args.key.now, truth c.args.is_set) ∷ []) [] ++ rest))
    (sym c.if-not-is_told.false)
