use Rattle.std.proofs.Common.{◌∙◌, ◌++◌, [], ◌∷◌, List, cond, map, not, true, false, append_assoc, sym, ap}
use Rattle.nv_value.specs.Content.{Tree, truth}
use Rattle.nv_value.specs.View.{pair_content}
use Rattle.nv_model.specs.Answering.{key_value}
use Rattle.nv_api_mark.proofs.details.push_undo.Goals as goal

pub returns : goal.returns
returns c = λ rest.
    let m = c.args.mark in
    let first : List (Tree × Tree) = cond (not m.restore) (key_value "undo_restore" (truth false) ∷ []) [] in
    let second : List (Tree × Tree) = cond m.invalidate (key_value "invalidate" (truth true) ∷ []) [] in
    let third : List (Tree × Tree) = cond m.hidden (key_value "invalid" (truth true) ∷ []) [] in
    c.in_ok-push_told-3.ensures rest
    ∙ c.in_ok-push_told-2.ensures (third ++ rest)
    ∙ c.in_ok-push_told.ensures (second ++ (third ++ rest))
    ∙ ap (λ (l : List (Tree × Tree)). map pair_content c.args.fields.now.items ++ l)
    (sym (append_assoc first second (third ++ rest)) ∙ sym (append_assoc (first ++ second) third rest))
