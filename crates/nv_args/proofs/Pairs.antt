-- What a value gives as a Dict.
use Rattle.std.proofs.Common.{◌≡◌, List, [], ◌∷◌, map, Some, refl, sym, ap, ◌∙◌}
use Rattle.nv_value.specs.Content.{Tree, pairs, in_turn}
use Rattle.nv_value.specs.View.{pair_content, pair_contents}
use Rattle.nv_value.specs.declared.value.Pair.{Pair}
use Rattle.nv_args.specs.Arguments.{keys_with_values, pairs_in}

-- pairs in turn are paired again
keys_with_values-in_turn : (ps : List (Tree × Tree)) → keys_with_values (in_turn ps) ≡ ps
keys_with_values-in_turn [] = refl
keys_with_values-in_turn (p ∷ ps) = ap (λ (qs : List (Tree × Tree)). p ∷ qs) (keys_with_values-in_turn ps)

-- a map gives its pairs
pub pairs_in-map : (t : Tree) (fields : List Pair) → t ≡ pairs (pair_contents fields) → Some (map pair_content fields) ≡ pairs_in t
pairs_in-map t fields e = sym (ap pairs_in e ∙ ap Some (keys_with_values-in_turn (map pair_content fields)))
