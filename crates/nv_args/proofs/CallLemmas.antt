-- A call as a value.
use Rattle.std.proofs.Common.{◌≡◌, ◌≤◌, List, [], ◌∷◌, length, map, refl, sym, ap, ◌∙◌, arith}
use Rattle.std.specs.Prelude.{get_or, unwrap_or}
use Rattle.nv_value.specs.Content.{Tree, Trees}
use Rattle.nv_value.specs.View.{content, contents}
use Rattle.nv_value.specs.declared.value.Value.{Value}
use Rattle.nv_args.specs.Arguments.{tree_list}
use Rattle.nv_args.specs.Reading.{array_in, values_in, second_values}
use Rattle.nv_args.proofs.KindLemmas.{tree_list-contents}

-- the values of a list, and none of another value
values-are : (t : Tree) → tree_list (unwrap_or (array_in t) Trees.no_more) ≡ values_in t
values-are Tree.nil = refl
values-are (Tree.truth b) = refl
values-are (Tree.integer n) = refl
values-are (Tree.big n) = refl
values-are (Tree.text bytes) = refl
values-are (Tree.bin bytes) = refl
values-are (Tree.list ts) = refl
values-are (Tree.pairs ts) = refl
values-are (Tree.ext kind bytes) = refl
values-are (Tree.opaque bytes) = refl

pub parts-of : (items : List Value) (t : Tree) → contents items ≡ unwrap_or (array_in t) Trees.no_more → map content items ≡ values_in t
parts-of items t e = sym (tree_list-contents items) ∙ ap tree_list e ∙ values-are t

-- the value that stands second
pub second-is : (parts : List Value) (v : Value) → 2 ≤ length parts → v ≡ get_or parts 1 v
    → values_in (content v) ≡ second_values (map content parts)
second-is [] v many is = absurd (omega arith)
second-is (first ∷ []) v many is = absurd (omega arith)
second-is (first ∷ second ∷ parts) v many is = ap (λ (u : Value). values_in (content u)) is
