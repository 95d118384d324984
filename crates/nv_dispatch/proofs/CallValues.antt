-- Calls as values: their parts, and how much these weigh.
use Rattle.std.proofs.Common.{◌≡◌, ℕ, ◌+◌, ◌<◌, ◌≤◌, List, [], ◌∷◌, ◌++◌, map, drop, length, refl, sym, ap, ◌∙◌, arith}
use Rattle.std.proofs.lemmas.List.{at_drop_more}
use Rattle.std.specs.Prelude.{suc, get_or, unwrap_or}
use Rattle.nv_value.specs.Content.{Tree, Trees, nil, truth, integer, big, text, bin, list, pairs, ext, opaque, no_more, one, count, trees_of}
use Rattle.nv_value.specs.View.{content, contents}
use Rattle.nv_value.specs.declared.value.Value.{Value}
use Rattle.nv_msgpack.specs.Shortest.{HasSpelling, HaveSpellings}
use Rattle.nv_rpc.specs.Outcomes.{call_result_content}
use Rattle.nv_rpc.specs.declared.outcome.CallResult.{CallResult}
use Rattle.nv_args.specs.Arguments.{tree_list, string_in}
use Rattle.nv_args.specs.Weight.{weight, weights}
use Rattle.nv_args.specs.Reading.{first_string, values_in, second_values, name_of_call, arguments_of_call}
use Rattle.nv_dispatch.specs.inside.Weights.{list_weight}

-- the values of a list, one by one, are their contents
pub tree_list-contents : (values : List Value) → tree_list (contents values) ≡ map content values
tree_list-contents [] = refl
tree_list-contents (value ∷ values) = ap (λ (ts : List Tree). content value ∷ ts) (tree_list-contents values)

-- the calls from a place on
pub calls-left : (calls : List Value) (place : ℕ) (call : Value) → place < length calls → call ≡ get_or calls place call
    → drop place calls ≡ call ∷ drop (place + 1) calls
calls-left calls place call within is =
    at_drop_more (λ (vs : List Value). vs) calls place call within
    ∙ ap (λ (v : Value). v ∷ drop (place + 1) calls) (sym is)

-- values weigh what they weigh one by one
pub weights-contents : (values : List Value) → weights (contents values) ≡ list_weight (map content values)
weights-contents [] = refl
weights-contents (value ∷ values) = ap (λ (n : ℕ). weight (content value) + n) (weights-contents values)

pub weights-list : (ts : Trees) → list_weight (tree_list ts) ≡ weights ts
weights-list no_more = refl
weights-list (one t ts) = ap (λ (n : ℕ). weight t + n) (weights-list ts)

-- the values in a value weigh no more than it
pub values_in-weight : (t : Tree) → list_weight (values_in t) ≤ weight t
values_in-weight nil = omega arith
values_in-weight (truth b) = omega arith
values_in-weight (integer z) = omega arith
values_in-weight (big n) = omega arith
values_in-weight (text bytes) = omega arith
values_in-weight (bin bytes) = omega arith
values_in-weight (list ts) = omega (arith, weights-list ts)
values_in-weight (pairs ts) = omega arith
values_in-weight (ext kind bytes) = omega arith
values_in-weight (opaque bytes) = omega arith

string-weight : (t : Tree) → length (unwrap_or (string_in t) []) ≤ weight t
string-weight nil = omega arith
string-weight (truth b) = omega arith
string-weight (integer z) = omega arith
string-weight (big n) = omega arith
string-weight (text bytes) = omega arith
string-weight (bin bytes) = omega arith
string-weight (list ts) = omega arith
string-weight (pairs ts) = omega arith
string-weight (ext kind bytes) = omega arith
string-weight (opaque bytes) = omega arith

-- so do a call's name and its arguments
parts-light : (ts : List Tree) → length (first_string ts) + list_weight (second_values ts) ≤ list_weight ts
parts-light [] = omega arith
parts-light (t ∷ []) = omega (arith, string-weight t)
parts-light (t ∷ u ∷ ts) = omega (arith, string-weight t, values_in-weight u)

pub call-weight : (t : Tree) → length (name_of_call t) + list_weight (arguments_of_call t) ≤ weight t
call-weight t = omega (arith, parts-light (values_in t), values_in-weight t)

-- one result more that can be spelled
pub spelled_more : (results : List CallResult) (result : CallResult) → HaveSpellings (trees_of (map call_result_content results)) → HasSpelling (call_result_content result)
    → HaveSpellings (trees_of (map call_result_content (results ++ result ∷ [])))
spelled_more [] result h s = (s, tt)
spelled_more (r ∷ results) result h s = (h.0, spelled_more results result h.1 s)

-- as many values as there are in the list
pub count-trees : (ts : List Tree) → count (trees_of ts) ≡ length ts
count-trees [] = refl
count-trees (t ∷ ts) = ap suc (count-trees ts)
