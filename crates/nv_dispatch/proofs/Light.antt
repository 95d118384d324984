-- The arguments that were read weigh no more than what was given.
use Rattle.std.proofs.Common.{◌≡◌, ℕ, suc, ◌^◌, ◌<◌, ◌≤◌, Bool, true, false, List, [], ◌∷◌, subst, arith, Option, Some, None, Result, Ok, Err}
use Rattle.std.specs.Prelude.{if◌then◌else◌, option_map, option_and_then, is_some}
use Rattle.std.specs.List.{list_all}
use Rattle.std.proofs.lemmas.List.Elements.{All-nil, All-cons}
use Rattle.nv_value.specs.Content.{Tree, Trees, nil, truth, integer, big, text, bin, list, pairs, ext, opaque, no_more, one}
use Rattle.nv_value.specs.declared.fault.ApiFault.{ApiFault}
use Rattle.nv_args.specs.Arguments.{keys_with_values, pairs_in, string_in, require, answer_after, refuse, tree_list}
use Rattle.nv_args.specs.Faults.{wrong_type}
use Rattle.nv_args.specs.Reading.{Arg, number_arg, flag_arg, string_arg, list_arg, map_arg, any_arg, array_in, values_passing, is_mark_place, is_call, are_two_integers, arg_of, read_from, read}
use Rattle.nv_args.specs.Table.{Kind, Parameter, Signature, type_name}
use Rattle.nv_args.specs.Weight.{weight, weights}
use Rattle.nv_editor.specs.Light.{pairs_weight, arg_weight, AreLightArgs}
use Rattle.nv_dispatch.specs.inside.Weights.{list_weight}

-- an argument, if there is one, weighs no more than this
abbrev IsArgWithin : ℕ → Option Arg → Type 0
IsArgWithin n None = Unit {0}
IsArgWithin n (Some arg) = arg_weight arg ≤ n

number_within : (n : ℕ) {A : Type 0} (f : A → Arg) (o : Option A) → ((a : A) → arg_weight (f a) ≤ n) → IsArgWithin n (option_map f o)
number_within n f None h = tt
number_within n f (Some a) h = h a

string_within : (t : Tree) → IsArgWithin (weight t) (option_map string_arg (string_in t))
string_within nil = tt
string_within (truth b) = tt
string_within (integer z) = tt
string_within (big n) = tt
string_within (text bytes) = omega arith
string_within (bin bytes) = omega arith
string_within (list ts) = tt
string_within (pairs ts) = tt
string_within (ext kind bytes) = tt
string_within (opaque bytes) = tt

array_within : (t : Tree) → IsArgWithin (weight t) (option_map list_arg (array_in t))
array_within nil = tt
array_within (truth b) = tt
array_within (integer z) = tt
array_within (big n) = tt
array_within (text bytes) = tt
array_within (bin bytes) = tt
array_within (list ts) = omega arith
array_within (pairs ts) = tt
array_within (ext kind bytes) = tt
array_within (opaque bytes) = tt

pairs-within : (ts : Trees) → pairs_weight (keys_with_values ts) ≤ weights ts
pairs-within no_more = omega arith
pairs-within (one key no_more) = omega arith
pairs-within (one key (one value ts)) = omega (arith, pairs-within ts)

pairs_within : (t : Tree) → IsArgWithin (weight t) (option_map map_arg (pairs_in t))
pairs_within nil = tt
pairs_within (truth b) = tt
pairs_within (integer z) = tt
pairs_within (big n) = tt
pairs_within (text bytes) = tt
pairs_within (bin bytes) = tt
pairs_within (list no_more) = omega arith
pairs_within (list (one u ts)) = tt
pairs_within (pairs ts) = pairs-within ts
pairs_within (ext kind bytes) = tt
pairs_within (opaque bytes) = tt

passing_if : (b : Bool) (ts : Trees) (n : ℕ) → weights ts ≤ n → IsArgWithin n (option_map list_arg (if b then Some ts else None))
passing_if true ts n h = h
passing_if false ts n h = tt

passing_within : (test : List Tree → Bool) (t : Tree) → IsArgWithin (weight t) (option_map list_arg (option_and_then (values_passing test) (array_in t)))
passing_within test nil = tt
passing_within test (truth b) = tt
passing_within test (integer z) = tt
passing_within test (big n) = tt
passing_within test (text bytes) = tt
passing_within test (bin bytes) = tt
passing_within test (list ts) = passing_if (test (tree_list ts)) ts (weights ts) (omega arith)
passing_within test (pairs ts) = tt
passing_within test (ext kind bytes) = tt
passing_within test (opaque bytes) = tt

any_if : (b : Bool) (t : Tree) → IsArgWithin (weight t) (if b then Some (any_arg t) else None)
any_if true t = omega arith
any_if false t = tt

arg_within : (kind : Kind) (t : Tree) → IsArgWithin (weight t) (arg_of kind t)
arg_within Kind.integer_type t = number_within (weight t) number_arg _ (λ a. omega arith)
arg_within Kind.boolean t = number_within (weight t) flag_arg _ (λ a. omega arith)
arg_within Kind.string t = string_within t
arg_within Kind.array t = array_within t
arg_within Kind.dict t = pairs_within t
arg_within Kind.object t = omega arith
arg_within Kind.buffer t = number_within (weight t) number_arg _ (λ a. omega arith)
arg_within Kind.window t = number_within (weight t) number_arg _ (λ a. omega arith)
arg_within Kind.tabpage t = number_within (weight t) number_arg _ (λ a. omega arith)
arg_within Kind.buffer_id t = number_within (weight t) number_arg _ (λ a. omega arith)
arg_within Kind.window_id t = number_within (weight t) number_arg _ (λ a. omega arith)
arg_within Kind.tabpage_id t = number_within (weight t) number_arg _ (λ a. omega arith)
arg_within Kind.lines t = passing_within (list_all (λ item. is_some (string_in item))) t
arg_within Kind.cursor t = passing_within are_two_integers t
arg_within Kind.call_list t = passing_within (list_all is_call) t
arg_within Kind.mark_place t = any_if (is_mark_place t) t

-- arguments that could be read are light
abbrev IsLightRead : Result (List Arg) ApiFault → Type 0
IsLightRead (Ok args) = AreLightArgs args
IsLightRead (Err fault) = Unit {0}

with_first : (arg : Arg) (rest : Result (List Arg) ApiFault) → arg_weight arg < 2 ^ 31 → IsLightRead rest → IsLightRead (answer_after rest (λ args. Ok (arg ∷ args)))
with_first arg (Ok args) h all = All-cons (λ (a : Arg). arg_weight a < 2 ^ 31) arg args h all
with_first arg (Err fault) h all = tt

required : (n : ℕ) (o : Option Arg) (fault : ApiFault) (rest : Result (List Arg) ApiFault) → n < 2 ^ 31 → IsArgWithin n o → IsLightRead rest
    → IsLightRead (require o fault (λ arg. answer_after rest (λ args. Ok (arg ∷ args))))
required n None fault rest few h all = tt
required n (Some arg) fault rest few h all = with_first arg rest (omega (arith, h)) all

read_from_light : (n : ℕ) (method : List ℕ) (parameters : List Parameter) (given : List Tree) → list_weight given < 2 ^ 31 → IsLightRead (read_from n method parameters given)
read_from_light n method [] given h = All-nil (λ (a : Arg). arg_weight a < 2 ^ 31)
read_from_light n method (parameter ∷ parameters) [] h = All-nil (λ (a : Arg). arg_weight a < 2 ^ 31)
read_from_light n method (parameter ∷ parameters) (t ∷ given) h =
    required (weight t) (arg_of parameter.kind t) (wrong_type n method (type_name parameter.kind)) (read_from (suc n) method parameters given)
    (omega (arith, h)) (arg_within parameter.kind t) (read_from_light (suc n) method parameters given (omega (arith, h)))

refused_light : (b : Bool) (fault : ApiFault) (rest : Result (List Arg) ApiFault) → IsLightRead rest → IsLightRead (refuse b fault rest)
refused_light true fault rest h = tt
refused_light false fault rest h = h

read_light : (method : Signature) (given : List Tree) → list_weight given < 2 ^ 31 → IsLightRead (read method given)
read_light method given h = refused_light _ _ _ (read_from_light 1 method.name method.parameters given h)

-- what was read for a method weighs little
pub args_light : (method : Signature) (given : List Tree) (args : List Arg) → list_weight given < 2 ^ 31 → read method given ≡ Ok args → AreLightArgs args
args_light method given args h e = subst IsLightRead e (read_light method given h)
