-- The reading of a call's arguments by the method's parameters: their number, and then their types,
-- the first argument first (help: api-types).
use Rattle.std.specs.Prelude.{ℕ, suc, ℤ, pos, ◌==◌, Bool, false, not, ◌&&◌, List, [], ◌∷◌, length, slice_get, Option, Some, None, is_some, option_map, option_and_then, unwrap_or, Result, Ok, if◌then◌else◌}
use Rattle.std.specs.List.{list_all}
use Rattle.nv_value.specs.Content.{Tree, Trees, nil}
use Rattle.nv_value.specs.declared.fault.ApiFault.{ApiFault}
use Rattle.nv_msgpack.specs.Handle.{handle_in, integer_of}
use Rattle.nv_args.specs.Faults.{wrong_count, wrong_type}
use Rattle.nv_args.specs.Arguments.{tree_list, truth_in, string_in, strings_in, pairs_in, require, answer_after, refuse}
use Rattle.nv_args.specs.Table.{Kind, Parameter, Signature, type_name}

-- a typed argument; a handle is its number
pub data Arg : Type 0 where
  number_arg : ℤ → Arg
  flag_arg : Bool → Arg
  string_arg : List ℕ → Arg
  list_arg : Trees → Arg
  map_arg : List (Tree × Tree) → Arg
  any_arg : Tree → Arg

-- Array: the values of a list
abbrev pub array_in : Tree → Option Trees
array_in (Tree.list ts) = Some ts
array_in _ = None

-- values that pass a test, and none where they don't
abbrev pub values_passing : (List Tree → Bool) → Trees → Option Trees
values_passing test ts = if test (tree_list ts) then Some ts else None

-- two Integers
abbrev pub are_two_integers : List Tree → Bool
are_two_integers (first ∷ second ∷ []) = is_some (integer_of first) && is_some (integer_of second)
are_two_integers _ = false

-- the name of a method and its arguments (help: nvim_call_atomic())
abbrev pub are_call_parts : List Tree → Bool
are_call_parts (name ∷ arguments ∷ []) = is_some (string_in name) && is_some (array_in arguments)
are_call_parts _ = false

abbrev pub is_call : Tree → Bool
is_call (Tree.list ts) = are_call_parts (tree_list ts)
is_call _ = false

-- a place of a mark: an Integer, or an Array of two (help: nvim_buf_get_extmarks())
abbrev pub is_mark_place : Tree → Bool
is_mark_place (Tree.list ts) = are_two_integers (tree_list ts)
is_mark_place t = is_some (integer_of t)

-- what a value is as an argument of a kind, and none where it isn't of that kind
abbrev pub arg_of : Kind → Tree → Option Arg
arg_of Kind.integer_type t = option_map number_arg (integer_of t)
arg_of Kind.boolean t = option_map flag_arg (truth_in t)
arg_of Kind.string t = option_map string_arg (string_in t)
arg_of Kind.array t = option_map list_arg (array_in t)
arg_of Kind.dict t = option_map map_arg (pairs_in t)
arg_of Kind.object t = Some (any_arg t)
arg_of Kind.buffer t = option_map number_arg (handle_in (pos 0) t)
arg_of Kind.window t = option_map number_arg (handle_in (pos 1) t)
arg_of Kind.tabpage t = option_map number_arg (handle_in (pos 2) t)
arg_of Kind.buffer_id t = option_map number_arg (handle_in (pos 0) t)
arg_of Kind.window_id t = option_map number_arg (handle_in (pos 1) t)
arg_of Kind.tabpage_id t = option_map number_arg (handle_in (pos 2) t)
arg_of Kind.lines t = option_map list_arg
    (option_and_then (values_passing (list_all (λ item. is_some (string_in item)))) (array_in t))
arg_of Kind.cursor t =
    option_map list_arg (option_and_then (values_passing are_two_integers) (array_in t))
arg_of Kind.call_list t =
    option_map list_arg (option_and_then (values_passing (list_all is_call)) (array_in t))
arg_of Kind.mark_place t = if is_mark_place t then Some (any_arg t) else None

-- the arguments of a method's parameters from a number on, or the fault of the first that isn't of
-- its type
abbrev pub read_from : ℕ → List ℕ → List Parameter → List Tree → Result (List Arg) ApiFault
read_from n method [] given = Ok []
read_from n method (parameter ∷ parameters) [] = Ok []
read_from n method (parameter ∷ parameters) (t ∷ given) =
    require (arg_of parameter.kind t) (wrong_type n method (type_name parameter.kind)) (λ arg.
    answer_after (read_from (suc n) method parameters given) (λ args.
    Ok (arg ∷ args)))

-- the arguments of a call of a method
abbrev pub read : Signature → List Tree → Result (List Arg) ApiFault
read method given =
    refuse (not (length given == length method.parameters))
    (wrong_count (length method.parameters) (length given)) (
    read_from 1 method.name method.parameters given)

-- What stands at a place, from 0, among arguments that were read for a method whose parameter there
-- is of that kind; for others any value.
abbrev pub number_of : Option Arg → ℤ
number_of (Some (number_arg n)) = n
number_of _ = pos 0

abbrev pub flag_of : Option Arg → Bool
flag_of (Some (flag_arg b)) = b
flag_of _ = false

abbrev pub string_of : Option Arg → List ℕ
string_of (Some (string_arg bytes)) = bytes
string_of _ = []

abbrev pub values_of : Option Arg → Trees
values_of (Some (list_arg ts)) = ts
values_of _ = Trees.no_more

abbrev pub pairs_of : Option Arg → List (Tree × Tree)
pairs_of (Some (map_arg pairs)) = pairs
pairs_of _ = []

abbrev pub object_of : Option Arg → Tree
object_of (Some (any_arg t)) = t
object_of _ = nil

-- an Integer, a Boolean, a String, an Array's values, a Dict's pairs, an Object
abbrev pub number_at : List Arg → ℕ → ℤ
number_at args place = number_of (slice_get args place)

abbrev pub flag_at : List Arg → ℕ → Bool
flag_at args place = flag_of (slice_get args place)

abbrev pub string_at : List Arg → ℕ → List ℕ
string_at args place = string_of (slice_get args place)

abbrev pub values_at : List Arg → ℕ → Trees
values_at args place = values_of (slice_get args place)

abbrev pub pairs_at : List Arg → ℕ → List (Tree × Tree)
pairs_at args place = pairs_of (slice_get args place)

abbrev pub object_at : List Arg → ℕ → Tree
object_at args place = object_of (slice_get args place)

-- the lines of an Array of Strings
abbrev pub lines_at : List Arg → ℕ → List (List ℕ)
lines_at args place = unwrap_or (strings_in (values_at args place)) []

-- the name and the arguments of a call as a value, `[name, arguments]` (help: nvim_call_atomic())
abbrev pub first_string : List Tree → List ℕ
first_string [] = []
first_string (name ∷ ts) = unwrap_or (string_in name) []

abbrev pub values_in : Tree → List Tree
values_in (Tree.list ts) = tree_list ts
values_in _ = []

abbrev pub second_values : List Tree → List Tree
second_values (name ∷ arguments ∷ ts) = values_in arguments
second_values _ = []

abbrev pub name_of_call : Tree → List ℕ
name_of_call value = first_string (values_in value)

abbrev pub arguments_of_call : Tree → List Tree
arguments_of_call value = second_values (values_in value)
