-- inside: the typed arguments that values are, once they were looked through.
use Rattle.std.specs.Prelude.{ℕ, suc, ℤ, pos, Bool, true, false, List, [], ◌∷◌, Option, Some, None, is_some, option_map, unwrap_or, if◌then◌else◌}
use Rattle.nv_value.specs.Content.{Tree, Trees}
use Rattle.nv_msgpack.specs.Handle.{handle_in, integer_of}
use Rattle.nv_args.specs.Arguments.{truth_in, string_in, pairs_in}
use Rattle.nv_args.specs.Table.{Kind}
use Rattle.nv_args.specs.Reading.{Arg, number_arg, flag_arg, string_arg, list_arg, map_arg, any_arg, array_in, arg_of}

-- a number, a string and so on, where there is one, as an argument
abbrev pub number_held : Option ℤ → Arg
number_held found = number_arg (unwrap_or found (pos 0))

abbrev pub flag_held : Option Bool → Arg
flag_held found = flag_arg (unwrap_or found false)

abbrev pub string_held : Option (List ℕ) → Arg
string_held found = string_arg (unwrap_or found [])

abbrev pub list_held : Option Trees → Arg
list_held found = list_arg (unwrap_or found Trees.no_more)

abbrev pub map_held : Option (List (Tree × Tree)) → Arg
map_held found = map_arg (unwrap_or found [])

-- what a value is as an argument of a kind
abbrev pub arg_held : Kind → Tree → Arg
arg_held Kind.integer_type t = number_held (integer_of t)
arg_held Kind.boolean t = flag_held (truth_in t)
arg_held Kind.string t = string_held (string_in t)
arg_held Kind.array t = list_held (array_in t)
arg_held Kind.dict t = map_held (pairs_in t)
arg_held Kind.object t = any_arg t
arg_held Kind.buffer t = number_held (handle_in (pos 0) t)
arg_held Kind.window t = number_held (handle_in (pos 1) t)
arg_held Kind.tabpage t = number_held (handle_in (pos 2) t)
arg_held Kind.buffer_id t = number_held (handle_in (pos 0) t)
arg_held Kind.window_id t = number_held (handle_in (pos 1) t)
arg_held Kind.tabpage_id t = number_held (handle_in (pos 2) t)
arg_held Kind.lines t = list_held (array_in t)
arg_held Kind.cursor t = list_held (array_in t)
arg_held Kind.call_list t = list_held (array_in t)
arg_held Kind.mark_place t = any_arg t

-- what values are as arguments of kinds, in order
abbrev pub args_held : List Kind → List Tree → List Arg
args_held [] given = []
args_held (kind ∷ kinds) [] = []
args_held (kind ∷ kinds) (t ∷ given) = arg_held kind t ∷ args_held kinds given

-- the place of the first value that isn't of its kind
abbrev pub first_wrong : List Kind → List Tree → Option ℕ
first_wrong [] given = None
first_wrong (kind ∷ kinds) [] = None
first_wrong (kind ∷ kinds) (t ∷ given) =
    if is_some (arg_of kind t) then option_map (λ place. suc place) (first_wrong kinds given)
    else Some 0

-- whether a parameter takes a Boolean, a String, an Array, a Dict, an Object
abbrev pub is_flag_kind : Option Kind → Bool
is_flag_kind (Some Kind.boolean) = true
is_flag_kind _ = false

abbrev pub is_string_kind : Option Kind → Bool
is_string_kind (Some Kind.string) = true
is_string_kind _ = false

abbrev pub is_list_kind : Option Kind → Bool
is_list_kind (Some Kind.array) = true
is_list_kind (Some Kind.lines) = true
is_list_kind (Some Kind.cursor) = true
is_list_kind (Some Kind.call_list) = true
is_list_kind _ = false

abbrev pub is_map_kind : Option Kind → Bool
is_map_kind (Some Kind.dict) = true
is_map_kind _ = false

abbrev pub is_any_kind : Option Kind → Bool
is_any_kind (Some Kind.object) = true
is_any_kind (Some Kind.mark_place) = true
is_any_kind _ = false
