-- How many bytes of strings the arguments of a call hold.
use Rattle.std.specs.Prelude.{ℕ, ◌+◌, ◌^◌, ◌<◌, List, [], ◌∷◌, length, All}
use Rattle.nv_value.specs.Content.{Tree}
use Rattle.nv_args.specs.Reading.{Arg, number_arg, flag_arg, string_arg, list_arg, map_arg, any_arg}
use Rattle.nv_args.specs.Weight.{weight, weights}

-- how many bytes of strings are in the pairs of a map
abbrev pub pairs_weight : List (Tree × Tree) → ℕ
pairs_weight [] = 0
pairs_weight (pair ∷ more) = weight pair.0 + weight pair.1 + pairs_weight more

-- how many bytes of strings are in an argument
abbrev pub arg_weight : Arg → ℕ
arg_weight (string_arg bytes) = length bytes
arg_weight (list_arg ts) = weights ts
arg_weight (map_arg pairs) = pairs_weight pairs
arg_weight (any_arg t) = weight t
arg_weight (number_arg n) = 0
arg_weight (flag_arg b) = 0

-- arguments so light that a fault can tell any string in them (own rule)
abbrev pub AreLightArgs : List Arg → Type 0
AreLightArgs args = All (λ (arg : Arg). arg_weight arg < 2 ^ 31) args
