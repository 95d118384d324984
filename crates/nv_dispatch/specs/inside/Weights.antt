-- inside: how many bytes of strings are in values one by one.
use Rattle.std.specs.Prelude.{ℕ, ◌+◌, List, [], ◌∷◌}
use Rattle.nv_value.specs.Content.{Tree}
use Rattle.nv_args.specs.Weight.{weight}

abbrev pub list_weight : List Tree → ℕ
list_weight [] = 0
list_weight (t ∷ ts) = weight t + list_weight ts
