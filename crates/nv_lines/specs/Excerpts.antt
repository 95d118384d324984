-- Lines in several lists.
use Rattle.std.specs.Prelude.{ℕ, List, [], ◌∷◌, ◌++◌}

-- the lines of all lists, one list after another
abbrev pub list_lines : List (List (List ℕ)) → List (List ℕ)
list_lines [] = []
list_lines (l ∷ ls) = l ++ list_lines ls
