-- Namespaces by name: their names by id from 1, with the empty name for those made without one
-- (help: namespace, nvim_create_namespace(), nvim_get_namespaces()).
use Rattle.std.specs.Prelude.{ℕ, suc, ◌==◌, List, [], ◌∷◌, length, bytes_eq, Option, None, option_map, position, if◌then◌else◌}
use Rattle.std.specs.Cmp.Lexicographic.{slice_cmp}
use Rattle.std.specs.Ordering.{nat_cmp, is_lt}

-- the id of a namespace by its name; none has the empty name
abbrev pub id_of_name : List ℕ → List (List ℕ) → Option ℕ
id_of_name name names =
    if length name == 0 then None else option_map suc (position (bytes_eq name) names)

-- a name and its id put among others by the bytes of the names
abbrev pub in_name_order : List ℕ × ℕ → List (List ℕ × ℕ) → List (List ℕ × ℕ)
in_name_order entry [] = entry ∷ []
in_name_order entry (other ∷ others) =
    if is_lt (slice_cmp nat_cmp other.0 entry.0) then other ∷ in_name_order entry others
    else entry ∷ other ∷ others

-- the namespaces that have a name, the first of them with this id, by the bytes of their names
abbrev pub named_namespaces : ℕ → List (List ℕ) → List (List ℕ × ℕ)
named_namespaces id [] = []
named_namespaces id (name ∷ names) =
    if length name == 0 then named_namespaces (suc id) names
    else in_name_order (name, id) (named_namespaces (suc id) names)
