-- Highlight groups as calls name them (help: highlight-groups, nvim_set_hl()).
use Rattle.std.specs.Prelude.{ℕ, List, [], ◌∷◌, ◌++◌, is_some, unwrap_or, if◌then◌else◌}
use Rattle.nv_hl.specs.Groups.{NamedGroup, known_id, with_named, empty_group}
use Rattle.nv_model.specs.Operations.{Operation, group_made}

-- what is done where a group of this name is wanted: an unknown one is made empty
abbrev pub group_operations : List NamedGroup → List ℕ → List Operation
group_operations groups name = if is_some (known_id groups name) then [] else group_made name ∷ []

-- the groups once there is one of this name, and its id
abbrev pub groups_with : List NamedGroup → List ℕ → List NamedGroup
groups_with groups name = with_named groups (empty_group name)

abbrev pub id_among : List NamedGroup → List ℕ → ℕ
id_among groups name = unwrap_or (known_id (groups_with groups name) name) 0

-- what is done where groups of several names are wanted, one after another, and the groups then
abbrev pub names_operations : List NamedGroup → List (List ℕ) → List Operation
names_operations groups [] = []
names_operations groups (name ∷ names) =
    group_operations groups name ++ names_operations (groups_with groups name) names

abbrev pub groups_of_names : List NamedGroup → List (List ℕ) → List NamedGroup
groups_of_names groups [] = groups
groups_of_names groups (name ∷ names) = groups_of_names (groups_with groups name) names
