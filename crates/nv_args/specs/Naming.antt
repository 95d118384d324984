-- Keys that name a highlight group, among those of a Dict (help: highlight-groups, nvim_set_hl()).
use Rattle.std.specs.Prelude.{ℕ, Bool, true, false, not, ◌&&◌, nat_le, List, [], ◌∷◌, length, codes, bytes_eq, Option, Some, None, if◌then◌else◌}
use Rattle.std.specs.List.{list_all, list_any}
use Rattle.nv_value.specs.Content.{Tree, list}
use Rattle.nv_value.specs.declared.fault.ApiFault.{ApiFault}
use Rattle.nv_args.specs.Faults.{invalid_value}
use Rattle.nv_args.specs.Arguments.{string_in, first_key}
use Rattle.nv_args.specs.Chunks.{chunks_in, names_of_chunks}
use Rattle.nv_args.specs.Maps.{Key, known_key, takes_value, unknown_key, missing_key, or_else}

-- a group's name has 1 to so many bytes (own rule)
abbrev pub longest_group_name : ℕ
longest_group_name = 200

abbrev pub is_group_name : List ℕ → Bool
is_group_name name = nat_le 1 (length name) && nat_le (length name) longest_group_name

-- a value that is no string, or the name of a group
abbrev pub names_group : Option (List ℕ) → Bool
names_group None = true
names_group (Some name) = is_group_name name

-- the same of each name of a group among parts of a virtual text
abbrev pub names_groups : Tree → Bool
names_groups (list ts) = list_all is_group_name (names_of_chunks (chunks_in (list ts)))
names_groups t = names_group (string_in t)

-- the fault of a name that is none
abbrev pub bad_name_fault : ApiFault
bad_name_fault = invalid_value (codes "name")

-- whether a pair's key is one of these names
abbrev pub is_one_of : List (List ℕ) → Option (List ℕ) → Bool
is_one_of names None = false
is_one_of names (Some name) = list_any (bytes_eq name) names

-- the fault of the first pair whose value its key doesn't take, or that names a group, where its
-- key does, by a name that is none
abbrev pub wrong_value_of : List (List ℕ) → List Key → List (Tree × Tree) → Option ApiFault
wrong_value_of naming keys [] = None
wrong_value_of naming keys (pair ∷ pairs) =
    if not (takes_value (known_key keys (string_in pair.0)) pair.1)
    then Some (invalid_value (first_key (pair ∷ pairs)))
    else if is_one_of naming (string_in pair.0) && not (names_groups pair.1)
    then Some bad_name_fault
    else wrong_value_of naming keys pairs

-- the fault of a Dict with keys of which some name a group
abbrev pub naming_fault : List (List ℕ) → List Key → List (Tree × Tree) → Option ApiFault
naming_fault naming keys pairs = or_else (unknown_key keys pairs)
    (or_else (wrong_value_of naming keys pairs) (missing_key keys pairs))
