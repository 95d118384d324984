-- inside: the faults of single pairs of a Dict.
use Rattle.std.specs.Prelude.{ℕ, Bool, not, ◌&&◌, List, [], Option, Some, None, unwrap_or, is_some, option_and_then, if◌then◌else◌}
use Rattle.std.specs.List.{list_any, list_all}
use Rattle.nv_value.specs.Content.{Tree}
use Rattle.nv_value.specs.declared.fault.ApiFault.{ApiFault}
use Rattle.nv_args.specs.Faults.{invalid_key, invalid_value}
use Rattle.nv_args.specs.Arguments.{string_in, is_same}
use Rattle.nv_args.specs.Maps.{Key, known_key, takes_value}
use Rattle.nv_args.specs.Naming.{bad_name_fault, is_one_of, names_groups}

-- the name of a pair's key, empty where it is no string
abbrev pub key_name : Tree × Tree → List ℕ
key_name pair = unwrap_or (string_in pair.0) []

-- whether a pair's key is known
abbrev pub is_known : List Key → Tree × Tree → Bool
is_known keys pair = is_some (known_key keys (string_in pair.0))

-- whether all keys are known
abbrev pub are_known : List Key → List (Tree × Tree) → Bool
are_known keys = list_all (is_known keys)

-- whether a key stands among pairs too
abbrev pub stands_in : Option (List ℕ) → Tree × Tree → Bool
stands_in name pair = is_same name (string_in pair.0)

abbrev pub is_key_among : Option (List ℕ) → List (Tree × Tree) → Bool
is_key_among name = list_any (stands_in name)

abbrev pub stands_among : Tree → List (Tree × Tree) → Bool
stands_among key = is_key_among (string_in key)

-- the fault of the first unknown key, once one more pair was looked at
abbrev pub fault_after : Bool → Bool → List ℕ → Option ApiFault → Option ApiFault
fault_after is_new is_known name first =
    if is_new && not is_known then Some (invalid_key name) else first

-- whether a pair names a group, where its key does, by a name that is none
abbrev pub misnames : List (List ℕ) → Tree × Tree → Bool
misnames naming pair =
    is_one_of naming (string_in pair.0) && not (names_groups pair.1)

-- the fault of a pair's value
abbrev pub pair_fault : List (List ℕ) → List Key → Tree × Tree → Option ApiFault
pair_fault naming keys pair =
    if not (takes_value (known_key keys (string_in pair.0)) pair.1)
    then Some (invalid_value (key_name pair))
    else if misnames naming pair then Some bad_name_fault
    else None

-- that fault, where no pair behind has the same key
abbrev pub fault_that_counts : List (List ℕ) → List Key → Tree × Tree → List (Tree × Tree)
    → Option ApiFault
fault_that_counts naming keys pair behind = option_and_then
    (λ fault. if stands_among pair.0 behind then None else Some fault)
    (pair_fault naming keys pair)

-- whether a pair's key is known, and its value is without a fault
abbrev pub is_faultless : List (List ℕ) → List Key → Tree × Tree → Bool
is_faultless naming keys pair = is_known keys pair
    && (not (misnames naming pair) && takes_value (known_key keys (string_in pair.0)) pair.1)

abbrev pub are_faultless : List (List ℕ) → List Key → List (Tree × Tree) → Bool
are_faultless naming keys = list_all (is_faultless naming keys)
