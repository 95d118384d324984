-- What a Dict gives by its keys (help: api-types), among its pairs that count.
use Rattle.std.specs.Prelude.{ℕ, Bool, true, false, ◌&&◌, List, [], ◌∷◌, bytes_eq, Option, Some, None, is_some, is_none, option_map, find, if◌then◌else◌}
use Rattle.nv_value.specs.Content.{Tree}
use Rattle.nv_value.specs.declared.fault.ApiFault.{ApiFault}
use Rattle.nv_args.specs.Faults.{invalid_key, invalid_value}
use Rattle.nv_args.specs.Arguments.{string_in, first_key}

-- a key that a method's Dict may have: its name, which values it takes, and whether it must be
-- there
pub record Key : Type 0 where
  pub name : List ℕ
  pub takes : Tree → Bool
  pub required : Bool

-- whether the string of a key, where it is one, is this name; text and bin of the same bytes are
-- one key
abbrev pub is_name : List ℕ → Option (List ℕ) → Bool
is_name name None = false
is_name name (Some bytes) = bytes_eq bytes name

abbrev pub has_name : List ℕ → Tree × Tree → Bool
has_name name pair = is_name name (string_in pair.0)

-- the value of a key among pairs that count, and none where it isn't there
abbrev pub value_of : List ℕ → List (Tree × Tree) → Option Tree
value_of name pairs = option_map (λ pair. pair.1) (find (has_name name) pairs)

-- the key of a pair among those that a method knows, where its key is a string
abbrev pub known_key : List Key → Option (List ℕ) → Option Key
known_key keys None = None
known_key keys (Some name) = find (λ key. bytes_eq key.name name) keys

-- the fault of the first pair whose key the method doesn't know
abbrev pub unknown_key : List Key → List (Tree × Tree) → Option ApiFault
unknown_key keys [] = None
unknown_key keys (pair ∷ pairs) =
    if is_some (known_key keys (string_in pair.0)) then unknown_key keys pairs
    else Some (invalid_key (first_key (pair ∷ pairs)))

-- whether a key, where it is known, takes a value
abbrev pub takes_value : Option Key → Tree → Bool
takes_value None value = true
takes_value (Some key) value = key.takes value

-- the fault of the first pair whose value its key doesn't take
abbrev pub wrong_value : List Key → List (Tree × Tree) → Option ApiFault
wrong_value keys [] = None
wrong_value keys (pair ∷ pairs) =
    if takes_value (known_key keys (string_in pair.0)) pair.1 then wrong_value keys pairs
    else Some (invalid_value (first_key (pair ∷ pairs)))

-- the fault of the first key that must be there and isn't
abbrev pub missing_key : List Key → List (Tree × Tree) → Option ApiFault
missing_key [] pairs = None
missing_key (key ∷ keys) pairs =
    if key.required && is_none (value_of key.name pairs) then Some (invalid_value key.name)
    else missing_key keys pairs

-- the first fault, where there is one, else the second
abbrev pub or_else : Option ApiFault → Option ApiFault → Option ApiFault
or_else (Some fault) other = Some fault
or_else None other = other

-- the fault of a Dict whose pairs count, for a method that knows these keys: unknown keys first,
-- then wrong values, then missing keys
abbrev pub map_fault : List Key → List (Tree × Tree) → Option ApiFault
map_fault keys pairs =
    or_else (unknown_key keys pairs) (or_else (wrong_value keys pairs) (missing_key keys pairs))
