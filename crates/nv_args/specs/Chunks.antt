-- The parts of a virtual text as values (help: nvim_buf_set_extmark(), virt_text, virt_text_pos).
use Rattle.std.specs.Prelude.{ℕ, Bool, false, ◌||◌, List, [], ◌∷◌, codes, bytes_eq, flat_map, Option, Some, None, is_some, option_and_then, option_map, option_to_list}
use Rattle.std.specs.Option.{option_map_or}
use Rattle.std.specs.List.{list_all}
use Rattle.nv_value.specs.Content.{Tree, list}
use Rattle.nv_args.specs.Arguments.{string_in, tree_list}

-- a part: its text, and the name of its group, where it has one
abbrev pub GivenChunk : Type 0
GivenChunk = List ℕ × Option (List ℕ)

abbrev pub chunk_alone : Option (List ℕ) → Option GivenChunk
chunk_alone text = option_map (λ bytes. (bytes, None)) text

abbrev pub chunk_of_group : Option (List ℕ) → Option (List ℕ) → Option GivenChunk
chunk_of_group text group =
    option_and_then (λ bytes. option_map (λ name. (bytes, Some name)) group) text

abbrev pub chunk_among : List Tree → Option GivenChunk
chunk_among (part ∷ []) = chunk_alone (string_in part)
chunk_among (part ∷ (group ∷ [])) = chunk_of_group (string_in part) (string_in group)
chunk_among _ = None

-- a part as a value gives it: an Array of a String, or of two
abbrev pub chunk_in : Tree → Option GivenChunk
chunk_in (list ts) = chunk_among (tree_list ts)
chunk_in t = None

-- whether a value is an Array of parts
abbrev pub takes_chunks : Tree → Bool
takes_chunks (list ts) = list_all (λ t. is_some (chunk_in t)) (tree_list ts)
takes_chunks t = false

-- the parts of an Array, of those values that are parts
abbrev pub chunks_in : Tree → List GivenChunk
chunks_in (list ts) = flat_map (λ t. option_to_list (chunk_in t)) (tree_list ts)
chunks_in t = []

-- the names of groups among parts
abbrev pub names_of_chunks : List GivenChunk → List (List ℕ)
names_of_chunks chunks = flat_map (λ c. option_to_list c.1) chunks

-- whether a word says where a virtual text is
abbrev pub is_text_place : List ℕ → Bool
is_text_place word =
    bytes_eq word (codes "eol")
    || (bytes_eq word (codes "overlay") || bytes_eq word (codes "right_align"))

abbrev pub takes_text_place : Tree → Bool
takes_text_place t = option_map_or is_text_place (string_in t) false
