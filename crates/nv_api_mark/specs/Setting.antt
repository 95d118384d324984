-- How a mark is set: the keys of its options, and the places that numbers name (help:
-- nvim_buf_set_extmark()).
use Rattle.std.specs.Prelude.{ℕ, ℤ, pos, negsuc, ◌==◌, Bool, true, false, ◌&&◌, ◌||◌, nat_le, List, [], ◌∷◌, ◌++◌, length, map, codes, bytes_eq, Option, Some, None, is_some, option_map, option_and_then, option_to_list, unwrap_or, if◌then◌else◌}
use Rattle.std.specs.Option.{option_map_or}
use Rattle.nv_value.specs.Content.{Tree}
use Rattle.nv_places.specs.Flat.{line_at}
use Rattle.nv_places.specs.declared.place.Pos.{Pos}
use Rattle.nv_msgpack.specs.Handle.{integer_of}
use Rattle.nv_args.specs.Arguments.{string_in}
use Rattle.nv_args.specs.Chunks.{GivenChunk, chunks_in, names_of_chunks, takes_chunks, takes_text_place}
use Rattle.nv_args.specs.Dicts.{optional_key, flag_or, integer_or}
use Rattle.nv_args.specs.KeyValues.{integer_between, takes_flag, takes_integer, takes_integer_between, takes_name_or_number}
use Rattle.nv_args.specs.Maps.{Key, value_of}
use Rattle.nv_hl.specs.Groups.{NamedGroup, known_id}
use Rattle.nv_marks.specs.declared.extmark.Far.{Far}
use Rattle.nv_marks.specs.declared.extmark.Paint.{Paint}
use Rattle.nv_notes.specs.Notes.{NoteText}
use Rattle.nv_notes.specs.declared.note.At.{At}
use Rattle.nv_notes.specs.declared.note.At.TheVariants.{Eol, Overlay, RightAlign}
use Rattle.nv_notes.specs.declared.note.Chunk.{Chunk}
use Rattle.nv_api_mark.specs.Groups.{id_among}

-- the ids of marks, and their priorities (own rule)
abbrev pub greatest_mark_id : ℕ
greatest_mark_id = 4294967295

abbrev pub mark_id_in : Tree → Option ℕ
mark_id_in = integer_between 1 greatest_mark_id

abbrev pub priority_in : Tree → Option ℕ
priority_in = integer_between 0 65535

-- a mark has an end where pairs that count have one of its keys
abbrev pub has_end : List (Tree × Tree) → Bool
has_end pairs =
    is_some (value_of (codes "end_row") pairs) || is_some (value_of (codes "end_col") pairs)

-- it has a virtual text where they have that
abbrev pub has_text : List (Tree × Tree) → Bool
has_text pairs = is_some (value_of (codes "virt_text") pairs)

-- the keys for pairs that count: a gravity of the end isn't taken without an end, nor where a
-- virtual text is without that
abbrev pub mark_keys : List (Tree × Tree) → List Key
mark_keys pairs =
    optional_key (codes "id") (takes_integer_between 1 greatest_mark_id)
    ∷ optional_key (codes "end_row") takes_integer
    ∷ optional_key (codes "end_col") takes_integer
    ∷ optional_key (codes "hl_group") takes_name_or_number
    ∷ optional_key (codes "hl_eol") takes_flag
    ∷ optional_key (codes "priority") (takes_integer_between 0 65535)
    ∷ optional_key (codes "right_gravity") takes_flag
    ∷ optional_key (codes "end_right_gravity") (λ t. has_end pairs && takes_flag t)
    ∷ optional_key (codes "strict") takes_flag
    ∷ optional_key (codes "undo_restore") takes_flag
    ∷ optional_key (codes "invalidate") takes_flag
    ∷ optional_key (codes "virt_text") takes_chunks
    ∷ optional_key (codes "virt_text_pos") (λ t. has_text pairs && takes_text_place t)
    ∷ []

-- the keys that name groups
abbrev pub naming_keys : List (List ℕ)
naming_keys = codes "hl_group" ∷ codes "virt_text" ∷ []

-- the row that a number names in a text of so many lines: up to the one after the last, and a
-- greater one is that one where places aren't strict
abbrev pub row_by_number : Bool → ℕ → ℤ → Option ℕ
row_by_number strict lines (pos row) =
    if nat_le row lines then Some row else if strict then None else Some lines
row_by_number strict lines (negsuc n) = None

-- the column that a number names in a line of so many bytes: -1 is its end, and a greater one is
-- that where places aren't strict
abbrev pub col_by_number : Bool → ℕ → ℤ → Option ℕ
col_by_number strict bytes (pos col) =
    if nat_le col bytes then Some col else if strict then None else Some bytes
col_by_number strict bytes (negsuc n) = if n == 0 then Some bytes else None

-- the place that two numbers name in a text
abbrev pub place_by_numbers : Bool → List (List ℕ) → ℤ → ℤ → Option Pos
place_by_numbers strict lines row col =
    option_and_then
    (λ r. option_map (λ c. record { row = r; col = c })
    (col_by_number strict (length (line_at lines r)) col))
    (row_by_number strict (length lines) row)

-- the place of the end: in the row of the start where no row is given, and at column 0 where no
-- column is
abbrev pub end_place : List (List ℕ) → Pos → List (Tree × Tree) → Option Pos
end_place lines start pairs =
    place_by_numbers (flag_or true (codes "strict") pairs) lines
    (integer_or (pos start.row) (codes "end_row") pairs)
    (integer_or (pos 0) (codes "end_col") pairs)

-- the end with its gravity
abbrev pub far_at : List (Tree × Tree) → Pos → Far
far_at pairs p = record { pos = p; right = flag_or false (codes "end_right_gravity") pairs }

-- the group that a mark shows: by its name, or its id
abbrev pub group_name : List (Tree × Tree) → Option (List ℕ)
group_name pairs = option_and_then string_in (value_of (codes "hl_group") pairs)

abbrev pub group_number : List (Tree × Tree) → Option ℤ
group_number pairs = option_and_then integer_of (value_of (codes "hl_group") pairs)

-- the id of the group, a name's once there is a group of it
abbrev pub group_id : List NamedGroup → Option (List ℕ) → Option ℤ → Option ℕ
group_id groups (Some name) given = Some (id_among groups name)
group_id groups None (Some (pos id)) = Some id
group_id groups None (Some (negsuc n)) = None
group_id groups None None = None

-- what the mark shows; without a group nothing (own rule)
abbrev pub paint_of : List NamedGroup → List (Tree × Tree) → Option Paint
paint_of groups pairs =
    option_map (λ id. record { group = id; eol = flag_or false (codes "hl_eol") pairs })
    (group_id groups (group_name pairs) (group_number pairs))

-- the parts of the virtual text, with the names of groups that a mark wants: of what it shows, and
-- of the parts
abbrev pub text_chunks : List (Tree × Tree) → List GivenChunk
text_chunks pairs = option_map_or chunks_in (value_of (codes "virt_text") pairs) []

abbrev pub group_names : List (Tree × Tree) → List (List ℕ)
group_names pairs = option_to_list (group_name pairs) ++ names_of_chunks (text_chunks pairs)

-- where the virtual text is, at the line's end where that isn't told
abbrev pub text_place_named : List ℕ → At
text_place_named word =
    if bytes_eq word (codes "overlay") then Overlay
    else if bytes_eq word (codes "right_align") then RightAlign
    else Eol

abbrev pub text_place_of : List (Tree × Tree) → At
text_place_of pairs =
    option_map_or text_place_named
    (option_and_then string_in (value_of (codes "virt_text_pos") pairs))
    Eol

-- the virtual text, once its groups are there
abbrev pub chunk_with : List NamedGroup → GivenChunk → Chunk
chunk_with groups c =
    record { text = c.0; group = option_map (λ name. unwrap_or (known_id groups name) 0) c.1 }

abbrev pub note_with : List NamedGroup → List (Tree × Tree) → NoteText
note_with groups pairs =
    record { chunks = map (chunk_with groups) (text_chunks pairs); at = text_place_of pairs }
