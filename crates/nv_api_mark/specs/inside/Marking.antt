-- inside: how a mark is set, step by step.
use Rattle.std.specs.Prelude.{◌≡◌, ℕ, ℤ, ◌+◌, ◌^◌, ◌<◌, Bool, true, false, ◌&&◌, flat_map, option_and_then, option_map, option_to_list, List, [], ◌∷◌, ◌++◌, length, codes, All, Option, Some, None, IfSome, if◌then◌else◌}
use Rattle.nv_value.specs.Content.{Tree}
use Rattle.nv_places.specs.Places.{IsPlaceIn}
use Rattle.nv_places.specs.declared.place.Pos.{Pos}
use Rattle.nv_args.specs.Chunks.{chunk_in, names_of_chunks, takes_chunks, takes_text_place}
use Rattle.nv_args.specs.Dicts.{optional_key, flag_or}
use Rattle.nv_args.specs.Faults.{limit_reached, no_id_left, out_of_bounds, unknown_name}
use Rattle.nv_args.specs.KeyValues.{takes_flag, takes_integer, takes_integer_between, takes_name_or_number}
use Rattle.nv_args.specs.Maps.{Key}
use Rattle.nv_args.specs.Naming.{naming_fault}
use Rattle.nv_args.specs.Texts.{has_newline}
use Rattle.nv_args.specs.Reading.{Arg, number_at}
use Rattle.nv_hl.specs.Groups.{NamedGroup, HasGroup, name_at}
use Rattle.nv_notes.specs.Notes.{NoteText}
use Rattle.nv_notes.specs.declared.note.Chunk.{Chunk}
use Rattle.nv_marks.specs.declared.extmark.Far.{Far}
use Rattle.nv_marks.specs.declared.extmark.Mark.{Mark}
use Rattle.nv_marks.specs.declared.extmark.Paint.{Paint}
use Rattle.nv_model.specs.Answers.{Answer, replied, or_refused, unless}
use Rattle.nv_model.specs.Answering.{fault_or, natural}
use Rattle.nv_model.specs.Stage.{Stage}
use Rattle.nv_model.specs.Seen.{Seen, SeenBuffer}
use Rattle.nv_api_mark.specs.Namespaces.{namespace_of_id}
use Rattle.nv_api_mark.specs.MarkRows.{given_id, group_words, is_no_group, mark_answer, mark_passes_limit, mark_with, next_mark_id, no_mark_left, setting_operations}
use Rattle.nv_api_mark.specs.Setting.{greatest_mark_id, end_place, far_at, group_names, group_number, has_end, mark_keys, naming_keys, place_by_numbers}
use Rattle.nv_api_mark.specs.declared.setting.Draft.{Draft}

-- the name of the group that a mark shows can be told
abbrev pub IsGroupTold : List NamedGroup → Option Paint → Type 0
IsGroupTold groups paint = IfSome paint (λ p. length (name_at groups p.group) < 2 ^ 32)

-- and so can the names of the groups of its virtual text, and the texts
abbrev pub IsChunkTold : List NamedGroup → Chunk → Type 0
IsChunkTold groups c =
    (length c.text < 2 ^ 32) × IfSome c.group (λ id. length (name_at groups id) < 2 ^ 32)

abbrev pub IsNoteTold : List NamedGroup → Option NoteText → Type 0
IsNoteTold groups note =
    IfSome note (λ n. (length n.chunks < 2 ^ 32) × All (IsChunkTold groups) n.chunks)

-- an answer by the end of a mark, where one is wanted
abbrev pub with_end : List (List ℕ) → Pos → List (Tree × Tree) → (Option Far → Answer) → Answer
with_end lines start pairs next =
    if has_end pairs
    then or_refused (end_place lines start pairs) out_of_bounds
    (λ place. next (Some (far_at pairs place)))
    else next None

-- what is answered of a mark of which the order of the places and the texts were looked at
abbrev pub allowed_answer : Seen → ℤ → SeenBuffer → ℕ → Pos → Option Far → List (Tree × Tree)
    → Answer
allowed_answer s n b ns start stop pairs =
    let id = next_mark_id b ns (given_id pairs) in
    unless (
    (no_mark_left b ns (given_id pairs), no_id_left)
    ∷ (
      is_no_group s.stage.groups (group_number pairs),
      unknown_name (group_words (group_number pairs)),
    )
    ∷ (mark_passes_limit s.stage b ns id (group_names pairs), limit_reached)
    ∷ [])
    (replied (natural id) (setting_operations s.stage n (b.settings + 1)
    (mark_with s.stage.groups ns id start stop pairs)
    pairs) [])

-- what is answered of a mark by its places, and by the arguments of the call
abbrev pub placed_answer : Seen → ℤ → SeenBuffer → List (Tree × Tree) → ℕ → Pos → Answer
placed_answer s n b pairs ns start =
    with_end b.lines start pairs (λ stop. mark_answer s n b ns start stop pairs)

-- what is answered of a mark once the keys of its pairs that count were looked at
abbrev pub unkeyed_answer : Seen → ℤ → SeenBuffer → List Arg → List (Tree × Tree) → Answer
unkeyed_answer s n b args pairs =
    or_refused (namespace_of_id s.stage (number_at args 1)) out_of_bounds (λ ns.
    or_refused (place_by_numbers (flag_or true (codes "strict") pairs) b.lines (number_at args 2)
    (number_at args 3)) out_of_bounds
    (placed_answer s n b pairs ns))

abbrev pub keyed_answer : Seen → ℤ → SeenBuffer → List Arg → List (Tree × Tree) → Answer
keyed_answer s n b args pairs =
    fault_or (naming_fault naming_keys (mark_keys pairs) pairs) (unkeyed_answer s n b args pairs)

-- the keys of a mark with an end, or without, and with a virtual text, or without
abbrev pub keys_with : Bool → Bool → List Key
keys_with ends texts =
    optional_key (codes "id") (takes_integer_between 1 greatest_mark_id)
    ∷ optional_key (codes "end_row") takes_integer
    ∷ optional_key (codes "end_col") takes_integer
    ∷ optional_key (codes "hl_group") takes_name_or_number
    ∷ optional_key (codes "hl_eol") takes_flag
    ∷ optional_key (codes "priority") (takes_integer_between 0 65535)
    ∷ optional_key (codes "right_gravity") takes_flag
    ∷ optional_key (codes "end_right_gravity") (λ t. ends && takes_flag t)
    ∷ optional_key (codes "strict") takes_flag
    ∷ optional_key (codes "undo_restore") takes_flag
    ∷ optional_key (codes "invalidate") takes_flag
    ∷ optional_key (codes "virt_text") takes_chunks
    ∷ optional_key (codes "virt_text_pos") (λ t. texts && takes_text_place t)
    ∷ []

-- a mark is set by its draft
abbrev pub draft_answer : Stage → ℤ → List (Tree × Tree) → Draft → Answer
draft_answer stage n pairs d =
    replied (natural d.id) (setting_operations stage n d.set
    (mark_with stage.groups d.ns d.id d.start d.stop pairs)
    pairs) []

-- what a mark shows by the id of a group, and the mark
abbrev pub painted : Option ℕ → List (Tree × Tree) → Option Paint
painted group pairs =
    option_map (λ id. record { group = id; eol = flag_or false (codes "hl_eol") pairs }) group

abbrev pub mark_by : Draft → Option ℕ → List (Tree × Tree) → Mark
mark_by d group pairs =
    record (mark_with [] d.ns d.id d.start d.stop pairs) { paint = painted group pairs }

-- the places of a draft are those of a text
pub record IsDraftIn (lines : List (List ℕ)) (d : Draft) : Type 0 where
  pub start : IsPlaceIn lines d.start
  pub stop : IfSome d.stop (λ far. IsPlaceIn lines far.pos)

-- the group that is given by a number is there
abbrev pub HasNumbered : List NamedGroup → Option ℤ → Type 0
HasNumbered groups None = Unit {0}
HasNumbered groups (Some (ℤ.pos id)) = HasGroup groups id
HasNumbered groups (Some (ℤ.negsuc n)) = ⊥

-- the name of the group of a part of a virtual text, in front of others; and those of parts
abbrev pub names_in : Tree → List (List ℕ) → List (List ℕ)
names_in t names = option_to_list (option_and_then (λ c. c.1) (chunk_in t)) ++ names

abbrev pub names_among : List Tree → List (List ℕ)
names_among ts = names_of_chunks (flat_map (λ t. option_to_list (chunk_in t)) ts)

-- the text of a part holds no line feed
abbrev pub IsLineOfChunk : Tree → Type 0
IsLineOfChunk t = IfSome (chunk_in t) (λ c. has_newline c.0 ≡ false)
