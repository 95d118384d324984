-- The methods on single marks (help: api-extended-marks; the help tag of each is its name).
use Rattle.std.specs.Prelude.{ℕ, ℤ, pos, negsuc, suc, ◌+◌, Bool, true, false, not, ◌&&◌, ◌||◌, nat_le, nat_lt, List, [], ◌∷◌, ◌++◌, length, map, codes, Option, Some, None, is_none, option_and_then, unwrap_or, if◌then◌else◌}
use Rattle.std.specs.List.{list_any}
use Rattle.std.specs.Option.{option_map_or}
use Rattle.std.specs.Fmt.{signed_decimal}
use Rattle.nv_value.specs.Content.{Tree, truth, text}
use Rattle.nv_places.specs.Places.{is_before}
use Rattle.nv_places.specs.declared.place.Pos.{Pos}
use Rattle.nv_args.specs.Faults.{out_of_bounds, start_after_end, newline_inside, no_id_left, unknown_name, limit_reached}
use Rattle.nv_args.specs.Texts.{has_newline}
use Rattle.nv_args.specs.Arguments.{last_pairs}
use Rattle.nv_args.specs.Reading.{Arg, number_at, pairs_at}
use Rattle.nv_args.specs.Maps.{map_fault, value_of}
use Rattle.nv_hl.specs.Groups.{NamedGroup, name_at}
use Rattle.nv_marks.specs.Marks.{mark_at}
use Rattle.nv_marks.specs.declared.extmark.Far.{Far}
use Rattle.nv_marks.specs.declared.extmark.Mark.{Mark}
use Rattle.nv_marks.specs.declared.extmark.Paint.{Paint}
use Rattle.nv_model.specs.Stage.{Stage}
use Rattle.nv_model.specs.Seen.{Seen, SeenBuffer}
use Rattle.nv_notes.specs.Notes.{NoteText, note_at}
use Rattle.nv_notes.specs.declared.note.At.{At}
use Rattle.nv_notes.specs.declared.note.At.TheVariants.{Eol, Overlay, RightAlign}
use Rattle.nv_notes.specs.declared.note.Chunk.{Chunk}
use Rattle.nv_model.specs.Operations.{Operation, mark_set, mark_removed, note_put}
use Rattle.nv_model.specs.Keeping.{most_settings}
use Rattle.nv_model.specs.Answers.{Answer, replied, unless, or_refused, on_buffer}
use Rattle.nv_model.specs.Answering.{reply_of, fault_or, array_of, natural, key_value, dict_of}
use Rattle.nv_args.specs.Dicts.{flag_key, flag_or}
use Rattle.nv_api_mark.specs.Namespaces.{namespace_of_id}
use Rattle.nv_args.specs.Naming.{naming_fault}
use Rattle.nv_api_mark.specs.Groups.{groups_of_names, names_operations}
use Rattle.nv_api_mark.specs.Setting.{greatest_mark_id, mark_id_in, priority_in, has_end, mark_keys, naming_keys, place_by_numbers, end_place, far_at, group_names, group_number, has_text, note_with, paint_of, text_chunks}
use Rattle.nv_api_mark.specs.declared.painting.TheConstants.{USUAL_PRIORITY}

-- the id that a mark gets: the one that is given, else one more than the greatest that was ever set
-- there (own rule)
abbrev pub next_mark_id : SeenBuffer → ℕ → Option ℕ → ℕ
next_mark_id b ns (Some id) = id
next_mark_id b ns None = suc (b.greatest ns)

-- whether no id is left for a mark without one, or no number for a setting more
abbrev pub no_id_for : SeenBuffer → ℕ → Option ℕ → Bool
no_id_for b ns (Some id) = false
no_id_for b ns None = nat_le greatest_mark_id (b.greatest ns)

abbrev pub no_mark_left : SeenBuffer → ℕ → Option ℕ → Bool
no_mark_left b ns given = nat_le most_settings b.settings || no_id_for b ns given

-- whether a number is no group's
abbrev pub is_no_group : List NamedGroup → Option ℤ → Bool
is_no_group groups None = false
is_no_group groups (Some (pos id)) = not (nat_le 1 id && nat_le id (length groups))
is_no_group groups (Some (negsuc n)) = true

abbrev pub group_words : Option ℤ → List ℕ
group_words None = []
group_words (Some id) = signed_decimal id

-- whether a further mark, or further groups, would pass their limit
abbrev pub mark_passes_limit : Stage → SeenBuffer → ℕ → ℕ → List (List ℕ) → Bool
mark_passes_limit stage b ns id names =
    (is_none (mark_at b.marks ns id) && nat_le stage.limits.marks (length b.marks))
    || nat_lt stage.limits.groups
    (length stage.groups + length (names_operations stage.groups names))

-- whether a part of the virtual text holds a line feed
abbrev pub text_has_newline : List (Tree × Tree) → Bool
text_has_newline pairs = list_any (λ c. has_newline c.0) (text_chunks pairs)

-- the virtual text is put, where there is one, with the setting of this number
abbrev pub note_operations : ℤ → ℕ → List NamedGroup → List (Tree × Tree) → List Operation
note_operations n set groups pairs =
    if has_text pairs then note_put n set (note_with groups pairs) ∷ [] else []

-- what is done where a mark is set: groups are made for the names that it has, and it is set with
-- its virtual text
abbrev pub setting_operations : Stage → ℤ → ℕ → Mark → List (Tree × Tree) → List Operation
setting_operations stage n set mark pairs =
    names_operations stage.groups (group_names pairs)
    ++ mark_set n mark
    ∷ note_operations n set (groups_of_names stage.groups (group_names pairs)) pairs

-- the mark
abbrev pub mark_with : List NamedGroup → ℕ → ℕ → Pos → Option Far → List (Tree × Tree) → Mark
mark_with groups ns id start stop pairs = record {
  ns = ns;
  id = id;
  start = start;
  right = flag_or true (codes "right_gravity") pairs;
  stop = stop;
  paint = paint_of groups pairs;
  priority = unwrap_or (option_and_then priority_in (value_of (codes "priority") pairs))
      USUAL_PRIORITY;
  restore = flag_or true (codes "undo_restore") pairs;
  invalidate = flag_or false (codes "invalidate") pairs;
  hidden = false;
  set = 0;
}

-- the id that pairs that count give
abbrev pub given_id : List (Tree × Tree) → Option ℕ
given_id pairs = option_and_then mark_id_in (value_of (codes "id") pairs)

-- a mark set at a start, with an end that may lie before it
abbrev pub mark_answer : Seen → ℤ → SeenBuffer → ℕ → Pos → Option Far → List (Tree × Tree) → Answer
mark_answer s n b ns start stop pairs =
    let id = next_mark_id b ns (given_id pairs) in
    unless (
    (option_map_or (λ far. is_before far.pos start) stop false, start_after_end)
    ∷ (text_has_newline pairs, newline_inside)
    ∷ (no_mark_left b ns (given_id pairs), no_id_left)
    ∷ (
      is_no_group s.stage.groups (group_number pairs),
      unknown_name (group_words (group_number pairs)),
    )
    ∷ (mark_passes_limit s.stage b ns id (group_names pairs), limit_reached)
    ∷ [])
    (replied (natural id) (setting_operations s.stage n (b.settings + 1)
    (mark_with s.stage.groups ns id start stop pairs)
    pairs) [])

-- the end, where one is wanted
abbrev pub mark_answer_with_end : Seen → ℤ → SeenBuffer → ℕ → Pos → List (Tree × Tree) → Answer
mark_answer_with_end s n b ns start pairs =
    if has_end pairs
    then or_refused (end_place b.lines start pairs) out_of_bounds
    (λ place. mark_answer s n b ns start (Some (far_at pairs place)) pairs)
    else mark_answer s n b ns start None pairs

abbrev pub mark_answer_at : Seen → ℤ → ℤ → ℤ → ℤ → List (Tree × Tree) → Answer
mark_answer_at s buffer namespace row col pairs =
    on_buffer s buffer (λ n b.
    fault_or (naming_fault naming_keys (mark_keys pairs) pairs) (
    or_refused (namespace_of_id s.stage namespace) out_of_bounds (λ ns.
    or_refused (place_by_numbers
    (flag_or true (codes "strict") pairs) b.lines row col) out_of_bounds (λ start.
    mark_answer_with_end s n b ns start pairs))))

-- nvim_buf_set_extmark(buffer, ns_id, line, col, opts): a mark is set, anew as a whole where its id
-- is there; its id
abbrev pub nvim_buf_set_extmark : Seen → ℕ → List Arg → Answer
nvim_buf_set_extmark s session args = mark_answer_at s (number_at args 0) (number_at args 1)
    (number_at args 2) (number_at args 3) (last_pairs (pairs_at args 4))

-- the mark of a namespace and a number, where it is there
abbrev pub mark_numbered : SeenBuffer → ℕ → ℤ → Option Mark
mark_numbered b ns (pos id) = mark_at b.marks ns id
mark_numbered b ns (negsuc n) = None

-- a mark removed, where it is there
abbrev pub removal_answer : ℤ → Option Mark → Answer
removal_answer n None = reply_of (truth false)
removal_answer n (Some m) = replied (truth true) (mark_removed n m.ns m.id ∷ []) []

-- nvim_buf_del_extmark(buffer, ns_id, id): whether it was there
abbrev pub nvim_buf_del_extmark : Seen → ℕ → List Arg → Answer
nvim_buf_del_extmark s session args =
    on_buffer s (number_at args 0) (λ n b.
    or_refused (namespace_of_id s.stage (number_at args 1)) out_of_bounds (λ ns.
    removal_answer n (mark_numbered b ns (number_at args 2))))

-- what is told of the end of a mark, and of what it shows
abbrev pub end_details : Option Far → List (Tree × Tree)
end_details None = []
end_details (Some far) =
    key_value "end_row" (natural far.pos.row)
    ∷ key_value "end_col" (natural far.pos.col)
    ∷ key_value "end_right_gravity" (truth far.right)
    ∷ []

abbrev pub paint_details : List NamedGroup → Option Paint → List (Tree × Tree)
paint_details groups None = []
paint_details groups (Some paint) = key_value "hl_group" (text (name_at groups paint.group))
    ∷ key_value "hl_eol" (truth paint.eol) ∷ []

-- what is told of a mark if undo doesn't put it back, if it is struck where all of it is removed,
-- and if it is hidden
abbrev pub undo_details : Mark → List (Tree × Tree)
undo_details m =
    (if not m.restore then key_value "undo_restore" (truth false) ∷ [] else [])
    ++ (if m.invalidate then key_value "invalidate" (truth true) ∷ [] else [])
    ++ (if m.hidden then key_value "invalid" (truth true) ∷ [] else [])

-- what is told of its virtual text: the parts, and where it is
abbrev pub chunk_told : List NamedGroup → Chunk → Tree
chunk_told groups c =
    array_of (text c.text ∷ option_map_or (λ id. text (name_at groups id) ∷ []) c.group [])

abbrev pub place_word : At → List ℕ
place_word Eol = codes "eol"
place_word Overlay = codes "overlay"
place_word RightAlign = codes "right_align"

abbrev pub note_details : List NamedGroup → Option NoteText → List (Tree × Tree)
note_details groups None = []
note_details groups (Some note) =
    key_value "virt_text" (array_of (map (chunk_told groups) note.chunks))
    ∷ key_value "virt_text_pos" (text (place_word note.at))
    ∷ []

-- the details of a mark, with its virtual text, where it has one
abbrev pub details_of : List NamedGroup → Option NoteText → Mark → Tree
details_of groups note m =
    dict_of (
    key_value "ns_id" (natural m.ns)
    ∷ key_value "right_gravity" (truth m.right)
    ∷ key_value "priority" (natural m.priority)
    ∷ end_details m.stop
    ++ (paint_details groups m.paint ++ (undo_details m ++ note_details groups note)))

-- the place of a mark of a buffer, and its details where they are wanted
abbrev pub place_values : Stage → ℤ → Bool → Mark → List Tree
place_values stage n details m =
    natural m.start.row
    ∷ natural m.start.col
    ∷ (if details then details_of stage.groups (note_at stage.notes n m.set) m ∷ [] else [])

abbrev pub place_values_if_any : Stage → ℤ → Bool → Option Mark → List Tree
place_values_if_any stage n details None = []
place_values_if_any stage n details (Some m) = place_values stage n details m

-- nvim_buf_get_extmark_by_id(buffer, ns_id, id, opts): its row and column, with key `details` the
-- details too, and an empty Array where it isn't there
abbrev pub nvim_buf_get_extmark_by_id : Seen → ℕ → List Arg → Answer
nvim_buf_get_extmark_by_id s session args =
    on_buffer s (number_at args 0) (λ n b.
    fault_or (map_fault (flag_key (codes "details") ∷ []) (last_pairs (pairs_at args 3))) (
    or_refused (namespace_of_id s.stage (number_at args 1)) out_of_bounds (λ ns.
    reply_of (array_of (place_values_if_any s.stage n
    (flag_or false (codes "details") (last_pairs (pairs_at args 3)))
    (mark_numbered b ns (number_at args 2)))))))
