-- The methods on many marks (help: nvim_buf_get_extmarks(), nvim_buf_clear_namespace()).
use Rattle.std.specs.Prelude.{ℕ, ℤ, pos, negsuc, ◌==◌, Bool, false, not, ◌&&◌, ◌||◌, nat_le, nat_lt, List, [], ◌∷◌, length, take, map, filter, reverse, codes, Option, Some, None, option_map, option_and_then, unwrap_or, if◌then◌else◌}
use Rattle.std.specs.Option.{option_map_or}
use Rattle.std.specs.Ordering.{int_eq}
use Rattle.nv_value.specs.Content.{Tree, nil, list}
use Rattle.nv_places.specs.Flat.{line_at}
use Rattle.nv_places.specs.Places.{is_before}
use Rattle.nv_places.specs.declared.place.Pos.{Pos}
use Rattle.nv_args.specs.Faults.{out_of_bounds}
use Rattle.nv_msgpack.specs.Handle.{integer_of}
use Rattle.nv_args.specs.Arguments.{tree_list, last_pairs}
use Rattle.nv_args.specs.Reading.{Arg, number_at, object_at, pairs_at}
use Rattle.nv_args.specs.Dicts.{optional_key, flag_key, flag_or}
use Rattle.nv_args.specs.KeyValues.{integer_from, takes_integer_from}
use Rattle.nv_args.specs.Maps.{Key, map_fault, value_of}
use Rattle.nv_marks.specs.Order.{starts_within}
use Rattle.nv_marks.specs.Queries.{is_meant}
use Rattle.nv_marks.specs.declared.extmark.Mark.{Mark}
use Rattle.nv_model.specs.Stage.{Stage}
use Rattle.nv_model.specs.Seen.{Seen, SeenBuffer}
use Rattle.nv_model.specs.Answers.{Answer, replied, or_refused, on_buffer}
use Rattle.nv_model.specs.Answering.{reply_of, fault_or, array_of, natural, removal_operations}
use Rattle.nv_api_mark.specs.Namespaces.{namespace_of_id}
use Rattle.nv_api_mark.specs.Setting.{col_by_number}
use Rattle.nv_api_mark.specs.MarkRows.{mark_numbered, place_values}

-- which marks are meant: those of one namespace, or all
abbrev pub meant_namespace : Stage → ℤ → Option (Option ℕ)
meant_namespace stage (negsuc n) = if n == 0 then Some None else None
meant_namespace stage (pos ns) = option_map Some (namespace_of_id stage (pos ns))

-- the first place, and the last one: the row after the last line
abbrev pub first_place : Pos
first_place = record { row = 0; col = 0 }

abbrev pub last_place : List (List ℕ) → Pos
last_place lines = record { row = length lines; col = 0 }

-- the place of a mark of the one namespace that is meant
abbrev pub place_of_mark : SeenBuffer → Option ℕ → ℤ → Option Pos
place_of_mark b None id = None
place_of_mark b (Some ns) id = option_map (λ m. m.start) (mark_numbered b ns id)

-- the place that one number names: 0 the first, -1 the last, another one that of a mark
abbrev pub place_by_number : SeenBuffer → Option ℕ → ℤ → Option Pos
place_by_number b meant id =
    if int_eq id (pos 0) then Some first_place
    else if int_eq id (negsuc 0) then Some (last_place b.lines)
    else place_of_mark b meant id

-- a place that two numbers name: row -1, and a row after the last line, are the last place, and a
-- column behind the end of its line is that end
abbrev pub place_or_last : List (List ℕ) → ℕ → ℕ → Pos
place_or_last lines row col =
    if nat_lt row (length lines) then record { row = row; col = col } else last_place lines

abbrev pub row_or_last : List (List ℕ) → ℤ → Option ℕ
row_or_last lines (pos row) = Some row
row_or_last lines (negsuc n) = if n == 0 then Some (length lines) else None

abbrev pub place_at : List (List ℕ) → ℤ → ℤ → Option Pos
place_at lines row col =
    option_and_then (λ r. option_map (place_or_last lines r)
    (col_by_number false (length (line_at lines r)) col)) (row_or_last lines row)

-- two integers of an Array
abbrev pub place_pair : List (List ℕ) → List Tree → Option Pos
place_pair lines (row ∷ col ∷ []) =
    place_at lines (unwrap_or (integer_of row) (pos 0)) (unwrap_or (integer_of col) (pos 0))
place_pair lines _ = None

-- the place that a value names
abbrev pub place_of_value : SeenBuffer → Option ℕ → Tree → Option Pos
place_of_value b meant (list ts) = place_pair b.lines (tree_list ts)
place_of_value b meant t = place_by_number b meant (unwrap_or (integer_of t) (pos 0))

-- the keys: how many marks at most, their details, and those that reach into the range
abbrev pub listing_keys : List Key
listing_keys =
    optional_key (codes "limit") (takes_integer_from 1)
    ∷ flag_key (codes "details")
    ∷ flag_key (codes "overlap")
    ∷ []

-- a mark reaches to a place: it starts before it, and its end isn't before it
abbrev pub reaches : Pos → Mark → Bool
reaches p m = is_before m.start p && option_map_or (λ far. not (is_before far.pos p)) m.stop false

-- the marks that are meant between two places, both included, and with `overlap` those that reach
-- to the first
abbrev pub marks_between : Option ℕ → Bool → Pos → Pos → List Mark → List Mark
marks_between meant overlap low high marks =
    filter
    (λ m. is_meant meant m.ns && (starts_within low high m || (overlap && reaches low m))) marks

-- from one place to another, in reverse order where that lies before it
abbrev pub marks_from : Option ℕ → Bool → Pos → Pos → List Mark → List Mark
marks_from meant overlap start end marks =
    if is_before end start then reverse (marks_between meant overlap end start marks)
    else marks_between meant overlap start end marks

-- no more than so many
abbrev pub first_marks : Option ℕ → List Mark → List Mark
first_marks None marks = marks
first_marks (Some n) marks = take n marks

-- a mark as it is listed
abbrev pub listed_mark : Stage → ℤ → Bool → Mark → Tree
listed_mark stage n details m = array_of (natural m.id ∷ place_values stage n details m)

abbrev pub listing_answer : Seen → ℤ → SeenBuffer → Option ℕ → Pos → Pos → List (Tree × Tree)
    → Answer
listing_answer s n b meant start end pairs =
    reply_of (array_of (
    map (listed_mark s.stage n (flag_or false (codes "details") pairs)) (
    first_marks (option_and_then (integer_from 1) (value_of (codes "limit") pairs)) (
    marks_from meant (flag_or false (codes "overlap") pairs) start end b.marks))))

abbrev pub listing_answer_at : Seen → ℤ → ℤ → Tree → Tree → List (Tree × Tree) → Answer
listing_answer_at s buffer namespace start end pairs =
    on_buffer s buffer (λ n b.
    fault_or (map_fault listing_keys pairs) (
    or_refused (meant_namespace s.stage namespace) out_of_bounds (λ meant.
    or_refused (place_of_value b meant start) out_of_bounds (λ low.
    or_refused (place_of_value b meant end) out_of_bounds (λ high.
    listing_answer s n b meant low high pairs)))))

-- nvim_buf_get_extmarks(buffer, ns_id, start, end, opts): the marks from one place to another, both
-- included; keys `limit`, `details`, `overlap`
abbrev pub nvim_buf_get_extmarks : Seen → ℕ → List Arg → Answer
nvim_buf_get_extmarks s session args =
    listing_answer_at s (number_at args 0) (number_at args 1) (object_at args 2) (object_at args 3)
    (last_pairs (pairs_at args 4))

-- a row lies from a first on, and before a second where there is one
abbrev pub lies_in : ℕ → Option ℕ → Mark → Bool
lies_in first None m = nat_le first m.start.row
lies_in first (Some last) m = nat_le first m.start.row && nat_lt m.start.row last

-- the row that a number names, and none for -1, which is past the last place
abbrev pub last_row : ℤ → Option (Option ℕ)
last_row (pos n) = Some (Some n)
last_row (negsuc n) = if n == 0 then Some None else None

abbrev pub first_row : ℤ → Option ℕ
first_row (pos n) = Some n
first_row (negsuc n) = None

-- nvim_buf_clear_namespace(buffer, ns_id, line_start, line_end): the marks of these rows are
-- removed, the second exclusive
abbrev pub nvim_buf_clear_namespace : Seen → ℕ → List Arg → Answer
nvim_buf_clear_namespace s session args =
    on_buffer s (number_at args 0) (λ n b.
    or_refused (meant_namespace s.stage (number_at args 1)) out_of_bounds (λ meant.
    or_refused (first_row (number_at args 2)) out_of_bounds (λ first.
    or_refused (last_row (number_at args 3)) out_of_bounds (λ last.
    replied nil (removal_operations n
    (filter (λ m. is_meant meant m.ns && lies_in first last m) b.marks)) []))))
