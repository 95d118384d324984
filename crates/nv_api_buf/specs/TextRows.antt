-- The methods on the text of a buffer, each as one row: its faults in the order of their numbers,
-- and then what it does (help: api-buffer; the help tag of each is its name).
use Rattle.std.specs.Prelude.{ℕ, ℤ, pos, Bool, not, ◌&&◌, nat_lt, List, [], ◌∷◌, length, slice_range}
use Rattle.std.specs.List.{list_any}
use Rattle.nv_value.specs.Content.{integer, list}
use Rattle.nv_msgpack.specs.Spelling.{unsigned_number}
use Rattle.nv_places.specs.Flat.{row_start}
use Rattle.nv_places.specs.Places.{is_before}
use Rattle.nv_places.specs.declared.place.Pos.{Pos}
use Rattle.nv_args.specs.Faults.{out_of_bounds, start_after_end, newline_inside, not_modifiable, limit_reached}
use Rattle.nv_args.specs.Arguments.{leaves_text, row_of_index, last_pairs}
use Rattle.nv_args.specs.Reading.{Arg, number_at, flag_at, lines_at, pairs_at}
use Rattle.nv_args.specs.Texts.{strings, has_newline, lines_put, or_empty, text_between}
use Rattle.nv_args.specs.Maps.{map_fault}
use Rattle.nv_model.specs.Buffers.{Splice, rows_splice, text_splice, is_empty_splice}
use Rattle.nv_model.specs.Seen.{Seen, SeenBuffer}
use Rattle.nv_model.specs.Answers.{Answer, unless, or_refused, on_buffer}
use Rattle.nv_model.specs.Answering.{reply_of, fault_or, splice_answer}
use Rattle.nv_api_buf.specs.Texts.{is_no_index, place_named, splice_passes_limit}

-- nvim_buf_line_count(buffer): the number of lines
abbrev pub nvim_buf_line_count : Seen → ℕ → List Arg → Answer
nvim_buf_line_count s session args =
    on_buffer s (number_at args 0) (λ n b. reply_of (integer (pos (length b.lines))))

-- nvim_buf_get_changedtick(buffer): the changedtick
abbrev pub nvim_buf_get_changedtick : Seen → ℕ → List Arg → Answer
nvim_buf_get_changedtick s session args =
    on_buffer s (number_at args 0) (λ n b. reply_of (integer (pos b.tick)))

-- nvim_buf_get_offset(buffer, index): the offset at which a row begins, the number of lines being
-- the end of the text
abbrev pub nvim_buf_get_offset : Seen → ℕ → List Arg → Answer
nvim_buf_get_offset s session args = on_buffer s (number_at args 0) (λ n b.
    unless ((is_no_index (number_at args 1) (length b.lines), out_of_bounds) ∷ [])
    (reply_of (unsigned_number (
    row_start b.lines (row_of_index (number_at args 1) (length b.lines))))))

-- whether the range of the second to the fourth argument leaves a text of so many lines
abbrev pub range_leaves : List Arg → ℕ → Bool
range_leaves args count = leaves_text (flag_at args 3) (number_at args 1) (number_at args 2) count

-- nvim_buf_get_lines(buffer, start, end, strict_indexing): the lines of a range, the end exclusive,
-- and none where the start isn't before the end
abbrev pub nvim_buf_get_lines : Seen → ℕ → List Arg → Answer
nvim_buf_get_lines s session args = on_buffer s (number_at args 0) (λ n b.
    unless ((range_leaves args (length b.lines), out_of_bounds) ∷ [])
    (reply_of (list (strings (
    slice_range b.lines
    (row_of_index (number_at args 1) (length b.lines))
    (row_of_index (number_at args 2) (length b.lines)))))))

-- a splice of a buffer with new lines, which need not be allowed
abbrev pub put_answer : Seen → ℤ → SeenBuffer → List (List ℕ) → Splice → Answer
put_answer s n b new splice =
    unless (
    (list_any has_newline new, newline_inside)
    ∷ (not (is_empty_splice splice) && not b.modifiable, not_modifiable)
    ∷ (splice_passes_limit s.stage.limits b splice, limit_reached)
    ∷ [])
    (splice_answer n b splice)

-- nvim_buf_set_lines(buffer, start, end, strict_indexing, replacement): lines put for those of a
-- range, the end exclusive
abbrev pub rows_answer : Seen → List Arg → ℤ → SeenBuffer → ℕ → ℕ → Answer
rows_answer s args n b from to =
    unless (
    (range_leaves args (length b.lines), out_of_bounds)
    ∷ (nat_lt to from, start_after_end)
    ∷ [])
    (put_answer s n b (lines_at args 4)
    (rows_splice b.next b.lines from to (lines_put from to (lines_at args 4) b.lines)))

abbrev pub nvim_buf_set_lines : Seen → ℕ → List Arg → Answer
nvim_buf_set_lines s session args = on_buffer s (number_at args 0) (λ n b.
    rows_answer s args n b
    (row_of_index (number_at args 1) (length b.lines))
    (row_of_index (number_at args 2) (length b.lines)))

-- two places of a text that arguments name, from the second argument on: both are places of it, and
-- the first isn't behind the second
abbrev pub on_places : SeenBuffer → List Arg → (Pos → Pos → Answer) → Answer
on_places b args next =
    or_refused (place_named b.lines (number_at args 1) (number_at args 2)) out_of_bounds (λ start.
    or_refused (place_named b.lines (number_at args 3) (number_at args 4)) out_of_bounds (λ stop.
    unless ((is_before stop start, start_after_end) ∷ []) (next start stop)))

-- nvim_buf_get_text(buffer, start_row, start_col, end_row, end_col, opts): the lines between two
-- places, the end column exclusive
abbrev pub nvim_buf_get_text : Seen → ℕ → List Arg → Answer
nvim_buf_get_text s session args = on_buffer s (number_at args 0) (λ n b.
    fault_or (map_fault [] (last_pairs (pairs_at args 5))) (
    on_places b args (λ start stop. reply_of (list (strings (text_between b.lines start stop))))))

-- nvim_buf_set_text(buffer, start_row, start_col, end_row, end_col, replacement): lines put between
-- two places, the end column exclusive
abbrev pub nvim_buf_set_text : Seen → ℕ → List Arg → Answer
nvim_buf_set_text s session args = on_buffer s (number_at args 0) (λ n b.
    on_places b args (λ start stop. put_answer s n b (lines_at args 5)
    (text_splice b.next b.lines start stop (or_empty (lines_at args 5)))))
