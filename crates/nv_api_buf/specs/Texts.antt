-- Places of a text as calls name them, and which splices a call may make (help: api-indexing).
use Rattle.std.specs.Prelude.{ℕ, ℤ, pos, negsuc, Bool, true, not, ◌&&◌, ◌||◌, nat_lt, int_lt, List, length, Option, option_map, option_and_then}
use Rattle.std.specs.List.{list_any}
use Rattle.nv_places.specs.Flat.{flat, lines_of, line_at}
use Rattle.nv_places.specs.declared.place.Pos.{Pos}
use Rattle.nv_args.specs.Arguments.{text_row, text_col}
use Rattle.nv_buffer.specs.declared.buffer.Spliced.{Spliced}
use Rattle.nv_model.specs.Answering.{event_of_splice}
use Rattle.nv_model.specs.Buffers.{Splice, text_after, is_empty_splice}
use Rattle.nv_model.specs.Seen.{SeenBuffer}
use Rattle.nv_model.specs.declared.parts.Limits.{Limits}

-- whether an index lies outside 0 to the number of lines (help: nvim_buf_get_offset())
abbrev pub is_no_index : ℤ → ℕ → Bool
is_no_index (pos index) lines = nat_lt lines index
is_no_index (negsuc index) lines = true

-- the place of a text that two arguments name, in a line of it (help: nvim_buf_get_text())
abbrev pub place_in_row : List (List ℕ) → ℤ → ℕ → Option Pos
place_in_row lines col row =
    option_map (λ c. record { row = row; col = c }) (text_col col (length (line_at lines row)))

abbrev pub place_named : List (List ℕ) → ℤ → ℤ → Option Pos
place_named lines row col = option_and_then (place_in_row lines col) (text_row row (length lines))

-- whether an event would pass a limit: the number of lines afterwards, the length of a line that
-- now stands there, or the changedtick
abbrev pub event_passes : Limits → ℕ → Spliced → Bool
event_passes limits lines event =
    nat_lt limits.lines lines
    || list_any (λ line. nat_lt limits.line_bytes (length line)) event.edit.lines
    || int_lt limits.ticks event.tick

-- whether a splice would pass a limit
abbrev pub splice_passes_limit : Limits → SeenBuffer → Splice → Bool
splice_passes_limit limits b s =
    not (is_empty_splice s)
    && event_passes limits (length (lines_of (text_after (flat b.lines) s))) (event_of_splice b s)
