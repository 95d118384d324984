-- A buffer of the model: its first text with all splices made in it since, and its marks as they
-- were set.
use Rattle.std.specs.Prelude.{ℕ, suc, ◌+◌, ◌-◌, ◌==◌, if◌then◌else◌, Bool, true, false, not, ◌&&◌, pos, List, [], ◌∷◌, ◌++◌, length, take, drop, map, fold, filter, max, Option, None, Some, is_some, option_map, option_and_then, option_to_list, unwrap_or, nat_le, nat_lt, ◌||◌}
use Rattle.std.specs.Option.{option_map_or}
use Rattle.std.specs.List.{splice, join_with_byte}
use Rattle.std.specs.Map.{lookup}
use Rattle.nv_places.specs.Flat.{flat, lines_of, row_start}
use Rattle.nv_places.specs.Places.{place_of, extent_of, offset_of}
use Rattle.nv_places.specs.Moves.{moved_offset}
use Rattle.nv_places.specs.declared.place.Pos.{Pos}
use Rattle.nv_marks.specs.declared.extmark.Far.{Far}
use Rattle.nv_marks.specs.declared.extmark.Mark.{Mark}
use Rattle.nv_marks.specs.declared.extmark.Paint.{Paint}
use Rattle.nv_marks.specs.Marks.{greatest_id}
use Rattle.nv_undo.specs.Tree.{Undo, last, no_changes, change_of, pushed}
use Rattle.nv_buffer.specs.Changes.{turned_part}
use Rattle.nv_buffer.specs.Marks.{marks_in_order}
use Rattle.nv_buffer.specs.declared.buffer.Spliced.{Spliced}
use Rattle.nv_buffer.specs.declared.edit.ChangePart.{ChangePart}

-- bytes `from` up to before `until` of the flat text become `bytes`, as a part of a change; `rows`
-- where whole lines were put (help: nvim_buf_set_lines()), and not where text was put between two
-- places (help: nvim_buf_set_text())
pub record Splice : Type 0 where
  pub from : ℕ
  pub until : ℕ
  pub bytes : List ℕ
  pub rows : Bool
  pub part : ChangePart

-- the end of a mark as it was set, with its gravity
pub record SetFar : Type 0 where
  pub offset : ℕ
  pub right : Bool

-- a mark as it was set, at an offset of the flat text, after so many splices of its buffer, under
-- the number of that setting (help: nvim_buf_set_extmark())
pub record SetMark : Type 0 where
  pub ns : ℕ
  pub id : ℕ
  pub offset : ℕ
  pub right : Bool
  pub stop : Option SetFar
  pub paint : Option Paint
  pub priority : ℕ
  -- undo and redo put it back
  pub restore : Bool
  -- it is struck where all of it is removed
  pub invalidate : Bool
  pub set : ℕ
  pub since : ℕ

-- a change: the splices that it is made of, and the flat text after them (help: undo-tree)
pub record Kept : Type 0 where
  pub splices : List Splice
  pub text : List ℕ

-- a buffer: its first flat text, all its splices, its marks as set, how many settings were made,
-- for each namespace the greatest id ever set, its tree of changes, the splices of the change that
-- is still open, its name and its options (help: api-buffer, options)
pub record ModelBuffer : Type 0 where
  pub first : List ℕ
  pub splices : List Splice
  pub marks : List SetMark
  pub settings : ℕ
  pub greatest : List (ℕ × ℕ)
  pub undo : Undo Kept
  pub unsealed : List Splice
  pub name : List ℕ
  pub modifiable : Bool
  pub modified : Bool
  pub listed : Bool
  pub tabstop : ℕ

-- lines put in place of the rows `from` up to before `to` (help: nvim_buf_set_lines())
abbrev pub rows_splice : ChangePart → List (List ℕ) → ℕ → ℕ → List (List ℕ) → Splice
rows_splice part lines from to new =
    record {
      from = row_start lines from;
      until = row_start lines to;
      bytes = flat new;
      rows = true;
      part = part;
    }

-- lines put between two places, the second one exclusive (help: nvim_buf_set_text())
abbrev pub text_splice : ChangePart → List (List ℕ) → Pos → Pos → List (List ℕ) → Splice
text_splice part lines start stop new = record {
  from = offset_of lines start;
  until = offset_of lines stop;
  bytes = join_with_byte 10 new;
  rows = false;
  part = part;
}

-- a splice that removes nothing and puts nothing, which isn't made (own rule)
abbrev pub is_empty_splice : Splice → Bool
is_empty_splice s = s.from == s.until && length s.bytes == 0

-- a flat text after a splice
abbrev pub text_after : List ℕ → Splice → List ℕ
text_after text s = splice text s.from s.until s.bytes

-- a buffer's text: its first text with its splices
unfoldable pub text_of : ModelBuffer → List ℕ
text_of m = fold text_after m.first m.splices

-- the changedtick: 2 at first, and one more after each splice (help: changetick)
abbrev pub tick_of : ModelBuffer → ℕ
tick_of m = 2 + length m.splices

-- the next splice of a buffer is the next part of the change that is open, which gets the next
-- number once it is closed (help: undo-tree)
abbrev pub part_next : ModelBuffer → ChangePart
part_next m = record { change = suc (last m.undo); part = length m.unsealed; back = false }

-- ---- where a mark stands

-- where a splice moves an offset
abbrev pub moved_by : Bool → ℕ → Splice → ℕ
moved_by right offset s = moved_offset right s.from s.until (length s.bytes) offset

-- how far a splice reaches: bytes `from` up to before `until` become `put` bytes, as a part of a
-- change
pub record Reach : Type 0 where
  pub from : ℕ
  pub until : ℕ
  pub put : ℕ
  pub part : ChangePart

abbrev pub reach_of : Splice → Reach
reach_of s = record { from = s.from; until = s.until; put = length s.bytes; part = s.part }

-- the keys of a mark that say how it moves: the gravity of its start and of its end, whether undo
-- and redo put it back, and whether it is struck where all of it is removed
pub record MarkKeys : Type 0 where
  pub right : Bool
  pub stops_right : Bool
  pub restore : Bool
  pub invalidate : Bool

-- what a splice keeps of a mark: the offsets of its start and of its end that lie from the first
-- byte that is replaced to behind the last one, and whether it was hidden
pub record KeptState : Type 0 where
  pub start : Option ℕ
  pub stop : Option ℕ
  pub hidden : Bool

-- where a mark stands: the offsets of its start and of its end, whether it is hidden, and whether
-- it is gone for good; and what the last splice of each part kept of it
pub record MarkState : Type 0 where
  pub start : ℕ
  pub stop : Option ℕ
  pub hidden : Bool
  pub gone : Bool
  pub kept : List (ChangePart × KeptState)

-- an offset that lies from the first byte that is replaced to behind the last one
abbrev pub offset_within : Reach → ℕ → Option ℕ
offset_within r p = if nat_le r.from p && nat_le p r.until then Some p else None

-- what a splice keeps of a mark: nothing without `restore`, or where neither end lies there
abbrev pub kept_state : MarkKeys → MarkState → Reach → Option KeptState
kept_state keys x r =
    if keys.restore
    && (is_some (offset_within r x.start)
    || is_some (option_and_then (offset_within r) x.stop))
    then Some (record {
      start = offset_within r x.start;
      stop = option_and_then (offset_within r) x.stop;
      hidden = x.hidden;
    }) else None

-- a splice removes all of a mark: it starts among the bytes that are replaced, and ends there
abbrev pub is_removed : MarkState → Reach → Bool
is_removed x r =
    nat_le r.from x.start && (nat_le (unwrap_or x.stop x.start) r.until && nat_lt x.start r.until)

-- a mark with `invalidate` of which all is removed is struck: with `restore` it is hidden, without
-- that it is gone for good
abbrev pub state_struck : MarkKeys → MarkState → Reach → MarkState
state_struck keys x r =
    if keys.invalidate && is_removed x r
    then (if keys.restore then record x { hidden = true } else record x { gone = true }) else x

-- start and end are moved each by itself
abbrev pub state_moved : MarkKeys → MarkState → Reach → MarkState
state_moved keys x r = record x {
  start = moved_offset keys.right r.from r.until r.put x.start;
  stop = option_map (moved_offset keys.stops_right r.from r.until r.put) x.stop;
}

-- two parts are the same one, whichever way they are gone
abbrev pub is_same_part : ChangePart → ChangePart → Bool
is_same_part p q = p.change == q.change && p.part == q.part

-- what the last splice of the same part kept, where it kept something
abbrev pub last_kept : ChangePart → List (ChangePart × KeptState) → Option KeptState
last_kept part kept = lookup (is_same_part part) kept

-- what was kept, once a splice of a part kept this
abbrev pub kept_with : ChangePart → Option KeptState → List (ChangePart × KeptState)
    → List (ChangePart × KeptState)
kept_with part now kept =
    filter (λ e. not (is_same_part part e.0)) kept
    ++ option_to_list (option_map (λ k. (part, k)) now)

-- what was kept is put back
abbrev pub state_put_back : Option KeptState → MarkState → MarkState
state_put_back None x = x
state_put_back (Some kept) x = record x {
  start = unwrap_or kept.start x.start;
  stop = option_map (λ p. unwrap_or kept.stop p) x.stop;
  hidden = kept.hidden;
}

-- a mark after a splice, which keeps, strikes, moves, and puts back what the one before of the same
-- part kept (help: nvim_buf_set_extmark(), keys undo_restore and invalidate)
abbrev pub state_after : MarkKeys → MarkState → Reach → MarkState
state_after keys x r =
    let moved = state_moved keys (state_struck keys x r) r in
    let back = state_put_back (last_kept r.part x.kept) moved in
    record back { kept = kept_with r.part (kept_state keys x r) x.kept }

-- the keys of a mark as it was set
abbrev pub keys_of : SetMark → MarkKeys
keys_of k = record {
  right = k.right;
  stops_right = option_map_or (λ far. far.right) k.stop false;
  restore = k.restore;
  invalidate = k.invalidate;
}

-- where it stood then
abbrev pub state_set : SetMark → MarkState
state_set k = record {
  start = k.offset;
  stop = option_map (λ far. far.offset) k.stop;
  hidden = false;
  gone = false;
  kept = [];
}

-- where a mark stands after the splices made since it was set
unfoldable pub state_behind : SetMark → List Splice → MarkState
state_behind k splices = fold (state_after (keys_of k)) (state_set k) (map reach_of splices)

-- where a mark of a buffer stands now
abbrev pub state_now : ModelBuffer → SetMark → MarkState
state_now m k = state_behind k (drop k.since m.splices)

-- the end of a mark at an offset of a text
abbrev pub far_of : List ℕ → SetMark → ℕ → Far
far_of text k offset =
    record { pos = place_of text offset; right = (keys_of k).stops_right }

-- a mark that stands so in a text (help: api-extended-marks)
abbrev pub mark_in : List ℕ → SetMark → MarkState → Mark
mark_in text k x = record {
  ns = k.ns;
  id = k.id;
  start = place_of text x.start;
  right = k.right;
  stop = option_map (far_of text k) x.stop;
  paint = k.paint;
  priority = k.priority;
  restore = k.restore;
  invalidate = k.invalidate;
  hidden = x.hidden;
  set = k.set;
}

-- a mark now
abbrev pub mark_of : ModelBuffer → SetMark → Mark
mark_of m k = mark_in (text_of m) k (state_now m k)

-- the marks as set that are there: those that aren't gone for good
abbrev pub marks_there : ModelBuffer → List SetMark
marks_there m = filter (λ k. not (state_now m k).gone) m.marks

-- the marks of a buffer now, in their order (help: nvim_buf_get_extmarks())
unfoldable pub marks_of : ModelBuffer → List Mark
marks_of m = marks_in_order (map (mark_of m) (marks_there m))

-- what takes a splice of this text back: of the same form
abbrev pub inverse_splice : List ℕ → Splice → Splice
inverse_splice text s = record {
  from = s.from;
  until = s.from + length s.bytes;
  bytes = take (s.until - s.from) (drop s.from text);
  rows = s.rows;
  part = turned_part s.part;
}

-- what takes splices made one after another from this text on back, the last one first
abbrev pub inverse_splices : List ℕ → List Splice → List Splice
inverse_splices text [] = []
inverse_splices text (s ∷ ss) = inverse_splices (text_after text s) ss ++ inverse_splice text s ∷ []

-- the row behind the last one that a splice touches: for text between two places the row of the
-- second is one of them
abbrev pub row_behind : List ℕ → Splice → ℕ
row_behind text s = (place_of text s.until).row + (if s.rows then 0 else 1)

-- the lines that stand after a splice of this text in place of the rows that it touches: those from
-- the row where it begins on, but for as many as stood behind it
abbrev pub lines_in_place : List ℕ → Splice → List (List ℕ)
lines_in_place text s =
    take
    (length (lines_of (text_after text s)) - (length (lines_of text) - row_behind text s)
    - (place_of text s.from).row)
    (drop (place_of text s.from).row (lines_of (text_after text s)))

-- what is told of a splice of this text that makes the changedtick `tick`: rows of the text before,
-- and all lines that now stand in their place (help: nvim_buf_lines_event)
abbrev pub splice_event : List ℕ → ℕ → Splice → Spliced
splice_event text tick s = record {
  tick = pos tick;
  edit = record {
    first = (place_of text s.from).row;
    last = row_behind text s;
    lines = lines_in_place text s;
    at = s.from;
    old = s.until - s.from;
    new = length s.bytes;
    start = place_of text s.from;
    removed = extent_of (inverse_splice text s).bytes;
    put = extent_of s.bytes;
    rows = s.rows;
    part = s.part;
  };
}

-- what is told of splices made one after another, the changedtick being `tick` before the first of
-- them
abbrev pub splice_events : List ℕ → ℕ → List Splice → List Spliced
splice_events text tick [] = []
splice_events text tick (s ∷ ss) =
    splice_event text (tick + 1) s ∷ splice_events (text_after text s) (tick + 1) ss

-- the text that is kept of a number of the tree of changes: the first text for 0 (help: undo-tree)
abbrev pub kept_text : List ℕ → Undo Kept → ℕ → List ℕ
kept_text first undo n = option_map_or (λ k. k.text) (change_of undo n) first

-- a fresh buffer: one empty line, no name, modifiable, not modified, 'tabstop' 8 (help: options)
abbrev pub fresh_buffer : Bool → ModelBuffer
fresh_buffer listed = record {
  first = 10 ∷ [];
  splices = [];
  marks = [];
  settings = 0;
  greatest = [];
  undo = no_changes;
  unsealed = [];
  name = [];
  modifiable = true;
  modified = false;
  listed = listed;
  tabstop = 8;
}

-- the tree of changes once the open change, where it has splices, is closed at this text (help:
-- undo-blocks)
abbrev pub closed_with : List Splice → List ℕ → Undo Kept → Undo Kept
closed_with [] text undo = undo
closed_with (s ∷ ss) text undo = pushed (record { splices = s ∷ ss; text = text }) undo

-- after a splice that belongs to no open change, as one of an undo command
abbrev pub with_splice_back : Splice → ModelBuffer → ModelBuffer
with_splice_back s m = record m { splices = m.splices ++ s ∷ []; modified = true }

-- after a splice, which belongs to the open change
abbrev pub with_splice : Splice → ModelBuffer → ModelBuffer
with_splice s m =
    record m { splices = m.splices ++ s ∷ []; modified = true; unsealed = m.unsealed ++ s ∷ [] }

-- after the open change, where it has splices, is closed: it gets the next number, with the current
-- one as its parent, and becomes the current one (help: undo-blocks)
abbrev pub with_seal : ModelBuffer → ModelBuffer
with_seal m = record m { undo = closed_with m.unsealed (text_of m) m.undo; unsealed = [] }

-- a mark as set has this namespace and id
abbrev pub is_set : ℕ → ℕ → SetMark → Bool
is_set ns id k = k.ns == ns && k.id == id

-- the marks but that of a namespace and id
abbrev pub without_set : ℕ → ℕ → List SetMark → List SetMark
without_set ns id marks = filter (λ k. not (is_set ns id k)) marks

-- a mark set now is set anew as a whole
abbrev pub with_mark : SetMark → ModelBuffer → ModelBuffer
with_mark k m = record m {
  marks = k ∷ without_set k.ns k.id m.marks;
  settings = suc m.settings;
  greatest = (k.ns, max (greatest_id m.greatest k.ns) k.id) ∷ m.greatest;
}

-- the buffer without the mark of a namespace and id, which still counts for the next id
abbrev pub without_mark : ℕ → ℕ → ModelBuffer → ModelBuffer
without_mark ns id m = record m { marks = without_set ns id m.marks }
