-- Lemmas on edits of the text and what is told of them.
use Rattle.std.proofs.Common.{◌≡◌, ℕ, ℤ, pos, ◌+◌, ◌+ℤ◌, ◌-◌, ◌^◌, ◌<◌, ◌≤◌, List, [], ◌∷◌, ◌++◌, length, take, drop, All, Bool, true, refl, sym, ap, subst, ◌∙◌, arith, length-append, false}
use Rattle.std.proofs.lemmas.List.{length-take, length-take-le, length-drop, take_at, drop_at, drop-drop}
use Rattle.std.specs.List.{splice, join_with_byte}
use Rattle.nv_places.specs.Flat.{flat, IsLine, row_start, line_at}
use Rattle.nv_places.specs.Places.{extent_of, offset_of, is_before}
use Rattle.nv_places.specs.declared.place.Pos.{Pos}
use Rattle.nv_places.proofs.FlatLemmas.{flat-splice}
use Rattle.nv_lines.proofs.FlatLengths.{row_start-le}
use Rattle.nv_buffer.specs.Splices.{IsBufferText, IsInLine, IsNarrowLine, lines_between}
use Rattle.nv_buffer.specs.Changes.{lines_after, edit_by, rows_edit, text_edit, Replaces, IsPlaced, Fits}
use Rattle.nv_buffer.specs.Content.{Content, IsEdit, after_edit, event_at, next_part, rows_event, text_event}
use Rattle.nv_buffer.specs.declared.edit.ChangePart.{ChangePart}
use Rattle.nv_buffer.specs.declared.edit.Edit.{Edit}
use Rattle.nv_buffer.specs.declared.buffer.Spliced.{Spliced}
use Rattle.nv_buffer.proofs.Between.{flat-text_splice, length-between}
use Rattle.nv_buffer.proofs.Measures.{row_start-mono, offset_of-lt, offsets_in_order, not_before_row, splice_narrow}
use Rattle.nv_buffer.proofs.WayBack.{length-spliced}

-- how long a list is after a splice
pub length-splice : (text bytes : List ℕ) (s e : ℕ) → s ≤ e → e ≤ length text
    → length (splice text s e bytes) ≡ s + (length bytes + (length text - e))
length-splice text bytes s e order within =
    omega (
      arith,
      length-append (take s text) (bytes ++ drop e text),
      length-append bytes (drop e text),
      length-take s text,
      length-drop e text,
    )

-- ---- bytes that are put in place of others
splice_replaces : (before after bytes : List ℕ) (s e : ℕ) → s ≤ e → e ≤ length before → after ≡ splice before s e bytes
    → Replaces before after s (e - s) (length bytes)
splice_replaces before after bytes s e order within after_is =
    let count : length after ≡ s + (length bytes + (length before - e)) = ap length after_is ∙ length-splice before bytes s e order within in
    let start : length (take s before) ≡ s = length-take-le s before (omega arith) in
    let end : e ≡ s + (e - s) = omega arith in
    let rest : drop (s + length bytes) (splice before s e bytes) ≡ drop e before =
    sym (drop-drop (length bytes) s (splice before s e bytes))
    ∙ ap (λ (t : List ℕ). drop (length bytes) t) (drop_at (take s before) (bytes ++ drop e before) s start)
    ∙ drop_at bytes (drop e before) (length bytes) refl in record {
      removed = omega arith;
      put = omega arith;
      front = ap (take s) after_is ∙ take_at (take s before) (bytes ++ drop e before) s start;
      back = ap (drop (s + length bytes)) after_is ∙ rest ∙ ap (λ (n : ℕ). drop n before) end;
    }

-- those that were put
splice_put : (before after bytes : List ℕ) (s e : ℕ) → s ≤ e → e ≤ length before → after ≡ splice before s e bytes
    → take (length bytes) (drop s after) ≡ bytes
splice_put before after bytes s e order within after_is =
    let start : length (take s before) ≡ s = length-take-le s before (omega arith) in
    ap (λ (t : List ℕ). take (length bytes) (drop s t)) after_is
    ∙ ap (λ (t : List ℕ). take (length bytes) t) (drop_at (take s before) (bytes ++ drop e before) s start)
    ∙ take_at bytes (drop e before) (length bytes) refl

-- ---- lines that are put are an edit that fits
pub record MayPut (text : List (List ℕ)) (first last : ℕ) (lines : List (List ℕ)) : Type 0 where
  pub order : first ≤ last
  pub within : last ≤ length text
  pub left : last < first + length lines + length text
  pub count : first + length lines + length text < last + 2 ^ 32
  pub columns : All IsNarrowLine lines
  pub lines_are : All IsLine lines

edit_fits : (part : ChangePart) (text : List (List ℕ)) (first last : ℕ) (lines : List (List ℕ)) (s e : ℕ) (bytes : List ℕ) (whole : Bool) → IsBufferText text
    → MayPut text first last lines → s ≤ e → e ≤ length (flat text)
    → flat (splice text first last lines) ≡ splice (flat text) s e bytes → Fits text (edit_by part text first last lines s (e - s) bytes whole)
edit_fits part text first last lines s e bytes whole is may order within flat_is = record {
  order = may.order;
  within = may.within;
  left = omega (arith, length-spliced text lines first last may.order may.within, may.left, may.within);
  narrow = splice_narrow text lines first last is.narrow may.columns may.order may.within may.count;
  lines = may.lines_are;
  bytes = splice_replaces (flat text) (flat (splice text first last lines)) bytes s e order within flat_is;
  placed = record {
    start = refl;
    removed = refl;
    put = ap extent_of (sym (splice_put (flat text) (flat (splice text first last lines)) bytes s e order within flat_is));
  };
}

rows_fit : (part : ChangePart) (text : List (List ℕ)) (from to : ℕ) (new : List (List ℕ)) → IsBufferText text → MayPut text from to new
    → Fits text (rows_edit part text from to new)
rows_fit part text from to new is may =
    edit_fits part text from to new (row_start text from) (row_start text to) (flat new) true is may (row_start-mono text from to may.order)
    (row_start-le text to) (flat-splice text new from to)

pub rows_edit_fits : (part : ChangePart) (text : List (List ℕ)) (from to : ℕ) (new : List (List ℕ)) (edit : Edit) → IsBufferText text → from ≤ to → to ≤ length text
    → to < from + length new + length text → from + length new + length text < to + 2 ^ 32 → All IsNarrowLine new
    → edit ≡ rows_edit part text from to new → All IsLine edit.lines → Fits text edit
rows_edit_fits part text from to new edit is order within left count columns edit_is lines =
    let are : All IsLine new = subst (λ (e : Edit). All IsLine e.lines) edit_is lines in
    subst (λ (e : Edit). Fits text e) (sym edit_is)
    (rows_fit part text from to new is
    (record { order = order; within = within; left = left; count = count; columns = columns; lines_are = are }))

-- what may be put between two places
pub record MayPutText (text : List (List ℕ)) (start stop : Pos) (new : List (List ℕ)) : Type 0 where
  pub start_in : IsInLine text start
  pub stop_in : IsInLine text stop
  pub order : is_before stop start ≡ false
  pub some : 0 < length new

text_may : (text : List (List ℕ)) (start stop : Pos) (new : List (List ℕ)) → MayPutText text start stop new
    → start.row + length new + length text < stop.row + 1 + 2 ^ 32 → All IsNarrowLine (lines_between text start stop new)
    → All IsLine (lines_between text start stop new) → MayPut text start.row (stop.row + 1) (lines_between text start stop new)
text_may text start stop new may count columns lines =
    let put = length-between (take start.col (line_at text start.row)) (drop stop.col (line_at text stop.row)) new may.some in
    let rows : start.row ≤ stop.row = not_before_row start stop may.order in record {
      order = omega arith;
      within = omega (arith, may.stop_in.row);
      left = omega (arith, may.some, may.stop_in.row, may.start_in.row);
      count = omega arith;
      columns = columns;
      lines_are = lines;
    }

text_fits : (part : ChangePart) (text : List (List ℕ)) (start stop : Pos) (new : List (List ℕ)) → IsBufferText text → MayPutText text start stop new
    → start.row + length new + length text < stop.row + 1 + 2 ^ 32 → All IsNarrowLine (lines_between text start stop new)
    → All IsLine (lines_between text start stop new) → Fits text (text_edit part text start stop new)
text_fits part text start stop new is may count columns lines =
    edit_fits part text start.row (stop.row + 1) (lines_between text start stop new) (offset_of text start) (offset_of text stop)
    (join_with_byte 10 new) false is (text_may text start stop new may count columns lines)
    (offsets_in_order text start stop may.start_in may.order) (omega (arith, offset_of-lt text stop may.stop_in))
    (flat-text_splice text new start stop may.start_in may.stop_in may.some)

pub text_edit_fits : (part : ChangePart) (text : List (List ℕ)) (start stop : Pos) (new : List (List ℕ)) (edit : Edit) → IsBufferText text
    → MayPutText text start stop new → start.row + length new + length text < stop.row + 1 + 2 ^ 32
    → All IsNarrowLine (lines_between text start stop new) → edit ≡ text_edit part text start stop new → All IsLine edit.lines → Fits text edit
text_edit_fits part text start stop new edit is may count columns edit_is lines =
    let are : All IsLine (lines_between text start stop new) = subst (λ (e : Edit). All IsLine e.lines) edit_is lines in
    subst (λ (e : Edit). Fits text e) (sym edit_is) (text_fits part text start stop new is may count columns are)

-- ---- what an edit does and tells
-- an edit from the bytes that it replaces
edit-is : (before : Content) (edit : Edit) (bytes : List ℕ) (s e : ℕ) → edit.part ≡ next_part before → edit.at ≡ s → edit.at + edit.old ≡ e → e ≤ length (flat before.text)
    → flat (lines_after before.text edit) ≡ splice (flat before.text) s e bytes
    → IsEdit before (after_edit before edit) bytes (event_at (before.tick +ℤ pos 1) edit)
edit-is before edit bytes s e part at end within flat_text = record {
  within = omega arith;
  flat_text = rw (end, at) flat_text;
  lines = refl;
  tick = refl;
  modified = refl;
  part = part;
  marks = refl;
  keeps = refl;
  kept = refl;
}

rows_edit-is : (before : Content) (new : List (List ℕ)) (from to : ℕ) → from ≤ to
    → IsEdit before (after_edit before (rows_edit (next_part before) before.text from to new)) (flat new) (rows_event before from to new)
rows_edit-is before new from to order =
    edit-is before (rows_edit (next_part before) before.text from to new) (flat new) (row_start before.text from) (row_start before.text to) refl refl
    (omega (arith, row_start-mono before.text from to order)) (row_start-le before.text to) (flat-splice before.text new from to)

text_edit-is : (before : Content) (new : List (List ℕ)) (start stop : Pos) → MayPutText before.text start stop new
    → IsEdit before (after_edit before (text_edit (next_part before) before.text start stop new)) (join_with_byte 10 new) (text_event before start stop new)
text_edit-is before new start stop may =
    edit-is before (text_edit (next_part before) before.text start stop new) (join_with_byte 10 new) (offset_of before.text start) (offset_of before.text stop) refl refl
    (omega (arith, offsets_in_order before.text start stop may.start_in may.order)) (omega (arith, offset_of-lt before.text stop may.stop_in))
    (flat-text_splice before.text new start stop may.start_in may.stop_in may.some)

-- so it is once the edit was made
pub lines_put : (before after : Content) (new : List (List ℕ)) (from to : ℕ) (edit : Edit) (event : Spliced) → from ≤ to
    → edit ≡ rows_edit (next_part before) before.text from to new → after ≡ after_edit before edit → event ≡ event_at (before.tick +ℤ pos 1) edit
    → IsEdit before after (flat new) event
lines_put before after new from to edit event order edit_is after_is event_is =
    let a : after ≡ after_edit before (rows_edit (next_part before) before.text from to new) = after_is ∙ ap (after_edit before) edit_is in
    let e : event ≡ rows_event before from to new = event_is ∙ ap (event_at (before.tick +ℤ pos 1)) edit_is in
    rw (a, e) (rows_edit-is before new from to order)

pub text_put : (before after : Content) (new : List (List ℕ)) (start stop : Pos) (edit : Edit) (event : Spliced)
    → MayPutText before.text start stop new → edit ≡ text_edit (next_part before) before.text start stop new → after ≡ after_edit before edit
    → event ≡ event_at (before.tick +ℤ pos 1) edit → IsEdit before after (join_with_byte 10 new) event
text_put before after new start stop edit event may edit_is after_is event_is =
    let a : after ≡ after_edit before (text_edit (next_part before) before.text start stop new) = after_is ∙ ap (after_edit before) edit_is in
    let e : event ≡ text_event before start stop new = event_is ∙ ap (event_at (before.tick +ℤ pos 1)) edit_is in
    rw (a, e) (text_edit-is before new start stop may)
