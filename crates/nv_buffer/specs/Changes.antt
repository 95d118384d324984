-- Edits of a text as data, the way back, and the texts that a tree of changes keeps.
use Rattle.std.specs.Prelude.{◌≡◌, ℕ, ◌+◌, ◌-◌, ◌<◌, ◌≤◌, List, [], ◌∷◌, ◌++◌, length, All, Bool, true, false, not, take, drop, get_or, reverse, fold, slice_range, unwrap_or}
use Rattle.std.specs.List.{splice, join_with_byte}
use Rattle.nv_places.specs.Flat.{flat, IsLine, row_start}
use Rattle.nv_places.specs.Places.{place_of, offset_of, extent_of}
use Rattle.nv_places.specs.declared.place.Pos.{Pos}
use Rattle.nv_undo.specs.Tree.{Undo, change_of}
use Rattle.nv_undo.specs.Ways.{origin}
use Rattle.nv_undo.specs.declared.legs.Leg.{Leg}
use Rattle.nv_undo.specs.declared.legs.Leg.TheVariants.{Back, Ahead}
use Rattle.nv_buffer.specs.Splices.{IsNarrowText, lines_between}
use Rattle.nv_buffer.specs.declared.edit.ChangePart.{ChangePart}
use Rattle.nv_buffer.specs.declared.edit.Edit.{Edit}

-- the text once an edit is made: the lines before its first row, its lines, and those from its last
-- row on (help: nvim_buf_lines_event)
abbrev pub lines_after : List (List ℕ) → Edit → List (List ℕ)
lines_after text edit = splice text edit.first edit.last edit.lines

-- the same part of a change, gone the other way
abbrev pub turned_part : ChangePart → ChangePart
turned_part part = record part { back = not part.back }

-- the edit by which rows of a text become other lines, where bytes of its flat text from an offset
-- on are replaced by these, as a part of a change; `whole` where whole rows are, and not text
-- between two places
abbrev pub edit_by : ChangePart → List (List ℕ) → ℕ → ℕ → List (List ℕ) → ℕ → ℕ → List ℕ → Bool
    → Edit
edit_by part text first last lines at old bytes whole = record {
  first = first;
  last = last;
  lines = lines;
  at = at;
  old = old;
  new = length bytes;
  start = place_of (flat text) at;
  removed = extent_of (take old (drop at (flat text)));
  put = extent_of bytes;
  rows = whole;
  part = part;
}

-- the edit that puts lines in place of rows `from` up to before `to` (help: nvim_buf_set_lines())
abbrev pub rows_edit : ChangePart → List (List ℕ) → ℕ → ℕ → List (List ℕ) → Edit
rows_edit part text from to new =
    edit_by part text from to new
    (row_start text from) (row_start text to - row_start text from) (flat new) true

-- the edit that puts lines between two places: whole rows in its lines, the bytes alone beside them
-- (help: nvim_buf_set_text())
abbrev pub text_edit : ChangePart → List (List ℕ) → Pos → Pos → List (List ℕ) → Edit
text_edit part text start stop new =
    edit_by part text start.row (stop.row + 1) (lines_between text start stop new)
    (offset_of text start) (offset_of text stop - offset_of text start)
    (join_with_byte 10 new) false

-- the edit that takes this one back: the rows that it put give way to those that stood there (own
-- rule)
abbrev pub inverse_edit : List (List ℕ) → Edit → Edit
inverse_edit text edit = record {
  first = edit.first;
  last = edit.first + length edit.lines;
  lines = slice_range text edit.first edit.last;
  at = edit.at;
  old = edit.new;
  new = edit.old;
  start = edit.start;
  removed = edit.put;
  put = edit.removed;
  rows = edit.rows;
  part = turned_part edit.part;
}

-- the edits that take back these, each one in the place of its edit, where they are made one after
-- another
abbrev pub each_inverse : List (List ℕ) → List Edit → List Edit
each_inverse text [] = []
each_inverse text (edit ∷ edits) =
    inverse_edit text edit ∷ each_inverse (lines_after text edit) edits

-- the edits that take back all of these: that of the last one first (own rule)
abbrev pub inverse_edits : List (List ℕ) → List Edit → List Edit
inverse_edits text edits = reverse (each_inverse text edits)

-- bytes of a flat text replaced by others: what stands before them and behind them stays (own rule)
pub record Replaces (before after : List ℕ) (at old new : ℕ) : Type 0 where
  pub removed : at + old ≤ length before
  pub put : at + new ≤ length after
  pub front : take at after ≡ take at before
  pub back : drop (at + new) after ≡ drop (at + old) before

-- an edit says where in this text its bytes begin, and how far those reach that it takes and puts
pub record IsPlaced (text : List (List ℕ)) (edit : Edit) : Type 0 where
  pub start : edit.start ≡ place_of (flat text) edit.at
  pub removed : edit.removed ≡ extent_of (take edit.old (drop edit.at (flat text)))
  pub put : edit.put ≡ extent_of (take edit.new (drop edit.at (flat (lines_after text edit))))

-- an edit that can be made of this text: its rows lie in it, its bytes are those that change, and a
-- text of this kind is left (own rule)
pub record Fits (text : List (List ℕ)) (edit : Edit) : Type 0 where
  pub order : edit.first ≤ edit.last
  pub within : edit.last ≤ length text
  pub left : 0 < length (lines_after text edit)
  pub narrow : IsNarrowText (lines_after text edit)
  pub lines : All IsLine edit.lines
  pub bytes : Replaces (flat text) (flat (lines_after text edit)) edit.at edit.old edit.new
  pub placed : IsPlaced text edit

-- edits that can be made of this text one after another
abbrev pub AllFit : List (List ℕ) → List Edit → Type 0
AllFit text [] = Unit {0}
AllFit text (edit ∷ edits) = Fits text edit × AllFit (lines_after text edit) edits

-- the text at first: one empty line (help: api-buffer)
abbrev pub first_text : List (List ℕ)
first_text = [] ∷ []

-- the kept texts, once one more change is kept: its parent's text with its edits
abbrev pub with_text : List (List (List ℕ)) → ℕ × List Edit → List (List (List ℕ))
with_text texts change = texts ++ fold lines_after (get_or texts change.0 first_text) change.1 ∷ []

-- the kept text of a number: 0 is the text at first, and each change's is its parent's with its
-- edits (help: undo-tree)
unfoldable pub text_at : Undo (List Edit) → ℕ → List (List ℕ)
text_at undo n = get_or (fold with_text (first_text ∷ []) undo.changes) n first_text

-- the edits of a change, none at 0
abbrev pub edits_of : Undo (List Edit) → ℕ → List Edit
edits_of undo n = unwrap_or (change_of undo n) []

-- the text that a leg begins with: that of the change that is left, or that of the parent of the
-- change that is entered
abbrev pub leg_text : Undo (List Edit) → Leg → List (List ℕ)
leg_text undo (Back n) = text_at undo n
leg_text undo (Ahead n) = text_at undo (origin undo n)

-- the edits of a leg: those that take back the change that is left, or those of the change that is
-- entered (help: undo-commands)
abbrev pub leg_edits : Undo (List Edit) → Leg → List Edit
leg_edits undo (Back n) = inverse_edits (text_at undo (origin undo n)) (edits_of undo n)
leg_edits undo (Ahead n) = edits_of undo n
