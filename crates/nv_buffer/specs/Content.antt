-- What a buffer is, what an edit of its text does, and what undoing does.
use Rattle.std.specs.Prelude.{◌≡◌, ℕ, ℤ, pos, ◌+◌, ◌+ℤ◌, ◌≤◌, Bool, true, false, suc, List, [], ◌∷◌, ◌++◌, length, take, filter, fold, flat_map}
use Rattle.std.specs.List.{splice}
use Rattle.nv_places.specs.Flat.{flat}
use Rattle.nv_places.specs.declared.place.Pos.{Pos}
use Rattle.nv_undo.specs.Tree.{Undo, last, no_changes, pushed, tree_after_leg}
use Rattle.nv_undo.specs.declared.legs.Leg.{Leg}
use Rattle.nv_buffer.specs.Changes.{first_text, lines_after, rows_edit, text_edit, Replaces, text_at, leg_text, leg_edits}
use Rattle.nv_buffer.specs.KeptMarks.{is_kept_in, kept_at, with_part}
use Rattle.nv_buffer.specs.Marks.{marks_after}
use Rattle.nv_marks.specs.Keeping.{kept_marks}
use Rattle.nv_marks.specs.Marks.{Marks}
use Rattle.nv_marks.specs.declared.keeping.Kept.{Kept}
use Rattle.nv_undo.specs.Ways.{undo_legs, redo_legs, legs_to}
use Rattle.nv_buffer.specs.declared.edit.ChangePart.{ChangePart}
use Rattle.nv_buffer.specs.declared.edit.Edit.{Edit}
use Rattle.nv_buffer.specs.declared.buffer.Spliced.{Spliced}

-- a buffer: its handle, lines, changedtick, name and options, its marks, what the last step of each
-- part of a change kept of marks, its changes, and the edits made since the last one was closed
-- (help: api-buffer, changetick, options, api-extended-marks, undo-tree)
pub record Content : Type 0 where
  pub handle : ℤ
  pub text : List (List ℕ)
  pub tick : ℤ
  pub name : List ℕ
  pub modifiable : Bool
  pub modified : Bool
  pub listed : Bool
  pub tabstop : ℕ
  pub marks : Marks
  pub kept : List ((ℕ × ℕ) × List Kept)
  pub undo : Undo (List Edit)
  pub unsealed : List Edit

-- a buffer at first: one empty line, no name, changedtick 2, modifiable, not modified, 'tabstop' 8,
-- no marks and no changes (help: options, changetick)
abbrev pub fresh_content : ℤ → Bool → Content
fresh_content handle listed = record {
  handle = handle;
  text = first_text;
  tick = pos 2;
  name = [];
  modifiable = true;
  modified = false;
  listed = listed;
  tabstop = 8;
  marks = record { marks = []; greatest = []; settings = 0 };
  kept = [];
  undo = no_changes;
  unsealed = [];
}

-- the next edit of a buffer: the next part of the change that is open, which gets the next number
-- once it is closed
abbrev pub next_part : Content → ChangePart
next_part buffer = record {
  change = suc (last buffer.undo);
  part = length buffer.unsealed;
  back = false;
}

-- what is put back of marks once an edit is made: what the last step of the same part kept, where
-- it has places of the text afterwards
abbrev pub kept_put_back : Content → Edit → List Kept
kept_put_back buffer edit =
    filter (is_kept_in (lines_after buffer.text edit)) (kept_at buffer.kept edit.part)

-- the marks then, and what the last step of each part kept
abbrev pub marks_by : Content → Edit → Marks
marks_by buffer edit = marks_after (kept_put_back buffer edit) buffer.marks edit

abbrev pub kept_by : Content → Edit → List ((ℕ × ℕ) × List Kept)
kept_by buffer edit =
    with_part edit.part (kept_marks edit.start edit.removed buffer.marks.marks) buffer.kept

-- the buffer once an edit is made: changedtick one more, 'modified' set, marks struck, moved and
-- put back, the edit among those that are not yet a change, and all else as it was
abbrev pub after_edit : Content → Edit → Content
after_edit buffer edit = record buffer {
  text = lines_after buffer.text edit;
  tick = buffer.tick +ℤ pos 1;
  modified = true;
  marks = marks_by buffer edit;
  kept = kept_by buffer edit;
  unsealed = buffer.unsealed ++ edit ∷ [];
}

-- what is told of an edit: the edit, and the changedtick after it (help: nvim_buf_lines_event)
abbrev pub event_at : ℤ → Edit → Spliced
event_at tick edit = record { tick = tick; edit = edit }

-- edits as they are told one after another, the changedtick counted up from this one
abbrev pub events_from : ℤ → List Edit → List Spliced
events_from tick [] = []
events_from tick (edit ∷ edits) = event_at (tick +ℤ pos 1) edit ∷ events_from (tick +ℤ pos 1) edits

-- a lines event applied: the lines before its first, its lines, and the lines from its last on
-- (help: nvim_buf_lines_event)
abbrev pub event_fold : List (List ℕ) → Spliced → List (List ℕ)
event_fold lines event = lines_after lines event.edit

-- what is told of lines put in place of rows `from` up to before `to` (help: nvim_buf_set_lines())
abbrev pub rows_event : Content → ℕ → ℕ → List (List ℕ) → Spliced
rows_event buffer from to new =
    event_at (buffer.tick +ℤ pos 1) (rows_edit (next_part buffer) buffer.text from to new)

-- what is told of lines put between two places: whole rows in the event, the bytes alone beside it
-- (help: nvim_buf_set_text())
abbrev pub text_event : Content → Pos → Pos → List (List ℕ) → Spliced
text_event buffer start stop new =
    event_at (buffer.tick +ℤ pos 1) (text_edit (next_part buffer) buffer.text start stop new)

-- an edit of the text as it was told: a splice of the flat text, in rows and bytes of the buffer
-- before
pub record IsEdit (before after : Content) (bytes : List ℕ) (event : Spliced) : Type 0 where
  pub within : event.edit.at + event.edit.old ≤ length (flat before.text)
  pub flat_text :
      flat after.text
      ≡ splice (flat before.text) event.edit.at (event.edit.at + event.edit.old) bytes
  pub lines : after.text ≡ event_fold before.text event
  pub tick : after.tick ≡ before.tick +ℤ pos 1
  pub modified : after.modified ≡ true
  pub part : event.edit.part ≡ next_part before
  pub marks : after.marks ≡ marks_by before event.edit
  pub keeps : after.kept ≡ kept_by before event.edit
  pub kept :
      after
      ≡ record before {
        text = after.text;
        tick = after.tick;
        modified = after.modified;
        marks = after.marks;
        kept = after.kept;
        unsealed = before.unsealed ++ event.edit ∷ [];
      }

-- each event tells the bytes of the flat text that it replaces, in numbers of the text before it
abbrev pub TellBytes : List (List ℕ) → List Spliced → Type 0
TellBytes text [] = Unit {0}
TellBytes text (event ∷ events) =
    Replaces
    (flat text) (flat (event_fold text event)) event.edit.at event.edit.old event.edit.new
    × TellBytes (event_fold text event) events

-- the buffer once the edits that are not yet a change are closed as one: where there are any they
-- are the next change, made at the current number, and that is current (help: undo-blocks)
abbrev pub after_seal_of : Content → List Edit → Content
after_seal_of buffer [] = buffer
after_seal_of buffer (edit ∷ edits) =
    record buffer { undo = pushed (edit ∷ edits) buffer.undo; unsealed = [] }

abbrev pub after_seal : Content → Content
after_seal buffer = after_seal_of buffer buffer.unsealed

-- the buffer once a leg is gone in its tree: the kept text of the number that it leads to, the
-- changedtick as much more as the leg has edits, 'modified' set, the marks struck, moved and put
-- back by each of them (help: undo-tree, changetick)
abbrev pub after_leg : Content → Leg → Content
after_leg buffer leg = record buffer {
  text = text_at (tree_after_leg leg buffer.undo) (tree_after_leg leg buffer.undo).current;
  tick = buffer.tick +ℤ pos (length (leg_edits buffer.undo leg));
  modified = true;
  marks = (fold after_edit buffer (leg_edits buffer.undo leg)).marks;
  kept = (fold after_edit buffer (leg_edits buffer.undo leg)).kept;
  undo = tree_after_leg leg buffer.undo;
}

-- the text is the one that a leg begins with, with so many of its edits made
abbrev pub IsAlong : Content → Leg → ℕ → Type 0
IsAlong buffer leg place =
    buffer.text
    ≡ fold lines_after (leg_text buffer.undo leg) (take place (leg_edits buffer.undo leg))

-- the buffer after undo, after redo, and after undo to a number (help: undo-commands)
abbrev pub after_undo : Content → Content
after_undo buffer = fold after_leg (after_seal buffer) (undo_legs (after_seal buffer).undo)

abbrev pub after_redo : Content → Content
after_redo buffer = fold after_leg (after_seal buffer) (redo_legs (after_seal buffer).undo)

abbrev pub after_undo_to : ℕ → Content → Content
after_undo_to n buffer = fold after_leg (after_seal buffer) (legs_to n (after_seal buffer).undo)

-- the edits that these make, in their order
abbrev pub undo_edits : Content → List Edit
undo_edits buffer =
    flat_map (leg_edits (after_seal buffer).undo) (undo_legs (after_seal buffer).undo)

abbrev pub redo_edits : Content → List Edit
redo_edits buffer =
    flat_map (leg_edits (after_seal buffer).undo) (redo_legs (after_seal buffer).undo)

abbrev pub undo_to_edits : ℕ → Content → List Edit
undo_to_edits n buffer =
    flat_map (leg_edits (after_seal buffer).undo) (legs_to n (after_seal buffer).undo)
