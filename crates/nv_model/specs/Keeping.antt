-- What an operation does to what is kept, and that it keeps standing for the model.
use Rattle.std.specs.Prelude.{◌≡◌, ◌≢◌, ℕ, ℤ, pos, ◌+◌, ◌+ℤ◌, ◌≤◌, ◌<◌, ◌&&◌, Bool, true, false, if◌then◌else◌, List, [], ◌∷◌, ◌++◌, length, map, fold, filter, not, All, Option, Some, None, IfSome, option_map}
use Rattle.std.specs.Ordering.{int_eq}
use Rattle.std.specs.List.{join_with_byte}
use Rattle.nv_places.specs.Flat.{flat, IsLine, lines_of}
use Rattle.nv_places.specs.Places.{place_of, extent_of, is_before}
use Rattle.nv_places.specs.declared.place.Pos.{Pos}
use Rattle.nv_marks.specs.Marks.{Marks}
use Rattle.nv_marks.specs.Order.{IsInOrder}
use Rattle.nv_marks.specs.Queries.{is_cleared}
use Rattle.nv_marks.specs.Keeping.{is_kept, is_struck, kept_of}
use Rattle.nv_marks.specs.Moves.{moved_mark}
use Rattle.nv_marks.specs.declared.extmark.Mark.{Mark}
use Rattle.nv_undo.specs.Tree.{tree_after_leg}
use Rattle.nv_undo.specs.Ways.{Leads, IsNext}
use Rattle.nv_undo.specs.declared.legs.Leg.{Leg}
use Rattle.nv_buffer.specs.Content.{Content, IsEdit, event_fold, next_part, rows_event, text_event, events_from, after_seal, after_leg, fresh_content}
use Rattle.nv_buffer.specs.Marks.{IsMarkIn, IsMarked, IsUnmarked, marks_cleared}
use Rattle.nv_buffer.specs.Changes.{leg_edits}
use Rattle.nv_buffer.specs.Splices.{IsInLine}
use Rattle.nv_buffer.specs.declared.buffer.Spliced.{Spliced}
use Rattle.nv_model.specs.Buffers.{Splice, SetMark, MarkState, ModelBuffer, rows_splice, text_splice, text_after, inverse_splice, row_behind, splice_event, splice_events, text_of, tick_of, keys_of, reach_of, kept_state, is_removed, state_moved, mark_in, mark_of, marks_there, marks_of, kept_text, with_seal, with_splice, with_splice_back, with_mark, without_mark, fresh_buffer}
use Rattle.nv_model.specs.Undoing.{leg_splices}
use Rattle.nv_model.specs.Stage.{Stage, fresh_stage, stage_with_views}
use Rattle.nv_model.specs.Editors.{ModelEditor, at_handle, handles_of, fresh_editor}
use Rattle.nv_model.specs.Seen.{seen_of}
use Rattle.nv_model.specs.Operations.{set_now, with_buffer, with_stage, with_spliced, with_new_buffer, without_buffer, after_operations}
use Rattle.nv_model.specs.Answers.{leg_operations}
use Rattle.nv_model.specs.declared.parts.Limits.{Limits}
use Rattle.nv_model.specs.Standing.{PresentEditor, splices_of, kept_mark_of, IsWithin, IsValid, StandsFor, Stands, seen_now}

-- what is seen of an editor is what is seen of each model that it stands for
abbrev pub SeenIsSame : Type 0
SeenIsSame = (e : PresentEditor) (m : ModelEditor) → Stands e m → seen_now e ≡ seen_of m

-- ---- marks of the model

-- the marks told now are those set that are there, in order
abbrev pub MarksAreInOrder : Type 0
MarksAreInOrder = (m : ModelBuffer) → IsInOrder (map (mark_of m) (marks_there m)) (marks_of m)

-- what a splice keeps of a mark, strikes of it and how it moves it is the same by offsets and by
-- places (help: api-extended-marks)
pub record StepsAlike (text : List ℕ) (s : Splice) (k : SetMark) (x : MarkState) : Type 0 where
  pub kept : let from = place_of text s.from in
      let to = place_of text s.until in
      option_map (kept_mark_of text k) (kept_state (keys_of k) x (reach_of s))
      ≡ (if is_kept from to (mark_in text k x) then Some (kept_of from to (mark_in text k x))
      else None)
  pub struck : is_struck (place_of text s.from) (place_of text s.until) (mark_in text k x)
      ≡ (k.invalidate && is_removed x (reach_of s))
  pub moved : mark_in (text_after text s) k (state_moved (keys_of k) x (reach_of s))
      ≡ moved_mark (place_of text s.from) (extent_of (inverse_splice text s).bytes)
      (extent_of s.bytes) (mark_in text k x)

abbrev pub MarksStepAlike : Type 0
MarksStepAlike =
    (text : List ℕ) (s : Splice) (k : SetMark) (x : MarkState) → IsWithin text s
    → x.start ≤ length text → IfSome x.stop (λ p. p ≤ length text) → StepsAlike text s k x

-- ---- one buffer

-- a buffer after an edit that was told as this event, and is this splice of its flat text
pub record IsSpliced (before later : Content) (s : Splice) (event : Spliced) : Type 0 where
  pub edit : IsEdit before later s.bytes event
  pub from : event.edit.at ≡ s.from
  pub until : event.edit.at + event.edit.old ≡ s.until
  pub put : event.edit.new ≡ length s.bytes
  pub rows : event.edit.rows ≡ s.rows
  pub part : event.edit.part ≡ s.part
  pub start : event.edit.start ≡ place_of (flat before.text) s.from
  pub removed : event.edit.removed ≡ extent_of (inverse_splice (flat before.text) s).bytes
  pub reach : event.edit.put ≡ extent_of s.bytes
  pub tick : event.tick ≡ before.tick +ℤ pos 1
  pub first : event.edit.first ≡ (place_of (flat before.text) s.from).row
  pub last : event.edit.last ≡ row_behind (flat before.text) s
  pub order : event.edit.first ≤ event.edit.last
  pub within : event.edit.last ≤ length before.text
  pub lines : All IsLine later.text

-- a splice is kept, and told as the model tells it
abbrev pub SpliceIsKept : Type 0
SpliceIsKept =
    (before later : Content) (s : Splice) (event : Spliced) (m : ModelBuffer)
    → IsSpliced before later s event → StandsFor before m
    → StandsFor later (with_splice s m) × (event ≡ splice_event (text_of m) (tick_of m + 1) s)

-- what is told of a splice, applied to the lines before, gives the lines after (help:
-- nvim_buf_lines_event)
abbrev pub SpliceTellsText : Type 0
SpliceTellsText =
    (before later : Content) (s : Splice) (event : Spliced) (m : ModelBuffer)
    → IsSpliced before later s event → StandsFor before m
    → event_fold (lines_of (text_of m)) (splice_event (text_of m) (tick_of m + 1) s)
    ≡ lines_of (text_of (with_splice s m))

-- lines put in place of rows make such a splice, where they are told so (help:
-- nvim_buf_set_lines())
abbrev pub RowsAreSpliced : Type 0
RowsAreSpliced =
    (before later : Content) (from to : ℕ) (new : List (List ℕ)) (event : Spliced) → from ≤ to
    → to ≤ length before.text
    → All IsLine before.text → All IsLine later.text → event ≡ rows_event before from to new
    → IsEdit before later (flat new) event
    → IsSpliced before later (rows_splice (next_part before) before.text from to new) event

-- and so do lines put between two places (help: nvim_buf_set_text())
abbrev pub TextIsSpliced : Type 0
TextIsSpliced =
    (before later : Content) (start stop : Pos) (new : List (List ℕ)) (event : Spliced)
    → IsInLine before.text start
    → IsInLine before.text stop → is_before stop start ≡ false
    → All IsLine before.text → All IsLine later.text → event ≡ text_event before start stop new
    → IsEdit before later (join_with_byte 10 new) event
    → IsSpliced before later (text_splice (next_part before) before.text start stop new) event

-- the open change is closed
abbrev pub SealIsKept : Type 0
SealIsKept =
    (b : Content) (m : ModelBuffer) → StandsFor b m → StandsFor (after_seal b) (with_seal m)

-- a leg in the tree of a buffer is gone, with the edits that it makes (help: undo-commands)
pub record IsLegGone (before later : Content) (leg : Leg) : Type 0 where
  pub closed : before.unsealed ≡ []
  pub next : IsNext before.undo leg
  pub content : later ≡ after_leg before leg

-- a buffer of the model after a leg: its splices, which belong to no open change, and the step in
-- the tree
abbrev pub with_leg : Leg → ModelBuffer → ModelBuffer
with_leg leg m = record (fold (λ b s. with_splice_back s b) m
    (leg_splices m.first m.undo leg)) { undo = tree_after_leg leg m.undo }

-- a leg is kept, and its edits are told as the model tells them
abbrev pub LegIsKept : Type 0
LegIsKept =
    (before later : Content) (leg : Leg) (m : ModelBuffer) → IsLegGone before later leg
    → StandsFor before m
    → StandsFor later (with_leg leg m)
    × (events_from before.tick (leg_edits before.undo leg)
    ≡ splice_events (text_of m) (tick_of m) (leg_splices m.first m.undo leg))

-- the text after a leg is the one that is kept of the number that it leads to (help: undo-tree)
abbrev pub LegLeadsToKept : Type 0
LegLeadsToKept =
    (leg : Leg) (n : ℕ) (m : ModelBuffer) → IsValid m → m.unsealed ≡ []
    → Leads m.undo m.undo.current (leg ∷ []) n
    → text_of (with_leg leg m) ≡ kept_text m.first m.undo n

-- how many settings of marks a buffer takes (own rule)
abbrev pub most_settings : ℕ
most_settings = 4611686018427387904

-- a mark is set at places of the text, where fewer settings were made
abbrev pub MarkIsKept : Type 0
MarkIsKept =
    (b : Content) (later : Marks) (k : Mark) (m : ModelBuffer) → IsMarked b.marks later k
    → IsMarkIn b.text k → k.hidden ≡ false → b.marks.settings < most_settings → StandsFor b m
    → StandsFor (record b { marks = later }) (with_mark (set_now m k) m)

-- a mark is removed
abbrev pub UnmarkIsKept : Type 0
UnmarkIsKept =
    (b : Content) (later : Marks) (ns id : ℕ) (m : ModelBuffer) → IsUnmarked b.marks later ns id
    → StandsFor b m
    → StandsFor (record b { marks = later }) (without_mark ns id m)

-- the marks of a namespace, or of all, are removed that start from one place to another
abbrev pub ClearIsKept : Type 0
ClearIsKept =
    (b : Content) (ns : Option ℕ) (from to : Pos) (m : ModelBuffer) → StandsFor b m
    → StandsFor (record b { marks = marks_cleared ns from to b.marks })
    (fold (λ m k. without_mark k.ns k.id m) m (filter (is_cleared ns from to) b.marks.marks))

-- name and options
pub record OptionsAreKept : Type 0 where
  pub name : (b : Content) (m : ModelBuffer) (name : List ℕ) → StandsFor b m
      → StandsFor (record b { name = name }) (record m { name = name })
  pub modifiable : (b : Content) (m : ModelBuffer) (on : Bool) → StandsFor b m
      → StandsFor (record b { modifiable = on }) (record m { modifiable = on })
  pub modified : (b : Content) (m : ModelBuffer) (on : Bool) → StandsFor b m
      → StandsFor (record b { modified = on }) (record m { modified = on })
  pub listed : (b : Content) (m : ModelBuffer) (on : Bool) → StandsFor b m
      → StandsFor (record b { listed = on }) (record m { listed = on })
  pub tabstop : (b : Content) (m : ModelBuffer) (cells : ℕ) → StandsFor b m
      → StandsFor (record b { tabstop = cells }) (record m { tabstop = cells })

-- a fresh buffer
abbrev pub FreshIsKept : Type 0
FreshIsKept =
    (handle : ℤ) (listed : Bool) → StandsFor (fresh_content handle listed) (fresh_buffer listed)

-- ---- the editor

-- a fresh editor, as it is kept
abbrev pub fresh_kept : Limits → PresentEditor
fresh_kept limits =
    record { buffers = (pos 1, fresh_content (pos 1) true) ∷ []; stage = fresh_stage limits }

abbrev pub FreshEditorIsKept : Type 0
FreshEditorIsKept = (limits : Limits) → Stands (fresh_kept limits) (fresh_editor limits)

-- an editor in which the buffer under one handle is another one, and nothing else
pub record IsBufferUpdated (before later : PresentEditor) (n : ℤ) (b c : Content) : Type 0 where
  pub was : at_handle before.buffers n ≡ Some b
  pub becomes : at_handle later.buffers n ≡ Some c
  pub others : (k : ℤ) → k ≢ n → at_handle later.buffers k ≡ at_handle before.buffers k
  pub handles : handles_of later.buffers ≡ handles_of before.buffers

-- an update of one buffer is kept where the buffer goes on standing for the model's
abbrev pub BufferUpdateIsKept : Type 0
BufferUpdateIsKept =
    (before later : PresentEditor) (n : ℤ) (b c : Content) (update : ModelBuffer → ModelBuffer)
    (m : ModelEditor)
    → IsBufferUpdated before later n b c → later.stage ≡ before.stage
    → ((x : ModelBuffer) → StandsFor b x → StandsFor c (update x))
    → Stands before m → Stands later (with_buffer n update m)

-- a splice of one buffer, with the windows that show it
abbrev pub EditorSpliceIsKept : Type 0
EditorSpliceIsKept =
    (before later : PresentEditor) (n : ℤ) (b c : Content) (s : Splice) (event : Spliced)
    (m : ModelEditor)
    → IsBufferUpdated before later n b c → IsSpliced b c s event
    → later.stage ≡ stage_with_views n (flat b.text) (s ∷ []) before.stage → Stands before m
    → Stands later (with_spliced n s with_splice m)

-- a leg in the tree of one buffer, with the windows that show it
abbrev pub EditorLegIsKept : Type 0
EditorLegIsKept =
    (before later : PresentEditor) (n : ℤ) (b c : Content) (leg : Leg) (m : ModelEditor)
    (x : ModelBuffer)
    → IsBufferUpdated before later n b c → IsLegGone b c leg
    → later.stage
    ≡ stage_with_views n (flat b.text) (splices_of b.text (leg_edits b.undo leg)) before.stage
    → at_handle m.buffers n ≡ Some x → Stands before m
    → Stands later (after_operations (leg_operations n x.first x.undo leg) m)

-- an update of all but the buffers
abbrev pub StageUpdateIsKept : Type 0
StageUpdateIsKept =
    (e : PresentEditor) (update : Stage → Stage) (m : ModelEditor) → Stands e m
    → Stands (record e { stage = update e.stage }) (with_stage update m)

-- the next buffer is made
abbrev pub NewBufferIsKept : Type 0
NewBufferIsKept =
    (e : PresentEditor) (listed : Bool) (m : ModelEditor) → Stands e m
    → Stands
    (record e {
      buffers = e.buffers ++ (e.stage.next_buffer, fresh_content e.stage.next_buffer listed) ∷ [];
      stage = record e.stage { next_buffer = e.stage.next_buffer +ℤ pos 1 };
    })
    (with_new_buffer listed m)

-- a buffer is deleted
pub record IsBufferDropped (before later : PresentEditor) (n : ℤ) : Type 0 where
  pub none : at_handle later.buffers n ≡ None
  pub others : (k : ℤ) → k ≢ n → at_handle later.buffers k ≡ at_handle before.buffers k
  pub handles : handles_of later.buffers
      ≡ filter (λ k. not (int_eq k n)) (handles_of before.buffers)

abbrev pub DroppedBufferIsKept : Type 0
DroppedBufferIsKept =
    (before later : PresentEditor) (n : ℤ) (m : ModelEditor) → IsBufferDropped before later n
    → later.stage ≡ before.stage → Stands before m
    → Stands later (without_buffer n m)
