-- The operations that answers are made of, as data, and the editor after them.
use Rattle.std.specs.Prelude.{ℕ, suc, ℤ, pos, ◌+ℤ◌, Bool, not, List, [], ◌∷◌, ◌++◌, length, filter, Option, Some, None, option_map}
use Rattle.std.specs.Ordering.{int_eq}
use Rattle.nv_places.specs.Flat.{lines_of}
use Rattle.nv_places.specs.Places.{offset_of}
use Rattle.nv_places.specs.declared.place.Pos.{Pos}
use Rattle.nv_marks.specs.declared.extmark.Far.{Far}
use Rattle.nv_marks.specs.declared.extmark.Mark.{Mark}
use Rattle.nv_undo.specs.Tree.{tree_after_leg}
use Rattle.nv_undo.specs.declared.legs.Leg.{Leg}
use Rattle.nv_hl.specs.Groups.{empty_group, with_named, with_group}
use Rattle.nv_hl.specs.declared.linking.Group.{Group}
use Rattle.nv_layout.specs.declared.nodes.Axis.{Axis}
use Rattle.nv_layout.specs.declared.nodes.Side.{Side}
use Rattle.nv_notes.specs.Notes.{NoteText, notes_with}
use Rattle.nv_model.specs.Buffers.{Splice, SetFar, SetMark, ModelBuffer, text_of, fresh_buffer, with_seal, with_splice, with_splice_back, with_mark, without_mark}
use Rattle.nv_windows.specs.Operations.{with_window, without_window, with_tabpage, without_tabpage, at_window, at_tabpage, with_wish_of, with_cursor, with_top, with_buffer_in}
use Rattle.nv_model.specs.Stage.{Stage, in_workspace, stage_with_views, with_uis, ui_among, other_uis}
use Rattle.nv_model.specs.Editors.{ModelEditor, at_handle, updated_at}
use Rattle.nv_model.specs.declared.parts.Ui.{Ui}

-- One operation on an editor. A number in front names a live buffer, window or tabpage.
pub data Operation : Type 0 where
  -- a splice of a buffer's text, which belongs to its open change; and one that belongs to none, as
  -- those of undo commands
  spliced : ℤ → Splice → Operation
  spliced_back : ℤ → Splice → Operation
  -- a buffer's tree of changes is gone by a leg
  stepped : ℤ → Leg → Operation
  -- a buffer's open change is closed
  sealed_in : ℤ → Operation
  -- a mark is set at its places, and one of a namespace and id is removed
  mark_set : ℤ → Mark → Operation
  mark_removed : ℤ → ℕ → ℕ → Operation
  -- a buffer's name and options
  name_put : ℤ → List ℕ → Operation
  modifiable_put : ℤ → Bool → Operation
  modified_put : ℤ → Bool → Operation
  listed_put : ℤ → Bool → Operation
  tabstop_put : ℤ → ℕ → Operation
  -- the next buffer is made, empty, listed or not; and a buffer is deleted, which no window shows
  buffer_made : Bool → Operation
  buffer_dropped : ℤ → Operation
  -- the next namespace is made, with this name, which is empty for one made without; and the group
  -- of this name
  namespace_made : List ℕ → Operation
  group_made : List ℕ → Operation
  -- a group is put at an id
  group_put : ℕ → Group → Operation
  -- a virtual text of a buffer is put that comes with the setting of this number
  note_put : ℤ → ℕ → NoteText → Operation
  -- the next window is opened on a side of one, shows a buffer, and wishes a width and a height, 0
  -- for none
  window_opened : ℤ → Side → ℤ → ℕ → ℕ → Operation
  -- a window is closed, which isn't the only one of its tabpage
  window_closed : ℤ → Operation
  -- the next tabpage is made behind the current one, with the next window on a buffer, and becomes
  -- the current one
  tab_made : ℤ → Operation
  -- a tabpage is closed with its windows, which isn't the only one
  tab_closed : ℤ → Operation
  went_to_window : ℤ → Operation
  went_to_tab : ℤ → Operation
  -- a window's cursor; its first row
  cursor_put : ℤ → Pos → Operation
  top_put : ℤ → ℕ → Operation
  -- a window shows a buffer, at row 0
  shown : ℤ → ℤ → Operation
  -- a window's leaf wishes a width, at Across, or a height, at Down, which counts the status line
  wish_put : ℤ → Axis → ℕ → Operation
  -- a session's UI is put; and those of some sessions are dropped together
  ui_put : Ui → Operation
  uis_dropped : List ℕ → Operation

-- the editor with a buffer of its updated
abbrev pub with_buffer : ℤ → (ModelBuffer → ModelBuffer) → ModelEditor → ModelEditor
with_buffer n update m = record m { buffers = updated_at n update m.buffers }

-- the editor with its stage updated
abbrev pub with_stage : (Stage → Stage) → ModelEditor → ModelEditor
with_stage update m = record m { stage = update m.stage }

-- the stage after a splice of the text of a buffer: the windows that show it move (own rule)
abbrev pub stage_spliced : ℤ → Splice → Option ModelBuffer → Stage → Stage
stage_spliced n s None stage = stage
stage_spliced n s (Some b) stage = stage_with_views n (text_of b) (s ∷ []) stage

-- the editor with a splice in a buffer, which is updated so
abbrev pub with_spliced : ℤ → Splice → (Splice → ModelBuffer → ModelBuffer) → ModelEditor
    → ModelEditor
with_spliced n s update m = record m {
  buffers = updated_at n (update s) m.buffers;
  stage = stage_spliced n s (at_handle m.buffers n) m.stage;
}

-- a mark set now, at the offsets of its places, under the next number
abbrev pub set_far : List (List ℕ) → Far → SetFar
set_far lines far = record { offset = offset_of lines far.pos; right = far.right }

abbrev pub set_now : ModelBuffer → Mark → SetMark
set_now m k = record {
  ns = k.ns;
  id = k.id;
  offset = offset_of (lines_of (text_of m)) k.start;
  right = k.right;
  stop = option_map (set_far (lines_of (text_of m))) k.stop;
  paint = k.paint;
  priority = k.priority;
  restore = k.restore;
  invalidate = k.invalidate;
  set = suc m.settings;
  since = length m.splices;
}

-- the editor with the next buffer, which is empty
abbrev pub with_new_buffer : Bool → ModelEditor → ModelEditor
with_new_buffer listed m = record m {
  buffers = m.buffers ++ (m.stage.next_buffer, fresh_buffer listed) ∷ [];
  stage = record m.stage { next_buffer = m.stage.next_buffer +ℤ pos 1 };
}

-- the editor without a buffer: its splices are kept with the deleted ones
abbrev pub without_buffer : ℤ → ModelEditor → ModelEditor
without_buffer n m = record m {
  buffers = filter (λ e. not (int_eq e.0 n)) m.buffers;
  deleted = m.deleted ++ filter (λ e. int_eq e.0 n) m.buffers;
}

-- the editor after an operation
abbrev pub after_operation : Operation → ModelEditor → ModelEditor
after_operation (spliced n s) m = with_spliced n s with_splice m
after_operation (spliced_back n s) m = with_spliced n s with_splice_back m
after_operation (stepped n leg) m =
    with_buffer n (λ b. record b { undo = tree_after_leg leg b.undo }) m
after_operation (sealed_in n) m = with_buffer n with_seal m
after_operation (mark_set n k) m = with_buffer n (λ b. with_mark (set_now b k) b) m
after_operation (mark_removed n ns id) m = with_buffer n (without_mark ns id) m
after_operation (name_put n name) m = with_buffer n (λ b. record b { name = name }) m
after_operation (modifiable_put n on) m = with_buffer n (λ b. record b { modifiable = on }) m
after_operation (modified_put n on) m = with_buffer n (λ b. record b { modified = on }) m
after_operation (listed_put n on) m = with_buffer n (λ b. record b { listed = on }) m
after_operation (tabstop_put n cells) m = with_buffer n (λ b. record b { tabstop = cells }) m
after_operation (buffer_made listed) m = with_new_buffer listed m
after_operation (buffer_dropped n) m = without_buffer n m
after_operation (namespace_made name) m =
    with_stage (λ stage. record stage { namespaces = stage.namespaces ++ name ∷ [] }) m
after_operation (group_made name) m =
    with_stage (λ stage. record stage { groups = with_named stage.groups (empty_group name) }) m
after_operation (group_put id group) m =
    with_stage (λ stage. record stage { groups = with_group stage.groups id group }) m
after_operation (note_put n set note) m =
    with_stage (λ stage. record stage { notes = notes_with n set note stage.notes }) m
after_operation (window_opened beside side buffer width height) m =
    with_stage (in_workspace (with_window beside side buffer width height)) m
after_operation (window_closed w) m = with_stage (in_workspace (without_window w)) m
after_operation (tab_made buffer) m = with_stage (in_workspace (with_tabpage buffer)) m
after_operation (tab_closed t) m = with_stage (in_workspace (without_tabpage t)) m
after_operation (went_to_window w) m = with_stage (in_workspace (at_window w)) m
after_operation (went_to_tab t) m = with_stage (in_workspace (at_tabpage t)) m
after_operation (cursor_put w p) m = with_stage (in_workspace (with_cursor w p)) m
after_operation (top_put w row) m = with_stage (in_workspace (with_top w row)) m
after_operation (shown w buffer) m = with_stage (in_workspace (with_buffer_in w buffer)) m
after_operation (wish_put w axis n) m = with_stage (in_workspace (with_wish_of w axis n)) m
after_operation (ui_put ui) m = with_stage (λ stage. with_uis (ui_among ui stage.uis) stage) m
after_operation (uis_dropped sessions) m =
    with_stage (λ stage. with_uis (other_uis sessions stage.uis) stage) m

-- the editor after operations, one after another
abbrev pub after_operations : List Operation → ModelEditor → ModelEditor
after_operations [] m = m
after_operations (c ∷ cs) m = after_operations cs (after_operation c m)
