-- What is seen of an editor: all that the answer to a call depends on.
use Rattle.std.specs.Prelude.{ℕ, ℤ, Bool, false, List, Option, None, Some, bytes_eq, option_map}
use Rattle.nv_places.specs.Flat.{flat, lines_of}
use Rattle.nv_marks.specs.declared.extmark.Mark.{Mark}
use Rattle.nv_marks.specs.Marks.{greatest_id}
use Rattle.nv_undo.specs.Tree.{Undo}
use Rattle.nv_buffer.specs.declared.edit.ChangePart.{ChangePart}
use Rattle.nv_model.specs.Buffers.{Splice, Kept, ModelBuffer, text_of, tick_of, marks_of, part_next, closed_with}
use Rattle.nv_model.specs.Stage.{Stage}
use Rattle.nv_model.specs.Editors.{ModelEditor, at_handle, handles_of}

-- what is seen of a buffer: its lines, changedtick, marks in their order, how many were set, the
-- greatest id ever set in each namespace, its changes and the open one, its name and its options
pub record SeenBuffer : Type 0 where
  pub lines : List (List ℕ)
  pub tick : ℕ
  pub marks : List Mark
  -- how many settings of marks were made
  pub settings : ℕ
  pub greatest : ℕ → ℕ
  -- the flat text of the number 0
  pub first : List ℕ
  pub undo : Undo Kept
  pub unsealed : List Splice
  -- which part of which change the next splice is
  pub next : ChangePart
  pub name : List ℕ
  pub modifiable : Bool
  pub modified : Bool
  pub listed : Bool
  pub tabstop : ℕ

-- whether there is a buffer, and it has this name (help: nvim_buf_set_name())
abbrev pub is_name_of : List ℕ → Option SeenBuffer → Bool
is_name_of name None = false
is_name_of name (Some b) = bytes_eq b.name name

-- what is seen of an editor: its live buffers, their handles rising, and all else
pub record Seen : Type 0 where
  pub buffer : ℤ → Option SeenBuffer
  pub handles : List ℤ
  pub stage : Stage

abbrev pub seen_buffer : ModelBuffer → SeenBuffer
seen_buffer m = record {
  lines = lines_of (text_of m);
  tick = tick_of m;
  marks = marks_of m;
  settings = m.settings;
  greatest = greatest_id m.greatest;
  first = m.first;
  undo = m.undo;
  unsealed = m.unsealed;
  next = part_next m;
  name = m.name;
  modifiable = m.modifiable;
  modified = m.modified;
  listed = m.listed;
  tabstop = m.tabstop;
}

abbrev pub seen_of : ModelEditor → Seen
seen_of m = record {
  buffer = λ n. option_map seen_buffer (at_handle m.buffers n);
  handles = handles_of m.buffers;
  stage = m.stage;
}

-- the tree of changes of a buffer once its open change is closed, as the undo commands find it
-- (help: undo-blocks)
abbrev pub sealed_undo : SeenBuffer → Undo Kept
sealed_undo b = closed_with b.unsealed (flat b.lines) b.undo
