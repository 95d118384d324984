-- What a call answers, and what rows of the method table are written with.
use Rattle.std.specs.Prelude.{ℕ, ℤ, Bool, if◌then◌else◌, List, [], ◌∷◌, ◌++◌, map, flat_map, Option, Some, None}
use Rattle.nv_places.specs.Flat.{flat}
use Rattle.nv_value.specs.Content.{Tree}
use Rattle.nv_value.specs.declared.fault.ApiFault.{ApiFault}
use Rattle.nv_args.specs.Faults.{no_buffer, no_window, no_tabpage}
use Rattle.nv_buffer.specs.declared.buffer.Spliced.{Spliced}
use Rattle.nv_undo.specs.Tree.{Undo}
use Rattle.nv_undo.specs.declared.legs.Leg.{Leg}
use Rattle.nv_model.specs.Buffers.{Splice, Kept, splice_events}
use Rattle.nv_model.specs.Undoing.{leg_splices, legs_splices}
use Rattle.nv_windows.specs.Workspace.{Page, current_buffer, current_window, window_at, tabpage_at}
use Rattle.nv_windows.specs.declared.window.Window.{Window}
use Rattle.nv_model.specs.Stage.{or_current}
use Rattle.nv_model.specs.Editors.{ModelEditor}
use Rattle.nv_model.specs.Seen.{Seen, SeenBuffer, sealed_undo}
use Rattle.nv_model.specs.Operations.{Operation, spliced, spliced_back, stepped, sealed_in, after_operations}

-- What others are told of a call: its session attaches to a buffer at this changedtick, with its
-- lines where they are to be sent; it detaches; a splice; a buffer is deleted; the editor ends
-- (help: api-buffer-updates)
pub data Fact : Type 0 where
  attached : ℤ → ℕ → Option (List (List ℕ)) → Fact
  detached : ℤ → Fact
  edited : ℤ → Spliced → Fact
  deleted : ℤ → Fact
  quit : Fact

-- a fault, or a reply with the operations that the call makes and the facts, both in order
pub data Answer : Type 0 where
  refused : ApiFault → Answer
  replied : Tree → List Operation → List Fact → Answer

-- the editor after an answer: a refused call leaves it as it was
abbrev pub after_answer : Answer → ModelEditor → ModelEditor
after_answer (refused fault) m = m
after_answer (replied reply operations facts) m = after_operations operations m

-- the first fault whose condition holds, and else what is answered
abbrev pub unless : List (Bool × ApiFault) → Answer → Answer
unless [] answer = answer
unless (f ∷ fs) answer = if f.0 then refused f.1 else unless fs answer

-- what goes on with what was found, or the fault where there is none
abbrev pub or_refused : {A : Type 0} → Option A → ApiFault → (A → Answer) → Answer
or_refused None fault next = refused fault
or_refused (Some found) fault next = next found

-- the buffer, window or tabpage that a handle names, 0 being the current one; without it the call
-- is refused (help: api-types)
abbrev pub on_buffer : Seen → ℤ → (ℤ → SeenBuffer → Answer) → Answer
on_buffer s n next =
    or_refused (s.buffer (or_current (current_buffer s.stage.workspace) n)) (no_buffer n)
    (next (or_current (current_buffer s.stage.workspace) n))

abbrev pub on_window : Seen → ℤ → (Window → Answer) → Answer
on_window s n next =
    or_refused (window_at s.stage.workspace (or_current (current_window s.stage.workspace) n))
    (no_window n) next

abbrev pub on_tabpage : Seen → ℤ → (Page → Answer) → Answer
on_tabpage s n next =
    or_refused (tabpage_at s.stage.workspace (or_current s.stage.workspace.tabpage n))
    (no_tabpage n) next

-- the operations of splices made in a buffer one after another, which belong to its open change
abbrev pub splice_operations : ℤ → List Splice → List Operation
splice_operations n splices = map (spliced n) splices

-- the facts of splices made in a buffer one after another
abbrev pub edits : ℤ → SeenBuffer → List Splice → List Fact
edits n b splices = map (edited n) (splice_events (flat b.lines) b.tick splices)

-- the operations of a leg of an undo command: its splices, which belong to no open change, and the
-- step in the tree
abbrev pub leg_operations : ℤ → List ℕ → Undo Kept → Leg → List Operation
leg_operations n first undo leg =
    map (spliced_back n) (leg_splices first undo leg) ++ stepped n leg ∷ []

-- the operations of an undo command by these legs: first the open change is closed (help:
-- undo-blocks)
abbrev pub undo_operations : ℤ → SeenBuffer → List Leg → List Operation
undo_operations n b legs = sealed_in n ∷ flat_map (leg_operations n b.first (sealed_undo b)) legs

-- and the splices that it makes
abbrev pub undo_splices : SeenBuffer → List Leg → List Splice
undo_splices b legs = legs_splices b.first (sealed_undo b) legs
