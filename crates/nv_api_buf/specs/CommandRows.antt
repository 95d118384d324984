-- What commands do (help: nvim_command(), undo-tree, tabpage, :qall).
use Rattle.std.specs.Prelude.{ℕ, ℤ, pos, ◌+◌, ◌==◌, Bool, true, not, ◌&&◌, ◌||◌, nat_lt, nat_le, int_lt, List, [], ◌∷◌, length}
use Rattle.nv_value.specs.Content.{nil}
use Rattle.nv_undo.specs.Tree.{last}
use Rattle.nv_undo.specs.declared.legs.Leg.{Leg}
use Rattle.nv_args.specs.Faults.{out_of_bounds, no_id_left, not_modifiable, last_one, unknown_name, limit_reached}
use Rattle.nv_args.specs.Reading.{Arg, string_at}
use Rattle.nv_model.specs.Buffers.{Splice}
use Rattle.nv_undo.specs.Ways.{undo_legs, redo_legs, legs_to}
use Rattle.nv_windows.specs.Rooms.{has_handles_left}
use Rattle.nv_windows.specs.Operations.{has_one_tabpage}
use Rattle.nv_model.specs.Stage.{Stage}
use Rattle.nv_model.specs.Seen.{Seen, SeenBuffer, sealed_undo}
use Rattle.nv_model.specs.Operations.{buffer_made, tab_made, tab_closed}
use Rattle.nv_model.specs.Answers.{Answer, quit, replied, unless, or_refused, on_buffer, edits, undo_operations, undo_splices}
use Rattle.nv_model.specs.Deleting.{no_buffer_left}
use Rattle.nv_api_buf.specs.BufferRows.{buffers_are_full}
use Rattle.nv_api_buf.specs.Commands.{Command, undo, redo, undo_to, tabnew, tabclose, quit_all, command_of}

-- a buffer is gone through its changes by legs: its open change is closed, and then each leg is
-- gone; where no splice is to be made it needs no leave
abbrev pub legs_answer_with : Seen → ℤ → SeenBuffer → List Leg → List Splice → Answer
legs_answer_with s n b legs splices =
    unless (
    (not (length splices == 0) && not b.modifiable, not_modifiable)
    ∷ (
      not (length splices == 0) && int_lt s.stage.limits.ticks (pos (b.tick + length splices)),
      limit_reached,
    )
    ∷ [])
    (replied nil (undo_operations n b legs) (edits n b splices))

abbrev pub legs_answer : Seen → ℤ → SeenBuffer → List Leg → Answer
legs_answer s n b legs = legs_answer_with s n b legs (undo_splices b legs)

-- whether no handle of a buffer, a window or a tabpage is left for a further tabpage
abbrev pub no_tab_left : Stage → Bool
no_tab_left stage = no_buffer_left stage || not (has_handles_left stage.workspace)

-- whether a further tabpage would pass a limit
abbrev pub tabs_are_full : Seen → Bool
tabs_are_full s =
    buffers_are_full s || nat_le s.stage.limits.windows (length s.stage.workspace.windows)

-- what each command does, for the current buffer or tabpage, or for the editor
abbrev pub command_answer : Seen → Command → Answer
command_answer s undo = on_buffer s (pos 0) (λ n b. legs_answer s n b (undo_legs (sealed_undo b)))
command_answer s redo = on_buffer s (pos 0) (λ n b. legs_answer s n b (redo_legs (sealed_undo b)))
command_answer s (undo_to k) = on_buffer s (pos 0) (λ n b.
    unless ((nat_lt (last (sealed_undo b)) k, out_of_bounds) ∷ [])
    (legs_answer s n b (legs_to k (sealed_undo b))))
command_answer s tabnew =
    unless (
    (no_tab_left s.stage, no_id_left)
    ∷ (tabs_are_full s, limit_reached)
    ∷ [])
    (replied nil (buffer_made true ∷ tab_made s.stage.next_buffer ∷ []) [])
command_answer s tabclose =
    unless ((has_one_tabpage s.stage.workspace, last_one) ∷ [])
    (replied nil (tab_closed s.stage.workspace.tabpage ∷ []) [])
command_answer s quit_all = replied nil [] (quit ∷ [])

-- nvim_command(command): one of the known commands (own rule: any other text is refused)
abbrev pub nvim_command : Seen → ℕ → List Arg → Answer
nvim_command s session args =
    or_refused (command_of (string_at args 0)) (unknown_name (string_at args 0)) (command_answer s)
