-- inside: the commands as the code has them.
use Rattle.std.specs.Prelude.{ℕ, pos, ◌+◌, ◌==◌, not, ◌&&◌, int_lt, [], ◌∷◌}
use Rattle.nv_args.specs.Faults.{no_id_left, not_modifiable, limit_reached}
use Rattle.nv_model.specs.Seen.{Seen, SeenBuffer}
use Rattle.nv_model.specs.Answers.{Answer, unless}
use Rattle.nv_model.specs.declared.parts.Limits.{Limits}
use Rattle.nv_api_buf.specs.Commands.{Command, undo, redo, undo_to, tabnew, tabclose, quit_all}
use Rattle.nv_api_buf.specs.CommandRows.{no_tab_left, tabs_are_full}
use Rattle.nv_api_buf.specs.declared.commands.Order.{Order}
use Rattle.nv_api_buf.specs.declared.commands.Order.TheVariants.{Undo, Redo, UndoTo, Tabnew, Tabclose, QuitAll}

-- a command by its word
abbrev pub command_told : Order → Command
command_told Undo = undo
command_told Redo = redo
command_told (UndoTo n) = undo_to n
command_told Tabnew = tabnew
command_told Tabclose = tabclose
command_told QuitAll = quit_all

-- an answer, unless so many splices of undo commands may not be made
abbrev pub unless_moved : Limits → SeenBuffer → ℕ → Answer → Answer
unless_moved limits b splices answer =
    unless (
    (not (splices == 0) && not b.modifiable, not_modifiable)
    ∷ (not (splices == 0) && int_lt limits.ticks (pos (b.tick + splices)), limit_reached)
    ∷ [])
    answer

-- an answer, unless a further tabpage may not be made
abbrev pub unless_tabs_full : Seen → Answer → Answer
unless_tabs_full s answer =
    unless (
    (no_tab_left s.stage, no_id_left)
    ∷ (tabs_are_full s, limit_reached)
    ∷ [])
    answer
