-- The texts of commands (help: nvim_command(), undo-commands, :tabnew, :tabclose, :qall).
use Rattle.std.specs.Prelude.{ℕ, List, drop, take, codes, bytes_eq, ◌||◌, Option, Some, None, option_map, if◌then◌else◌}
use Rattle.nv_args.specs.Texts.{decimal_number}

-- the commands that are known
pub data Command : Type 0 where
  undo : Command
  redo : Command
  undo_to : ℕ → Command
  tabnew : Command
  tabclose : Command
  -- the editor ends for all sessions (help: :qall)
  quit_all : Command

-- `undo N`: one space, and 1 to 18 decimal digits (help: :undo N; own rule for their number)
abbrev pub undo_number : List ℕ → Option Command
undo_number words =
    if bytes_eq (take 5 words) (codes "undo ")
    then option_map undo_to (decimal_number (drop 5 words)) else None

-- the command of a text, and none where it isn't known
abbrev pub command_of : List ℕ → Option Command
command_of words =
    if bytes_eq words (codes "undo") then Some undo
    else if bytes_eq words (codes "redo") then Some redo
    else if bytes_eq words (codes "tabnew") then Some tabnew
    else if bytes_eq words (codes "tabclose") then Some tabclose
    else if bytes_eq words (codes "qall!") || bytes_eq words (codes "qa!") then Some quit_all
    else undo_number words
