-- What is done where a window or a tabpage is closed.
use Rattle.std.specs.Prelude.{ℤ, List, [], ◌∷◌, if◌then◌else◌}
use Rattle.std.specs.Option.{option_map_or}
use Rattle.nv_windows.specs.Workspace.{Page, Workspace, tabpage_of}
use Rattle.nv_windows.specs.Rooms.{has_one_window}
use Rattle.nv_windows.specs.Operations.{has_one_tabpage, is_only_window}
use Rattle.nv_model.specs.Operations.{Operation, tab_closed, window_closed}

-- a window of a tabpage is closed: its tabpage goes with its last window (help: nvim_win_close())
abbrev pub operations_on_page : ℤ → Page → List Operation
operations_on_page w t =
    if has_one_window t then tab_closed t.handle ∷ [] else window_closed w ∷ []

-- a window is closed; the only window of the only tabpage stays (own rule)
abbrev pub closing_operations : Workspace → ℤ → List Operation
closing_operations ws w =
    if is_only_window ws w then [] else option_map_or (operations_on_page w) (tabpage_of ws w) []

-- the current tabpage is closed, where it isn't the only one (help: :tabclose)
abbrev pub tab_closing_operations : Workspace → List Operation
tab_closing_operations ws = if has_one_tabpage ws then [] else tab_closed ws.tabpage ∷ []
