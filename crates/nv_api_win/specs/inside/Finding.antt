-- inside: what a step that looks for something gives. Only private contracts cite this.
use Rattle.std.specs.Prelude.{◌≡◌, ℕ, ℤ, ⊤, List, length, Option, Some, None, option_map, option_and_then, Result, Ok, Err}
use Rattle.nv_value.specs.declared.fault.ApiFault.{ApiFault}
use Rattle.nv_args.specs.Reading.{Arg, number_at}
use Rattle.nv_args.specs.Refusals.{CanBeTold}
use Rattle.nv_args.specs.declared.faults.Fail.{Fail}
use Rattle.nv_args.specs.declared.faults.Fail.TheVariants.{Api, NoMemory}
use Rattle.nv_windows.specs.Workspace.{Page, Workspace, current_buffer, current_window, window_at, tabpage_at}
use Rattle.nv_windows.specs.declared.window.Window.{Window}
use Rattle.nv_model.specs.Stage.{or_current}
use Rattle.nv_places.specs.Flat.{line_at}
use Rattle.nv_places.specs.declared.place.Pos.{Pos}
use Rattle.nv_api_win.specs.WindowRows.{column_in, row_from_one}

-- the step gives what was found, seen in this way, or the fault where there is none; want of memory
-- may always come in its place
abbrev pub LooksUp : {A B : Type 0} → (A → B) → Option B → ApiFault → Result A Fail → Type 0
LooksUp seen found fault (Ok a) = found ≡ Some (seen a)
LooksUp seen found fault (Err (Api told)) = (found ≡ None) × (told ≡ fault) × CanBeTold told
LooksUp seen found fault (Err NoMemory) = ⊤

-- the window, and the tabpage, that the first argument of a call names (help: api-types)
abbrev pub window_of_call : Workspace → List Arg → Option Window
window_of_call ws args = window_at ws (or_current (current_window ws) (number_at args 0))

abbrev pub tabpage_of_call : Workspace → List Arg → Option Page
tabpage_of_call ws args = tabpage_at ws (or_current ws.tabpage (number_at args 0))

-- the handle of the buffer that an argument names (help: api-types)
abbrev pub buffer_of_call : Workspace → List Arg → ℕ → ℤ
buffer_of_call ws args place = or_current (current_buffer ws) (number_at args place)

-- the place in a text that a row from 1 and a column from 0 name (help: nvim_win_set_cursor())
abbrev pub col_of_row : List (List ℕ) → ℤ → ℕ → Option Pos
col_of_row lines col row = option_map (λ c. record { row = row; col = c })
    (column_in col (length (line_at lines row)))

abbrev pub cursor_place : List (List ℕ) → ℤ → ℤ → Option Pos
cursor_place lines row col =
    option_and_then (col_of_row lines col) (row_from_one row (length lines))
