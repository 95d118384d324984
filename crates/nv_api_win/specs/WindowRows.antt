-- The methods on windows (help: api-window; the help tag of each is its name).
use Rattle.std.specs.Prelude.{ℕ, ℤ, pos, negsuc, ◌+◌, ◌-◌, Bool, not, ◌&&◌, nat_le, nat_lt, List, [], ◌∷◌, length, map, min, Option, Some, None, is_some, unwrap_or, slice_get, if◌then◌else◌}
use Rattle.std.specs.Option.{option_map_or}
use Rattle.nv_value.specs.Content.{Tree, nil, truth}
use Rattle.nv_rpc.specs.Messages.{buffer_handle}
use Rattle.nv_places.specs.Flat.{line_at}
use Rattle.nv_layout.specs.declared.nodes.Axis.TheVariants.{Across, Down}
use Rattle.nv_args.specs.Faults.{out_of_bounds, no_id_left, no_room, last_one, limit_reached}
use Rattle.nv_msgpack.specs.Handle.{integer_of as integer_in}
use Rattle.nv_args.specs.Arguments.{tree_list, last_pairs}
use Rattle.nv_args.specs.Reading.{Arg, number_at, flag_at, values_at, pairs_at}
use Rattle.nv_args.specs.Maps.{map_fault}
use Rattle.nv_windows.specs.Workspace.{Page, Workspace, current_window, window_at, tabpage_of}
use Rattle.nv_windows.specs.Rooms.{all_windows, has_one_window, has_room_beside, has_window_left}
use Rattle.nv_windows.specs.Operations.{has_one_tabpage}
use Rattle.nv_model.specs.Stage.{Stage, or_current}
use Rattle.nv_model.specs.Seen.{Seen}
use Rattle.nv_model.specs.Operations.{Operation, window_opened, window_closed, tab_closed, went_to_window, cursor_put, shown, wish_put}
use Rattle.nv_model.specs.Answers.{Answer, replied, unless, or_refused, on_buffer, on_window}
use Rattle.nv_model.specs.Answering.{reply_of, fault_or, array_of, natural}
use Rattle.nv_api_win.specs.Windows.{window_handle, tabpage_handle, area_of}
use Rattle.nv_api_win.specs.Opening.{opening_keys, side_of, beside_of, wished_width, wished_height, width_in, height_in}
use Rattle.nv_args.specs.declared.methods.WindowMethod.{WindowMethod}
use Rattle.nv_args.specs.declared.methods.WindowMethod.TheVariants.{ListWins, GetCurrentWin, SetCurrentWin, OpenWin, WinClose, WinIsValid, WinGetBuf, WinSetBuf, WinGetCursor, WinSetCursor, WinGetHeight, WinGetWidth, WinSetHeight, WinSetWidth, WinGetPosition, WinGetTabpage, ListTabpages, GetCurrentTabpage, SetCurrentTabpage, TabpageIsValid, TabpageListWins, TabpageGetWin, TabpageGetNumber}
use Rattle.nv_model.specs.Kinds.{Effects, no_effects, making, goes, opens_windows, closes_windows, closes_tabs, shows_buffers, moves_cursors, puts_wishes}
use Rattle.nv_model.specs.Rows.{Row}
use Rattle.nv_api_win.specs.TabpageRows.{nvim_list_tabpages, nvim_get_current_tabpage, nvim_set_current_tabpage, nvim_tabpage_is_valid, nvim_tabpage_list_wins, nvim_tabpage_get_win, nvim_tabpage_get_number}

-- nvim_list_wins(): the windows of all tabpages, each tabpage's in tree order
abbrev pub nvim_list_wins : Seen → ℕ → List Arg → Answer
nvim_list_wins s session args =
    reply_of (array_of (map window_handle (all_windows s.stage.workspace)))

-- nvim_get_current_win(): the current window
abbrev pub nvim_get_current_win : Seen → ℕ → List Arg → Answer
nvim_get_current_win s session args = reply_of (window_handle (current_window s.stage.workspace))

-- nvim_set_current_win(window): the window becomes current, and its tabpage too
abbrev pub nvim_set_current_win : Seen → ℕ → List Arg → Answer
nvim_set_current_win s session args =
    on_window s (number_at args 0) (λ w. replied nil (went_to_window w.handle ∷ []) [])

-- whether a further window would pass the limit
abbrev pub windows_are_full : Stage → Bool
windows_are_full stage = nat_le stage.limits.windows (length stage.workspace.windows)

-- what is done where a window is opened: with `enter` it becomes current, and its tabpage too
abbrev pub opening_operations : Stage → ℤ → ℤ → Bool → List (Tree × Tree) → List Operation
opening_operations stage buffer beside enter pairs =
    window_opened beside (side_of pairs) buffer (wished_width pairs) (wished_height pairs)
    ∷ (if enter then went_to_window stage.workspace.next_window ∷ [] else [])

-- a window opened by pairs that count
abbrev pub opening_answer : Seen → ℤ → Bool → List (Tree × Tree) → Answer
opening_answer s buffer enter pairs =
    on_buffer s buffer (λ n b.
    on_window s (beside_of pairs) (λ w.
    fault_or (map_fault opening_keys pairs) (
    unless (
    (not (has_window_left s.stage.workspace), no_id_left)
    ∷ (not (has_room_beside s.stage.workspace w.handle (side_of pairs)), no_room)
    ∷ (windows_are_full s.stage, limit_reached)
    ∷ [])
    (replied (window_handle s.stage.workspace.next_window)
    (opening_operations s.stage n w.handle enter pairs) []))))

-- nvim_open_win(buffer, enter, config): a new window on a side of another one shows the buffer at
-- row 0; keys `split`, `win`, `width`, `height`
abbrev pub nvim_open_win : Seen → ℕ → List Arg → Answer
nvim_open_win s session args =
    opening_answer s (number_at args 0) (flag_at args 1) (last_pairs (pairs_at args 2))

-- a window of a tabpage is closed, and its tabpage with its last one
abbrev pub closing_answer : Workspace → ℤ → Page → Answer
closing_answer ws w t =
    if has_one_window t
    then unless ((has_one_tabpage ws, last_one) ∷ [])
    (replied nil (tab_closed t.handle ∷ []) [])
    else replied nil (window_closed w ∷ []) []

-- nvim_win_close(window, force): the window is closed; `force` has no effect (own rule)
abbrev pub nvim_win_close : Seen → ℕ → List Arg → Answer
nvim_win_close s session args = on_window s (number_at args 0) (λ w.
    or_refused (tabpage_of s.stage.workspace w.handle) last_one
    (closing_answer s.stage.workspace w.handle))

-- nvim_win_is_valid(window): whether a window of this handle is live
abbrev pub nvim_win_is_valid : Seen → ℕ → List Arg → Answer
nvim_win_is_valid s session args =
    reply_of (truth (is_some (window_at s.stage.workspace
    (or_current (current_window s.stage.workspace)
    (number_at args 0)))))

-- nvim_win_get_buf(window): the buffer that it shows
abbrev pub nvim_win_get_buf : Seen → ℕ → List Arg → Answer
nvim_win_get_buf s session args =
    on_window s (number_at args 0) (λ w. reply_of (buffer_handle w.buffer))

-- nvim_win_set_buf(window, buffer): it shows the buffer, at row 0
abbrev pub nvim_win_set_buf : Seen → ℕ → List Arg → Answer
nvim_win_set_buf s session args =
    on_buffer s (number_at args 1) (λ n b.
    on_window s (number_at args 0) (λ w.
    replied nil (shown w.handle n ∷ []) []))

-- nvim_win_get_cursor(window): row from 1, column from 0
abbrev pub nvim_win_get_cursor : Seen → ℕ → List Arg → Answer
nvim_win_get_cursor s session args = on_window s (number_at args 0) (λ w.
    reply_of (array_of (natural (w.cursor.row + 1) ∷ natural w.cursor.col ∷ [])))

-- the integer at a place of an Array of two
abbrev pub integer_or_zero : Option Tree → ℤ
integer_or_zero None = pos 0
integer_or_zero (Some t) = unwrap_or (integer_in t) (pos 0)

abbrev pub coordinate : List Arg → ℕ → ℤ
coordinate args place = integer_or_zero (slice_get (tree_list (values_at args 1)) place)

-- a row from 1 as one from 0, where a text of so many lines has it
abbrev pub row_from_one : ℤ → ℕ → Option ℕ
row_from_one (pos n) lines = if nat_lt 0 n && nat_le n lines then Some (n - 1) else None
row_from_one (negsuc n) lines = None

-- a column in a line of so many bytes: one behind its last byte is that byte's, and 0 where it has
-- none (own rule)
abbrev pub column_in : ℤ → ℕ → Option ℕ
column_in (pos n) bytes = Some (min n (bytes - 1))
column_in (negsuc n) bytes = None

-- nvim_win_set_cursor(window, pos): row from 1, column from 0
abbrev pub nvim_win_set_cursor : Seen → ℕ → List Arg → Answer
nvim_win_set_cursor s session args =
    on_window s (number_at args 0) (λ w.
    on_buffer s w.buffer (λ n b.
    or_refused (row_from_one (coordinate args 0) (length b.lines)) out_of_bounds (λ row.
    or_refused (column_in (coordinate args 1) (length (line_at b.lines row))) out_of_bounds (λ col.
    replied nil (cursor_put w.handle (record { row = row; col = col }) ∷ []) []))))

-- nvim_win_get_height(window), nvim_win_get_width(window): its rows and columns of text
abbrev pub nvim_win_get_height : Seen → ℕ → List Arg → Answer
nvim_win_get_height s session args =
    on_window s (number_at args 0)
    (λ w. reply_of (natural (area_of s.stage.workspace w.handle).height))

abbrev pub nvim_win_get_width : Seen → ℕ → List Arg → Answer
nvim_win_get_width s session args =
    on_window s (number_at args 0)
    (λ w. reply_of (natural (area_of s.stage.workspace w.handle).width))

-- nvim_win_set_height(window, height), nvim_win_set_width(window, width): it wishes so many rows,
-- with its status line one more, or columns (own rule)
abbrev pub nvim_win_set_height : Seen → ℕ → List Arg → Answer
nvim_win_set_height s session args =
    on_window s (number_at args 0) (λ w.
    or_refused (height_in (number_at args 1)) out_of_bounds (λ height.
    replied nil (wish_put w.handle Down (height + 1) ∷ []) []))

abbrev pub nvim_win_set_width : Seen → ℕ → List Arg → Answer
nvim_win_set_width s session args =
    on_window s (number_at args 0) (λ w.
    or_refused (width_in (number_at args 1)) out_of_bounds (λ width.
    replied nil (wish_put w.handle Across width ∷ []) []))

-- nvim_win_get_position(window): row and column of its first cell on the screen
abbrev pub nvim_win_get_position : Seen → ℕ → List Arg → Answer
nvim_win_get_position s session args = on_window s (number_at args 0) (λ w.
    reply_of (array_of (natural (area_of s.stage.workspace w.handle).row
    ∷ natural (area_of s.stage.workspace w.handle).col ∷ [])))

-- nvim_win_get_tabpage(window): the tabpage that it is in
abbrev pub nvim_win_get_tabpage : Seen → ℕ → List Arg → Answer
nvim_win_get_tabpage s session args = on_window s (number_at args 0) (λ w.
    reply_of (tabpage_handle (option_map_or (λ t. t.handle) (tabpage_of s.stage.workspace w.handle)
    (pos 0))))

-- the methods on windows and tabpages
abbrev pub window_row : WindowMethod → Row
window_row ListWins = nvim_list_wins
window_row GetCurrentWin = nvim_get_current_win
window_row SetCurrentWin = nvim_set_current_win
window_row OpenWin = nvim_open_win
window_row WinClose = nvim_win_close
window_row WinIsValid = nvim_win_is_valid
window_row WinGetBuf = nvim_win_get_buf
window_row WinSetBuf = nvim_win_set_buf
window_row WinGetCursor = nvim_win_get_cursor
window_row WinSetCursor = nvim_win_set_cursor
window_row WinGetHeight = nvim_win_get_height
window_row WinGetWidth = nvim_win_get_width
window_row WinSetHeight = nvim_win_set_height
window_row WinSetWidth = nvim_win_set_width
window_row WinGetPosition = nvim_win_get_position
window_row WinGetTabpage = nvim_win_get_tabpage
window_row ListTabpages = nvim_list_tabpages
window_row GetCurrentTabpage = nvim_get_current_tabpage
window_row SetCurrentTabpage = nvim_set_current_tabpage
window_row TabpageIsValid = nvim_tabpage_is_valid
window_row TabpageListWins = nvim_tabpage_list_wins
window_row TabpageGetWin = nvim_tabpage_get_win
window_row TabpageGetNumber = nvim_tabpage_get_number

-- the kinds of operations that each makes, and of facts that it tells
abbrev pub window_effects : WindowMethod → Effects
window_effects SetCurrentWin = making (goes ∷ [])
window_effects OpenWin = making (opens_windows ∷ goes ∷ [])
window_effects WinClose = making (closes_windows ∷ closes_tabs ∷ [])
window_effects WinSetBuf = making (shows_buffers ∷ [])
window_effects WinSetCursor = making (moves_cursors ∷ [])
window_effects WinSetHeight = making (puts_wishes ∷ [])
window_effects WinSetWidth = making (puts_wishes ∷ [])
window_effects SetCurrentTabpage = making (goes ∷ [])
window_effects _ = no_effects
