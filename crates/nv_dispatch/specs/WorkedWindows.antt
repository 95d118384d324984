-- Worked examples of windows and tabpages: what calls of one session to a fresh editor answer,
-- computed by the definitions.
use Prim.Native.String.{String}
use Rattle.std.specs.Prelude.{◌≡◌, ℕ, pos, true, false, [], ◌∷◌}
use Rattle.nv_value.specs.Content.{nil, truth, pairs, in_turn}
use Rattle.nv_rpc.specs.Messages.{buffer_handle}
use Rattle.nv_args.specs.Faults.{out_of_bounds, last_one}
use Rattle.nv_api_win.specs.Windows.{window_handle, tabpage_handle}
use Rattle.nv_dispatch.specs.Runs.{NamedCall, results_of}
use Rattle.nv_dispatch.specs.Worked.{int, minus_one, str, array_value, no_keys, call, ok, fault, set_all_lines, run_command, refusal}

-- a window opened on a side of the current one, which becomes current
abbrev open_window : String → NamedCall
open_window side =
    call "nvim_open_win" (int 0 ∷ truth true ∷ pairs (in_turn ((str "split", str side) ∷ [])) ∷ [])

-- a method of a window by its number alone
abbrev window_call : String → ℕ → NamedCall
window_call name n = call name (int n ∷ [])

-- a window at the right of the first: a column stands between them, and the last row of each is its
-- status line
unfoldable pub SplitRight : Type 0
SplitRight =
    results_of (
    open_window "right"
    ∷ window_call "nvim_win_get_width" 1000
    ∷ window_call "nvim_win_get_width" 1001
    ∷ window_call "nvim_win_get_height" 1000
    ∷ window_call "nvim_win_get_height" 1001
    ∷ window_call "nvim_win_get_position" 1001
    ∷ call "nvim_get_current_win" []
    ∷ [])
    ≡ ok (window_handle (pos 1001))
    ∷ ok (int 40)
    ∷ ok (int 39)
    ∷ ok (int 22)
    ∷ ok (int 22)
    ∷ ok (array_value (int 0 ∷ int 41 ∷ []))
    ∷ ok (window_handle (pos 1001))
    ∷ []

-- the one window with a wish gets it first
unfoldable pub WidthWish : Type 0
WidthWish =
    results_of (
    open_window "right"
    ∷ call "nvim_win_set_width" (int 1001 ∷ int 20 ∷ [])
    ∷ window_call "nvim_win_get_width" 1000
    ∷ window_call "nvim_win_get_width" 1001
    ∷ call "nvim_win_set_width" (int 1001 ∷ int 0 ∷ [])
    ∷ [])
    ≡ ok (window_handle (pos 1001)) ∷ ok nil ∷ ok (int 59) ∷ ok (int 20) ∷ fault out_of_bounds ∷ []

-- a window closed gives its columns back, and the last one isn't closed
unfoldable pub CloseSplit : Type 0
CloseSplit =
    results_of (
    open_window "right"
    ∷ call "nvim_win_close" (int 1001 ∷ truth false ∷ [])
    ∷ window_call "nvim_win_get_width" 1000
    ∷ call "nvim_get_current_win" []
    ∷ window_call "nvim_win_is_valid" 1001
    ∷ window_call "nvim_win_get_buf" 1001
    ∷ call "nvim_win_close" (int 0 ∷ truth false ∷ [])
    ∷ [])
    ≡ ok (window_handle (pos 1001))
    ∷ ok nil
    ∷ ok (int 80)
    ∷ ok (window_handle (pos 1000))
    ∷ ok (truth false)
    ∷ refusal 1 5 "Invalid window id: 1001"
    ∷ refusal 0 15 "Cannot close the last one"
    ∷ []

-- a tabpage has a window and a buffer of its own, and is closed with them; the buffer stays
unfoldable pub TabNewClose : Type 0
TabNewClose =
    results_of (
    run_command "tabnew"
    ∷ call "nvim_get_current_win" []
    ∷ window_call "nvim_win_get_buf" 0
    ∷ call "nvim_get_current_tabpage" []
    ∷ call "nvim_tabpage_get_number" (int 0 ∷ [])
    ∷ call "nvim_list_wins" []
    ∷ run_command "tabclose"
    ∷ call "nvim_get_current_win" []
    ∷ call "nvim_list_bufs" []
    ∷ call "nvim_list_tabpages" []
    ∷ run_command "tabclose"
    ∷ [])
    ≡ ok nil
    ∷ ok (window_handle (pos 1001))
    ∷ ok (buffer_handle (pos 2))
    ∷ ok (tabpage_handle (pos 2))
    ∷ ok (int 2)
    ∷ ok (array_value (window_handle (pos 1000) ∷ window_handle (pos 1001) ∷ []))
    ∷ ok nil
    ∷ ok (window_handle (pos 1000))
    ∷ ok (array_value (buffer_handle (pos 1) ∷ buffer_handle (pos 2) ∷ []))
    ∷ ok (array_value (tabpage_handle (pos 1) ∷ []))
    ∷ fault last_one
    ∷ []

-- a cursor is put by a row from 1 and a column from 0, stays in its line, and moves with the text
-- before it
unfoldable pub CursorMoves : Type 0
CursorMoves =
    results_of (
    set_all_lines (str "abcd" ∷ str "" ∷ [])
    ∷ call "nvim_win_set_cursor" (int 0 ∷ array_value (int 1 ∷ int 9 ∷ []) ∷ [])
    ∷ window_call "nvim_win_get_cursor" 0
    ∷ call "nvim_buf_set_lines" (int 0 ∷ int 0 ∷ int 0 ∷ truth true ∷ array_value (str "x" ∷ [])
    ∷ [])
    ∷ window_call "nvim_win_get_cursor" 0
    ∷ call "nvim_win_set_cursor" (int 0 ∷ array_value (int 0 ∷ int 0 ∷ []) ∷ [])
    ∷ call "nvim_win_set_cursor" (int 0 ∷ array_value (int 1 ∷ minus_one ∷ []) ∷ [])
    ∷ call "nvim_win_set_cursor" (int 0 ∷ array_value (int 1 ∷ []) ∷ [])
    ∷ [])
    ≡ ok nil
    ∷ ok nil
    ∷ ok (array_value (int 1 ∷ int 3 ∷ []))
    ∷ ok nil
    ∷ ok (array_value (int 2 ∷ int 3 ∷ []))
    ∷ fault out_of_bounds
    ∷ fault out_of_bounds
    ∷ refusal 1 3 "Wrong type for argument 2 when calling nvim_win_set_cursor, expecting Array"
    ∷ []

-- a window has two rows at least; a key isn't known, or its value isn't taken, or it is missing
unfoldable pub OpeningFaults : Type 0
OpeningFaults =
    results_of (
    call "nvim_open_win" (int 0 ∷ truth true ∷ no_keys ∷ [])
    ∷ open_window "beside"
    ∷ call "nvim_open_win" (int 0 ∷ truth true ∷ pairs
    (in_turn ((str "split", str "left") ∷ (str "row", int 1) ∷ [])) ∷ [])
    ∷ call "nvim_open_win" (int 0 ∷ truth true ∷ pairs
    (in_turn ((str "split", str "up") ∷ (str "win", int 7) ∷ [])) ∷ [])
    ∷ open_window "above"
    ∷ window_call "nvim_win_get_height" 1000
    ∷ window_call "nvim_win_get_height" 1001
    ∷ [])
    ≡ refusal 1 8 "Invalid value for key: split"
    ∷ refusal 1 8 "Invalid value for key: split"
    ∷ refusal 1 7 "Invalid key: row"
    ∷ refusal 1 5 "Invalid window id: 7"
    ∷ ok (window_handle (pos 1001))
    ∷ ok (int 10)
    ∷ ok (int 11)
    ∷ []
