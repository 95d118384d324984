-- Worked examples: what calls of one session to a fresh editor answer, computed by the definitions.
use Prim.Native.String.{String}
use Rattle.std.specs.Prelude.{◌≡◌, ℕ, pos, negsuc, true, false, List, [], ◌∷◌, codes, Result, Ok, Err}
use Rattle.nv_value.specs.Content.{Tree, nil, truth, integer, text, ext, list, pairs, no_more, trees_of, in_turn}
use Rattle.nv_value.specs.declared.fault.ApiFault.{ApiFault}
use Rattle.nv_rpc.specs.Messages.{buffer_handle}
use Rattle.nv_args.specs.Faults.{invalid_key, out_of_bounds, start_after_end, not_modifiable, name_in_use, unsaved_changes}
use Rattle.nv_dispatch.specs.Runs.{NamedCall, results_of}

-- values as they are written in a call
abbrev pub int : ℕ → Tree
int n = integer (pos n)

abbrev pub minus_one : Tree
minus_one = integer (negsuc 0)

abbrev pub str : String → Tree
str s = text (codes s)

abbrev pub array_value : List Tree → Tree
array_value ts = list (trees_of ts)

abbrev pub no_keys : Tree
no_keys = pairs no_more

-- a call
abbrev pub call : String → List Tree → NamedCall
call name given = record { name = codes name; given = given }

-- the calls give these results, and are refused with these faults
abbrev pub ok : Tree → Result Tree ApiFault
ok t = Ok t

abbrev pub fault : ApiFault → Result Tree ApiFault
fault f = Err f

-- calls that are made often: the whole text put, the text, the changedtick
abbrev pub set_all_lines : List Tree → NamedCall
set_all_lines lines =
    call "nvim_buf_set_lines" (int 0 ∷ int 0 ∷ minus_one ∷ truth true ∷ array_value lines ∷ [])

abbrev pub get_all_lines : NamedCall
get_all_lines = call "nvim_buf_get_lines" (int 0 ∷ int 0 ∷ minus_one ∷ truth true ∷ [])

abbrev pub get_tick : NamedCall
get_tick = call "nvim_buf_get_changedtick" (int 0 ∷ [])

abbrev pub run_command : String → NamedCall
run_command words = call "nvim_command" (str words ∷ [])

-- all lines replaced by none leave one empty line
unfoldable pub EmptyText : Type 0
EmptyText =
    results_of (set_all_lines [] ∷ get_all_lines ∷ get_tick ∷ call "nvim_get_current_win" [] ∷ [])
    ≡ ok nil ∷ ok (array_value (str "" ∷ [])) ∷ ok (int 3) ∷ ok (ext (pos 1) (205 ∷ 3 ∷ 232 ∷ []))
    ∷ []

-- an index outside the text is refused where it is strict, and else the nearest one is meant
unfoldable pub IndexBounds : Type 0
IndexBounds =
    results_of (
    call "nvim_buf_set_lines" (int 0 ∷ int 5 ∷ int 9 ∷ truth true ∷ array_value (str "x" ∷ []) ∷ [])
    ∷ call "nvim_buf_set_lines" (int 0 ∷ int 5 ∷ int 9 ∷ truth false ∷ array_value (str "x" ∷ [])
    ∷ [])
    ∷ get_all_lines
    ∷ [])
    ≡ fault out_of_bounds ∷ ok nil ∷ ok (array_value (str "" ∷ str "x" ∷ [])) ∷ []

-- a start behind the end gives no lines, and lines aren't put there
unfoldable pub StartAboveEnd : Type 0
StartAboveEnd =
    results_of (
    set_all_lines (str "a" ∷ str "b" ∷ str "c" ∷ [])
    ∷ call "nvim_buf_get_lines" (int 0 ∷ int 3 ∷ int 1 ∷ truth false ∷ [])
    ∷ call "nvim_buf_set_lines" (int 0 ∷ int 3 ∷ int 1 ∷ truth false ∷ array_value (str "y" ∷ [])
    ∷ [])
    ∷ get_all_lines
    ∷ [])
    ≡ ok nil ∷ ok (array_value []) ∷ fault start_after_end
    ∷ ok (array_value (str "a" ∷ str "b" ∷ str "c" ∷ []))
    ∷ []

-- text put between places, and lines that are joined by it
unfoldable pub TextPlaces : Type 0
TextPlaces =
    results_of (
    set_all_lines (str "abc" ∷ str "def" ∷ [])
    ∷ call "nvim_buf_set_text" (int 0 ∷ int 0 ∷ int 1 ∷ minus_one ∷ int 2
    ∷ array_value (str "X" ∷ str "Y" ∷ []) ∷ [])
    ∷ get_all_lines
    ∷ call "nvim_buf_get_text" (int 0 ∷ int 0 ∷ int 1 ∷ int 1 ∷ minus_one ∷ no_keys ∷ [])
    ∷ call "nvim_buf_get_text" (int 0 ∷ int 0 ∷ int 1 ∷ int 1 ∷ minus_one
    ∷ pairs (in_turn ((str "k", nil) ∷ [])) ∷ [])
    ∷ call "nvim_buf_set_text" (int 0 ∷ int 1 ∷ int 0 ∷ int 0 ∷ int 0 ∷ array_value [] ∷ [])
    ∷ call "nvim_buf_get_offset" (int 0 ∷ int 2 ∷ [])
    ∷ get_tick
    ∷ [])
    ≡ ok nil
    ∷ ok nil
    ∷ ok (array_value (str "aX" ∷ str "Yf" ∷ []))
    ∷ ok (array_value (str "X" ∷ str "Yf" ∷ []))
    ∷ fault (invalid_key (codes "k"))
    ∷ fault start_after_end
    ∷ ok (int 6)
    ∷ ok (int 4)
    ∷ []

-- changes are a tree: a text put after undo is another child, and redo goes along the branch last
-- used
unfoldable pub UndoBranches : Type 0
UndoBranches =
    results_of (
    set_all_lines (str "a" ∷ []) ∷ get_tick
    ∷ run_command "undo" ∷ get_tick
    ∷ set_all_lines (str "b" ∷ []) ∷ get_tick
    ∷ run_command "undo 1" ∷ get_tick ∷ get_all_lines
    ∷ run_command "redo" ∷ get_tick ∷ get_all_lines
    ∷ run_command "undo 0" ∷ get_tick ∷ get_all_lines
    ∷ run_command "redo" ∷ get_tick ∷ get_all_lines
    ∷ run_command "undo 3"
    ∷ [])
    ≡ ok nil ∷ ok (int 3)
    ∷ ok nil ∷ ok (int 4)
    ∷ ok nil ∷ ok (int 5)
    ∷ ok nil ∷ ok (int 7) ∷ ok (array_value (str "a" ∷ []))
    ∷ ok nil ∷ ok (int 7) ∷ ok (array_value (str "a" ∷ []))
    ∷ ok nil ∷ ok (int 8) ∷ ok (array_value (str "" ∷ []))
    ∷ ok nil ∷ ok (int 9) ∷ ok (array_value (str "a" ∷ []))
    ∷ fault out_of_bounds
    ∷ []

-- a second buffer has a name and a text of its own
unfoldable pub SecondBuffer : Type 0
SecondBuffer =
    results_of (
    call "nvim_create_buf" (truth true ∷ truth false ∷ [])
    ∷ call "nvim_buf_set_name" (int 2 ∷ str "a" ∷ [])
    ∷ call "nvim_buf_set_name" (int 0 ∷ str "a" ∷ [])
    ∷ call "nvim_buf_set_lines" (int 2 ∷ int 0 ∷ minus_one ∷ truth true ∷ array_value (str "z" ∷ [])
    ∷ [])
    ∷ call "nvim_buf_delete" (int 2 ∷ no_keys ∷ [])
    ∷ call "nvim_buf_delete" (int 2 ∷ pairs (in_turn ((str "force", truth true) ∷ [])) ∷ [])
    ∷ call "nvim_list_bufs" []
    ∷ [])
    ≡ ok (buffer_handle (pos 2))
    ∷ ok nil
    ∷ fault name_in_use
    ∷ ok nil
    ∷ fault unsaved_changes
    ∷ ok nil
    ∷ ok (array_value (buffer_handle (pos 1) ∷ []))
    ∷ []

-- a buffer that isn't modifiable keeps its text
unfoldable pub NotModifiable : Type 0
NotModifiable =
    results_of (
    call "nvim_set_option_value" (str "modifiable" ∷ truth false ∷ no_keys ∷ [])
    ∷ call "nvim_buf_set_lines" (int 0 ∷ int 0 ∷ int 1 ∷ truth true ∷ array_value (str "q" ∷ [])
    ∷ [])
    ∷ call "nvim_get_option_value" (str "modifiable" ∷ no_keys ∷ [])
    ∷ [])
    ≡ ok nil ∷ fault not_modifiable ∷ ok (truth false) ∷ []

-- the words of faults
abbrev pub refusal : ℕ → ℕ → String → Result Tree ApiFault
refusal kind code words = Err (record { kind = kind; code = code; words = codes words })

unfoldable pub FaultTexts : Type 0
FaultTexts =
    results_of (
    call "nvim_buf_line_count" []
    ∷ call "nvim_buf_line_count" (str "x" ∷ [])
    ∷ call "nvim_buf_line_count" (int 7 ∷ [])
    ∷ run_command "quit"
    ∷ call "nvim_buf_set_lines" (int 0 ∷ int 0 ∷ int 1 ∷ truth true
    ∷ array_value (text (97 ∷ 10 ∷ 98 ∷ []) ∷ []) ∷ [])
    ∷ call "nvim_nope" []
    ∷ call "nvim_get_option_value"
    (str "x" ∷ pairs (in_turn ((str "zzz", int 1) ∷ (str "buf", int 99) ∷ [])) ∷ [])
    ∷ [])
    ≡ refusal 1 2 "Wrong number of arguments: expecting 1 but got 0"
    ∷ refusal 1 3 "Wrong type for argument 1 when calling nvim_buf_line_count, expecting Buffer"
    ∷ refusal 1 4 "Invalid buffer id: 7"
    ∷ refusal 0 18 "Unknown name: quit"
    ∷ refusal 1 11 "String cannot contain newlines"
    ∷ refusal 0 1 "Invalid method: nvim_nope"
    ∷ refusal 1 4 "Invalid buffer id: 99"
    ∷ []

-- calls in one: what was done before a fault stays, and is one change
unfoldable pub CallsInOne : Type 0
CallsInOne =
    results_of (
    call "nvim_call_atomic" (
    array_value (
    array_value (str "nvim_buf_set_lines"
    ∷ array_value (int 0 ∷ int 0 ∷ int 0 ∷ truth true ∷ array_value (str "a" ∷ []) ∷ []) ∷ [])
    ∷ array_value (str "nvim_buf_set_lines"
    ∷ array_value (int 0 ∷ int 1 ∷ int 2 ∷ truth true ∷ array_value (str "b" ∷ []) ∷ []) ∷ [])
    ∷ array_value (str "nvim_nope" ∷ array_value [] ∷ [])
    ∷ [])
    ∷ [])
    ∷ get_all_lines
    ∷ run_command "undo"
    ∷ get_all_lines
    ∷ get_tick
    ∷ [])
    ≡ ok (array_value (array_value (nil ∷ nil ∷ [])
    ∷ array_value (int 2 ∷ int 0 ∷ str "Invalid method: nvim_nope" ∷ []) ∷ []))
    ∷ ok (array_value (str "a" ∷ str "b" ∷ []))
    ∷ ok nil
    ∷ ok (array_value (str "" ∷ []))
    ∷ ok (int 6)
    ∷ []
