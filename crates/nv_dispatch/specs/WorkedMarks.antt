-- Worked examples of marks and highlight groups: what calls of one session to a fresh editor
-- answer, computed by the definitions.
use Prim.Native.String.{String}
use Rattle.std.specs.Prelude.{◌≡◌, ℕ, negsuc, true, false, List, [], ◌∷◌}
use Rattle.nv_value.specs.Content.{Tree, nil, truth, integer, pairs, in_turn}
use Rattle.nv_args.specs.Faults.{out_of_bounds, start_after_end}
use Rattle.nv_dispatch.specs.Runs.{NamedCall, results_of}
use Rattle.nv_dispatch.specs.Worked.{int, minus_one, str, array_value, no_keys, call, ok, fault, set_all_lines, get_all_lines, refusal}

-- a Dict of some keys
abbrev dict_value : List (Tree × Tree) → Tree
dict_value entries = pairs (in_turn entries)

abbrev key_with_value : String → Tree → Tree × Tree
key_with_value name value = (str name, value)

abbrev create_namespace : NamedCall
create_namespace = call "nvim_create_namespace" (str "a" ∷ [])

-- a mark set in namespace 1
abbrev set_mark : ℕ → ℕ → List (Tree × Tree) → NamedCall
set_mark row col entries =
    call "nvim_buf_set_extmark" (int 0 ∷ int 1 ∷ int row ∷ int col ∷ dict_value entries ∷ [])

-- text put between two places
abbrev set_text_between : ℕ → ℕ → ℕ → ℕ → List Tree → NamedCall
set_text_between row col end_row end_col lines = call "nvim_buf_set_text"
    (int 0 ∷ int row ∷ int col ∷ int end_row ∷ int end_col ∷ array_value lines ∷ [])

-- the marks of namespace 1 from one place to another
abbrev get_marks : Tree → Tree → List (Tree × Tree) → NamedCall
get_marks start end entries =
    call "nvim_buf_get_extmarks" (int 0 ∷ int 1 ∷ start ∷ end ∷ dict_value entries ∷ [])

abbrev get_all_marks : NamedCall
get_all_marks = get_marks (int 0) minus_one []

-- a mark as it is listed
abbrev mark_values : ℕ → ℕ → ℕ → Tree
mark_values id row col = array_value (int id ∷ int row ∷ int col ∷ [])

-- text put at two marks that stand at one place carries the one with right gravity; text replaced
-- around them leaves each at its side
abbrev moving_calls : List NamedCall
moving_calls =
    set_all_lines (str "abcdef" ∷ [])
    ∷ create_namespace
    ∷ set_mark 0 3 (key_with_value "right_gravity" (truth false) ∷ [])
    ∷ set_mark 0 3 []
    ∷ set_text_between 0 3 0 3 (str "XY" ∷ [])
    ∷ get_all_marks
    ∷ set_mark 0 7 (key_with_value "right_gravity" (truth false) ∷ [])
    ∷ set_text_between 0 1 0 7 (str "-" ∷ [])
    ∷ get_all_lines
    ∷ get_all_marks
    ∷ []

unfoldable pub MarksMoveWithText : Type 0
MarksMoveWithText =
    results_of moving_calls
    ≡ ok nil
    ∷ ok (int 1)
    ∷ ok (int 1)
    ∷ ok (int 2)
    ∷ ok nil
    ∷ ok (array_value (mark_values 1 0 3 ∷ mark_values 2 0 5 ∷ []))
    ∷ ok (int 3)
    ∷ ok nil
    ∷ ok (array_value (str "a-f" ∷ []))
    ∷ ok (array_value (mark_values 1 0 1 ∷ mark_values 3 0 1 ∷ mark_values 2 0 2 ∷ []))
    ∷ []

-- marks of a text that is taken away whole stand at the start and the end of the empty line that is
-- left
unfoldable pub MarksPastEnd : Type 0
MarksPastEnd =
    results_of (
    set_all_lines (str "ab" ∷ str "c" ∷ [])
    ∷ create_namespace
    ∷ set_mark 2 0 []
    ∷ set_mark 1 1 (key_with_value "right_gravity" (truth false) ∷ [])
    ∷ set_all_lines []
    ∷ call "nvim_buf_get_extmark_by_id" (int 0 ∷ int 1 ∷ int 1 ∷ no_keys ∷ [])
    ∷ call "nvim_buf_get_extmark_by_id" (int 0 ∷ int 1 ∷ int 2 ∷ no_keys ∷ [])
    ∷ [])
    ≡ ok nil
    ∷ ok (int 1)
    ∷ ok (int 1)
    ∷ ok (int 2)
    ∷ ok nil
    ∷ ok (array_value (int 1 ∷ int 0 ∷ []))
    ∷ ok (array_value (int 0 ∷ int 0 ∷ []))
    ∷ []

-- from the last place to the first the marks come in reverse order
unfoldable pub MarksReverse : Type 0
MarksReverse =
    results_of (
    set_all_lines (str "a-f" ∷ [])
    ∷ create_namespace
    ∷ set_mark 0 1 (key_with_value "right_gravity" (truth false) ∷ [])
    ∷ set_mark 0 2 []
    ∷ set_mark 0 1 (key_with_value "right_gravity" (truth false) ∷ [])
    ∷ get_marks minus_one (int 0) (key_with_value "limit" (int 1) ∷ [])
    ∷ set_mark 0 3 []
    ∷ set_text_between 0 1 0 2 (str "xyz" ∷ [])
    ∷ get_all_lines
    ∷ get_all_marks
    ∷ [])
    ≡ ok nil
    ∷ ok (int 1)
    ∷ ok (int 1)
    ∷ ok (int 2)
    ∷ ok (int 3)
    ∷ ok (array_value (mark_values 2 0 2 ∷ []))
    ∷ ok (int 4)
    ∷ ok nil
    ∷ ok (array_value (str "axyzf" ∷ []))
    ∷ ok (array_value (mark_values 1 0 1 ∷ mark_values 3 0 1 ∷ mark_values 2 0 4 ∷ mark_values 4 0 5
    ∷ []))
    ∷ []

-- a mark with an end and a group, and its details
unfoldable pub MarkDetails : Type 0
MarkDetails =
    results_of (
    set_all_lines (str "abc" ∷ str "de" ∷ [])
    ∷ create_namespace
    ∷ set_mark 0 1 (key_with_value "end_row" (int 1) ∷ key_with_value "end_col" (int 2)
    ∷ key_with_value "hl_group" (str "NonText") ∷ key_with_value "id" (int 7) ∷ [])
    ∷ get_marks (array_value (int 1 ∷ int 0 ∷ [])) minus_one
    (key_with_value "overlap" (truth true) ∷ key_with_value "details" (truth true) ∷ [])
    ∷ get_marks (array_value (int 1 ∷ int 0 ∷ [])) minus_one []
    ∷ call "nvim_buf_del_extmark" (int 0 ∷ int 1 ∷ int 7 ∷ [])
    ∷ call "nvim_buf_del_extmark" (int 0 ∷ int 1 ∷ int 7 ∷ [])
    ∷ set_mark 0 0 []
    ∷ call "nvim_buf_clear_namespace" (int 0 ∷ minus_one ∷ int 0 ∷ minus_one ∷ [])
    ∷ get_all_marks
    ∷ [])
    ≡ ok nil
    ∷ ok (int 1)
    ∷ ok (int 7)
    ∷ ok (array_value (
    array_value (
    int 7
    ∷ int 0
    ∷ int 1
    ∷ dict_value (
    key_with_value "ns_id" (int 1)
    ∷ key_with_value "right_gravity" (truth true)
    ∷ key_with_value "priority" (int 4096)
    ∷ key_with_value "end_row" (int 1)
    ∷ key_with_value "end_col" (int 2)
    ∷ key_with_value "end_right_gravity" (truth false)
    ∷ key_with_value "hl_group" (str "NonText")
    ∷ key_with_value "hl_eol" (truth false)
    ∷ [])
    ∷ [])
    ∷ []))
    ∷ ok (array_value [])
    ∷ ok (truth true)
    ∷ ok (truth false)
    ∷ ok (int 8)
    ∷ ok nil
    ∷ ok (array_value [])
    ∷ []

-- the faults of marks
unfoldable pub MarkFaults : Type 0
MarkFaults =
    results_of (
    set_mark 0 0 []
    ∷ create_namespace
    ∷ set_mark 0 1 []
    ∷ set_mark 0 1 (key_with_value "strict" (truth false) ∷ [])
    ∷ set_mark 1 0 (key_with_value "end_row" (int 0) ∷ [])
    ∷ set_mark 0 0 (key_with_value "end_right_gravity" (truth false) ∷ [])
    ∷ set_mark 0 0 (key_with_value "hl_group" (str "") ∷ [])
    ∷ set_mark 0 0 (key_with_value "hl_group" (int 99) ∷ [])
    ∷ set_mark 0 0 (key_with_value "id" (int 4294967295) ∷ [])
    ∷ set_mark 0 0 []
    ∷ set_mark 0 0 (key_with_value "nope" nil ∷ key_with_value "id" (int 0) ∷ [])
    ∷ get_marks (int 9) minus_one []
    ∷ get_marks (str "x") minus_one []
    ∷ get_marks (array_value (int 0 ∷ integer (negsuc 1) ∷ [])) minus_one []
    ∷ [])
    ≡ fault out_of_bounds
    ∷ ok (int 1)
    ∷ fault out_of_bounds
    ∷ ok (int 1)
    ∷ fault start_after_end
    ∷ refusal 1 8 "Invalid value for key: end_right_gravity"
    ∷ refusal 1 8 "Invalid value for key: name"
    ∷ refusal 0 18 "Unknown name: 99"
    ∷ ok (int 4294967295)
    ∷ refusal 0 12 "No id left"
    ∷ refusal 1 7 "Invalid key: nope"
    ∷ fault out_of_bounds
    ∷ refusal 1 3 "Wrong type for argument 3 when calling nvim_buf_get_extmarks, expecting Object"
    ∷ fault out_of_bounds
    ∷ []

-- namespaces by name, those without one unlisted
unfoldable pub Namespaces : Type 0
Namespaces =
    results_of (
    call "nvim_create_namespace" (str "b" ∷ [])
    ∷ call "nvim_create_namespace" (str "" ∷ [])
    ∷ call "nvim_create_namespace" (str "a" ∷ [])
    ∷ call "nvim_create_namespace" (str "" ∷ [])
    ∷ call "nvim_create_namespace" (str "b" ∷ [])
    ∷ call "nvim_get_namespaces" []
    ∷ [])
    ≡ ok (int 1)
    ∷ ok (int 2)
    ∷ ok (int 3)
    ∷ ok (int 4)
    ∷ ok (int 1)
    ∷ ok (dict_value (key_with_value "a" (int 3) ∷ key_with_value "b" (int 1) ∷ []))
    ∷ []

-- a group put
abbrev set_group : String → List (Tree × Tree) → NamedCall
set_group name entries = call "nvim_set_hl" (int 0 ∷ str name ∷ dict_value entries ∷ [])

abbrev get_group : String → NamedCall
get_group name =
    call "nvim_get_hl" (int 0 ∷ dict_value (key_with_value "name" (str name) ∷ []) ∷ [])

-- groups put and read back: colours as numbers, flags where they are set, a link alone; `default`
-- leaves a group that was put
unfoldable pub HighlightGroups : Type 0
HighlightGroups =
    results_of (
    get_group "EndOfBuffer"
    ∷ get_group "Nope"
    ∷ set_group "Mine" (key_with_value "bold" (truth true) ∷ key_with_value "fg" (str "#0a00Ff")
    ∷ key_with_value "bg" (str "NONE") ∷ key_with_value "ctermbg" (int 3) ∷ [])
    ∷ get_group "Mine"
    ∷ set_group "Mine" (key_with_value "default" (truth true) ∷ key_with_value "fg" (int 1) ∷ [])
    ∷ get_group "Mine"
    ∷ set_group "Other" (key_with_value "link" (str "Third") ∷ key_with_value "bold" (truth true)
    ∷ [])
    ∷ get_group "Other"
    ∷ call "nvim_get_hl_id_by_name" (str "Third" ∷ [])
    ∷ call "nvim_get_hl_id_by_name" (str "Fourth" ∷ [])
    ∷ set_group "Mine" (key_with_value "fg" (str "red") ∷ [])
    ∷ set_group "" (key_with_value "fg" (str "red") ∷ [])
    ∷ call "nvim_set_hl" (int 1 ∷ str "Mine" ∷ no_keys ∷ [])
    ∷ call "nvim_get_hl" (int 0 ∷ no_keys ∷ [])
    ∷ [])
    ≡ ok (dict_value (key_with_value "link" (str "NonText") ∷ []))
    ∷ ok (dict_value [])
    ∷ ok nil
    ∷ ok (dict_value (key_with_value "fg" (int 655615) ∷ key_with_value "ctermbg" (int 3)
    ∷ key_with_value "bold" (truth true) ∷ []))
    ∷ ok nil
    ∷ ok (dict_value (key_with_value "fg" (int 655615) ∷ key_with_value "ctermbg" (int 3)
    ∷ key_with_value "bold" (truth true) ∷ []))
    ∷ ok nil
    ∷ ok (dict_value (key_with_value "link" (str "Third") ∷ []))
    ∷ ok (int 10)
    ∷ ok (int 11)
    ∷ refusal 1 8 "Invalid value for key: fg"
    ∷ refusal 1 8 "Invalid value for key: name"
    ∷ fault out_of_bounds
    ∷ refusal 1 8 "Invalid value for key: name"
    ∷ []
