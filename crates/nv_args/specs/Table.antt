-- The methods of the API as a table: what each is called, which method it is, what it takes and
-- gives, and whether it may change what is seen (help: api, api-metadata; the help tag of each
-- method is its name).
use Prim.Native.String.{String}
use Rattle.std.specs.Prelude.{ℕ, Bool, true, false, List, [], ◌∷◌, ◌++◌, Option, Some, None, codes, bytes_eq, find, position}
use Rattle.std.specs.Option.{option_or}
use Rattle.nv_args.specs.declared.methods.Method.{Method}
use Rattle.nv_args.specs.declared.methods.Method.TheVariants.{Atomic, PassedOver, Buffer, Mark, Window, Ui}
use Rattle.nv_args.specs.declared.methods.BufferMethod.TheVariants.{GetApiInfo, SetClientInfo, Command, GetOptionValue, SetOptionValue, ListBufs, GetCurrentBuf, SetCurrentBuf, CreateBuf, BufDelete, BufIsValid, BufGetName, BufSetName, BufLineCount, BufGetChangedtick, BufGetOffset, BufGetLines, BufSetLines, BufGetText, BufSetText, BufAttach, BufDetach}
use Rattle.nv_args.specs.declared.methods.MarkMethod.TheVariants.{CreateNamespace, GetNamespaces, BufSetExtmark, BufDelExtmark, BufGetExtmarkById, BufGetExtmarks, BufClearNamespace, SetHl, GetHl, GetHlIdByName}
use Rattle.nv_args.specs.declared.methods.WindowMethod.TheVariants.{ListWins, GetCurrentWin, SetCurrentWin, OpenWin, WinClose, WinIsValid, WinGetBuf, WinSetBuf, WinGetCursor, WinSetCursor, WinGetHeight, WinGetWidth, WinSetHeight, WinSetWidth, WinGetPosition, WinGetTabpage, ListTabpages, GetCurrentTabpage, SetCurrentTabpage, TabpageIsValid, TabpageListWins, TabpageGetWin, TabpageGetNumber}
use Rattle.nv_args.specs.declared.methods.UiMethod.TheVariants.{Strwidth, UiAttach, UiDetach, UiTryResize, UiSetOption, ListUis}

-- What a parameter takes (help: api-types). A handle may be its number alone.
pub data Kind : Type 0 where
  integer_type boolean string array dict object : Kind
  buffer window tabpage : Kind
  -- an Integer, or a handle
  buffer_id window_id tabpage_id : Kind
  -- an Array of Strings, of two Integers, of calls
  lines cursor call_list : Kind
  -- an Object that is an Integer, or an Array of two
  mark_place : Kind

-- a parameter: what it takes, and its name
pub record Parameter : Type 0 where
  pub kind : Kind
  pub name : List ℕ

-- a method: its name, which it is, its parameters, the type of its result where it has one, and
-- whether it may change what is seen
pub record Signature : Type 0 where
  pub name : List ℕ
  pub method : Method
  pub parameters : List Parameter
  pub result : Option Kind
  pub is_seen : Bool

-- the type of a parameter, as it is told (help: api-types)
abbrev pub type_name : Kind → List ℕ
type_name integer_type = codes "Integer"
type_name boolean = codes "Boolean"
type_name string = codes "String"
type_name array = codes "Array"
type_name dict = codes "Dict"
type_name object = codes "Object"
type_name buffer = codes "Buffer"
type_name window = codes "Window"
type_name tabpage = codes "Tabpage"
type_name buffer_id = codes "Integer"
type_name window_id = codes "Integer"
type_name tabpage_id = codes "Integer"
type_name lines = codes "Array"
type_name cursor = codes "Array"
type_name call_list = codes "Array"
type_name mark_place = codes "Object"

-- the type of a result, as it is told
abbrev pub result_name : Option Kind → List ℕ
result_name (Some kind) = type_name kind
result_name None = codes "void"

-- a parameter of the table
abbrev takes : Kind → String → Parameter
takes kind name = record { kind = kind; name = codes name }

-- a method that gives a result and changes nothing that is seen
abbrev reads : String → Method → List Parameter → Kind → Signature
reads name method parameters kind = record {
  name = codes name;
  method = method;
  parameters = parameters;
  result = Some kind;
  is_seen = false;
}

-- a method that gives nil and changes nothing that is seen
abbrev acts : String → Method → List Parameter → Signature
acts name method parameters = record {
  name = codes name;
  method = method;
  parameters = parameters;
  result = None;
  is_seen = false;
}

-- a method that gives a result and may change what is seen
abbrev creates : String → Method → List Parameter → Kind → Signature
creates name method parameters kind =
    record (reads name method parameters kind) { is_seen = true }

-- a method that gives nil and may change what is seen
abbrev changes : String → Method → List Parameter → Signature
changes name method parameters = record (acts name method parameters) { is_seen = true }

-- the methods on the editor as a whole (help: api-global)
abbrev pub global_methods : List Signature
global_methods =
    reads "nvim_get_api_info" (Buffer GetApiInfo) [] array
    ∷ acts "nvim_set_client_info" (Buffer SetClientInfo) (takes string "name" ∷ takes dict "version"
    ∷ takes string "type" ∷ takes dict "methods" ∷ takes dict "attributes" ∷ [])
    ∷ reads "nvim_call_atomic" Atomic (takes call_list "calls" ∷ []) array
    ∷ changes "nvim_command" (Buffer Command) (takes string "command" ∷ [])
    ∷ reads "nvim_strwidth" (Ui Strwidth) (takes string "text" ∷ []) integer_type
    ∷ reads "nvim_get_option_value" (Buffer GetOptionValue) (takes string "name" ∷ takes dict "opts"
    ∷ []) object
    ∷ changes "nvim_set_option_value" (Buffer SetOptionValue) (takes string "name"
    ∷ takes object "value" ∷ takes dict "opts" ∷ [])
    ∷ reads "nvim_list_bufs" (Buffer ListBufs) [] array
    ∷ reads "nvim_get_current_buf" (Buffer GetCurrentBuf) [] buffer
    ∷ changes "nvim_set_current_buf" (Buffer SetCurrentBuf) (takes buffer "buffer" ∷ [])
    ∷ reads "nvim_create_buf" (Buffer CreateBuf) (takes boolean "listed" ∷ takes boolean "scratch"
    ∷ []) buffer
    ∷ []

-- the methods on the text of one buffer (help: api-buffer)
abbrev pub buffer_methods : List Signature
buffer_methods =
    changes "nvim_buf_delete" (Buffer BufDelete) (takes buffer "buffer" ∷ takes dict "opts" ∷ [])
    ∷ reads "nvim_buf_is_valid" (Buffer BufIsValid) (takes buffer_id "buffer" ∷ []) boolean
    ∷ reads "nvim_buf_get_name" (Buffer BufGetName) (takes buffer "buffer" ∷ []) string
    ∷ changes "nvim_buf_set_name" (Buffer BufSetName) (takes buffer "buffer" ∷ takes string "name"
    ∷ [])
    ∷ reads "nvim_buf_line_count" (Buffer BufLineCount) (takes buffer "buffer" ∷ []) integer_type
    ∷ reads "nvim_buf_get_changedtick" (Buffer BufGetChangedtick) (takes buffer "buffer" ∷ [])
    integer_type
    ∷ reads "nvim_buf_get_offset" (Buffer BufGetOffset) (takes buffer "buffer"
    ∷ takes integer_type "index" ∷ []) integer_type
    ∷ reads "nvim_buf_get_lines" (Buffer BufGetLines) (takes buffer "buffer"
    ∷ takes integer_type "start" ∷ takes integer_type "end" ∷ takes boolean "strict_indexing" ∷ [])
    array
    ∷ changes "nvim_buf_set_lines" (Buffer BufSetLines) (takes buffer "buffer"
    ∷ takes integer_type "start" ∷ takes integer_type "end" ∷ takes boolean "strict_indexing"
    ∷ takes lines "replacement" ∷ [])
    ∷ reads "nvim_buf_get_text" (Buffer BufGetText) (takes buffer "buffer"
    ∷ takes integer_type "start_row" ∷ takes integer_type "start_col" ∷ takes integer_type "end_row"
    ∷ takes integer_type "end_col" ∷ takes dict "opts" ∷ []) array
    ∷ changes "nvim_buf_set_text" (Buffer BufSetText) (takes buffer "buffer"
    ∷ takes integer_type "start_row" ∷ takes integer_type "start_col" ∷ takes integer_type "end_row"
    ∷ takes integer_type "end_col" ∷ takes lines "replacement" ∷ [])
    ∷ reads "nvim_buf_attach" (Buffer BufAttach) (takes buffer "buffer"
    ∷ takes boolean "send_buffer" ∷ takes dict "opts" ∷ []) boolean
    ∷ reads "nvim_buf_detach" (Buffer BufDetach) (takes buffer "buffer" ∷ []) boolean
    ∷ []

-- the methods on namespaces, marks and highlight groups (help: api-extended-marks, api-highlights)
abbrev pub mark_methods : List Signature
mark_methods =
    reads "nvim_create_namespace" (Mark CreateNamespace) (takes string "name" ∷ []) integer_type
    ∷ reads "nvim_get_namespaces" (Mark GetNamespaces) [] dict
    ∷ creates "nvim_buf_set_extmark" (Mark BufSetExtmark) (takes buffer "buffer"
    ∷ takes integer_type "ns_id" ∷ takes integer_type "line" ∷ takes integer_type "col"
    ∷ takes dict "opts" ∷ []) integer_type
    ∷ creates "nvim_buf_del_extmark" (Mark BufDelExtmark) (takes buffer "buffer"
    ∷ takes integer_type "ns_id" ∷ takes integer_type "id" ∷ []) boolean
    ∷ reads "nvim_buf_get_extmark_by_id" (Mark BufGetExtmarkById) (takes buffer "buffer"
    ∷ takes integer_type "ns_id" ∷ takes integer_type "id" ∷ takes dict "opts" ∷ []) array
    ∷ reads "nvim_buf_get_extmarks" (Mark BufGetExtmarks) (takes buffer "buffer"
    ∷ takes integer_type "ns_id" ∷ takes mark_place "start" ∷ takes mark_place "end"
    ∷ takes dict "opts" ∷ []) array
    ∷ changes "nvim_buf_clear_namespace" (Mark BufClearNamespace) (takes buffer "buffer"
    ∷ takes integer_type "ns_id" ∷ takes integer_type "line_start" ∷ takes integer_type "line_end"
    ∷ [])
    ∷ changes "nvim_set_hl" (Mark SetHl) (takes integer_type "ns_id" ∷ takes string "name"
    ∷ takes dict "val" ∷ [])
    ∷ reads "nvim_get_hl" (Mark GetHl) (takes integer_type "ns_id" ∷ takes dict "opts" ∷ []) dict
    ∷ reads "nvim_get_hl_id_by_name" (Mark GetHlIdByName) (takes string "name" ∷ []) integer_type
    ∷ []

-- the methods on windows and tabpages (help: api-window, api-tabpage, api-win_config)
abbrev pub window_methods : List Signature
window_methods =
    reads "nvim_list_wins" (Window ListWins) [] array
    ∷ reads "nvim_get_current_win" (Window GetCurrentWin) [] window
    ∷ changes "nvim_set_current_win" (Window SetCurrentWin) (takes window "window" ∷ [])
    ∷ creates "nvim_open_win" (Window OpenWin) (takes buffer "buffer" ∷ takes boolean "enter"
    ∷ takes dict "config" ∷ []) window
    ∷ changes "nvim_win_close" (Window WinClose) (takes window "window" ∷ takes boolean "force"
    ∷ [])
    ∷ reads "nvim_win_is_valid" (Window WinIsValid) (takes window_id "window" ∷ []) boolean
    ∷ reads "nvim_win_get_buf" (Window WinGetBuf) (takes window "window" ∷ []) buffer
    ∷ changes "nvim_win_set_buf" (Window WinSetBuf) (takes window "window" ∷ takes buffer "buffer"
    ∷ [])
    ∷ reads "nvim_win_get_cursor" (Window WinGetCursor) (takes window "window" ∷ []) array
    ∷ changes "nvim_win_set_cursor" (Window WinSetCursor) (takes window "window"
    ∷ takes cursor "pos" ∷ [])
    ∷ reads "nvim_win_get_height" (Window WinGetHeight) (takes window "window" ∷ []) integer_type
    ∷ reads "nvim_win_get_width" (Window WinGetWidth) (takes window "window" ∷ []) integer_type
    ∷ changes "nvim_win_set_height" (Window WinSetHeight) (takes window "window"
    ∷ takes integer_type "height" ∷ [])
    ∷ changes "nvim_win_set_width" (Window WinSetWidth) (takes window "window"
    ∷ takes integer_type "width" ∷ [])
    ∷ reads "nvim_win_get_position" (Window WinGetPosition) (takes window "window" ∷ []) array
    ∷ reads "nvim_win_get_tabpage" (Window WinGetTabpage) (takes window "window" ∷ []) tabpage
    ∷ reads "nvim_list_tabpages" (Window ListTabpages) [] array
    ∷ reads "nvim_get_current_tabpage" (Window GetCurrentTabpage) [] tabpage
    ∷ changes "nvim_set_current_tabpage" (Window SetCurrentTabpage) (takes tabpage "tabpage" ∷ [])
    ∷ reads "nvim_tabpage_is_valid" (Window TabpageIsValid) (takes tabpage_id "tabpage" ∷ [])
    boolean
    ∷ reads "nvim_tabpage_list_wins" (Window TabpageListWins) (takes tabpage "tabpage" ∷ []) array
    ∷ reads "nvim_tabpage_get_win" (Window TabpageGetWin) (takes tabpage "tabpage" ∷ []) window
    ∷ reads "nvim_tabpage_get_number" (Window TabpageGetNumber) (takes tabpage "tabpage" ∷ [])
    integer_type
    ∷ []

-- the methods of a UI (help: api-ui)
abbrev pub ui_methods : List Signature
ui_methods =
    changes "nvim_ui_attach" (Ui UiAttach) (takes integer_type "width" ∷ takes integer_type "height"
    ∷ takes dict "options" ∷ [])
    ∷ changes "nvim_ui_detach" (Ui UiDetach) []
    ∷ changes "nvim_ui_try_resize" (Ui UiTryResize) (takes integer_type "width"
    ∷ takes integer_type "height" ∷ [])
    ∷ acts "nvim_ui_set_option" (Ui UiSetOption) (takes string "name" ∷ takes object "value" ∷ [])
    ∷ reads "nvim_list_uis" (Ui ListUis) [] array
    ∷ []

-- all methods, in the order in which they are told (help: nvim_get_api_info())
abbrev pub table : List Signature
table = global_methods ++ buffer_methods ++ mark_methods ++ window_methods ++ ui_methods

-- Names that real clients use, of which nothing is told (own choice): two methods by their old
-- names (help: deprecated), and what a client answers a notification with that it doesn't know.
abbrev pub other_names : List Signature
other_names =
    reads "vim_get_api_info" (Buffer GetApiInfo) [] array
    ∷ changes "ui_try_resize" (Ui UiTryResize)
    (takes integer_type "width" ∷ takes integer_type "height" ∷ [])
    ∷ acts "nvim_error_event" PassedOver []
    ∷ []

-- the first signature of this name
abbrev pub signature_among : List ℕ → List Signature → Option Signature
signature_among name signatures = find (λ signature. bytes_eq name signature.name) signatures

-- the method of this name; none where neither table has it
abbrev pub method_named : List ℕ → Option Signature
method_named name = option_or (signature_among name table) (signature_among name other_names)

-- all names, and the place of one among them, from 0
abbrev pub all_names : List Signature
all_names = table ++ other_names

abbrev pub place_of_name : List ℕ → Option ℕ
place_of_name name = position (λ signature. bytes_eq name signature.name) all_names
