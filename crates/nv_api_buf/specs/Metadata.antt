-- What the server tells of its API (help: api-metadata, nvim_get_api_info(), ui-events). Its
-- version numbers, those of `since` and the choice of keys are its own.
use Prim.Native.String.{String}
use Rattle.std.specs.Prelude.{ℕ, Bool, false, ◌||◌, List, [], ◌∷◌, ◌++◌, length, take, map, codes, bytes_eq}
use Rattle.nv_value.specs.Content.{Tree, nil, truth, text}
use Rattle.nv_msgpack.specs.Spelling.{unsigned_number}
use Rattle.nv_args.specs.Table.{Parameter, Signature, type_name, result_name, table}
use Rattle.nv_args.specs.Reading.{Arg}
use Rattle.nv_model.specs.Seen.{Seen}
use Rattle.nv_model.specs.Answers.{Answer}
use Rattle.nv_model.specs.Answering.{reply_of, array_of, natural, word, key_value, dict_of}

-- the server's version
abbrev pub version : Tree
version =
    dict_of (
    key_value "major" (natural 0)
    ∷ key_value "minor" (natural 11)
    ∷ key_value "patch" (natural 0)
    ∷ key_value "api_level" (natural 13)
    ∷ key_value "api_compatible" (natural 0)
    ∷ key_value "api_prerelease" (truth false)
    ∷ [])

-- whether a name begins so
abbrev pub begins_with : List ℕ → String → Bool
begins_with name front = bytes_eq (take (length (codes front)) name) (codes front)

-- whether a method is one of a buffer, a window or a tabpage, by its name
abbrev pub is_method : List ℕ → Bool
is_method name =
    begins_with name "nvim_buf_" || begins_with name "nvim_win_" || begins_with name "nvim_tabpage_"

-- a parameter: its type and its name
abbrev pub parameter : Parameter → Tree
parameter p = array_of (text (type_name p.kind) ∷ text p.name ∷ [])

abbrev pub function : Signature → Tree
function f =
    dict_of (
    key_value "name" (text f.name)
    ∷ key_value "since" (natural 1)
    ∷ key_value "method" (truth (is_method f.name))
    ∷ key_value "parameters" (array_of (map parameter f.parameters))
    ∷ key_value "return_type" (text (result_name f.result))
    ∷ [])

-- an event of a UI: its name, and its parameters as their types and names
abbrev pub event_parameters : String → List String → List Tree
event_parameters kind [] = []
event_parameters kind (name ∷ names) =
    array_of (word kind ∷ word name ∷ []) ∷ event_parameters kind names

abbrev pub ui_event : String → List Tree → Tree
ui_event name parameters =
    dict_of (key_value "name" (word name) ∷ key_value "since" (natural 1)
    ∷ key_value "parameters" (array_of parameters) ∷ [])

abbrev pub ui_events : List Tree
ui_events =
    ui_event "grid_resize" (event_parameters "Integer" ("grid" ∷ "width" ∷ "height" ∷ []))
    ∷ ui_event "default_colors_set"
    (event_parameters "Integer" ("rgb_fg" ∷ "rgb_bg" ∷ "rgb_sp" ∷ "cterm_fg" ∷ "cterm_bg" ∷ []))
    ∷ ui_event "hl_attr_define" (event_parameters "Integer" ("id" ∷ [])
    ++ event_parameters "Dict" ("rgb_attr" ∷ "cterm_attr" ∷ [])
    ++ event_parameters "Array" ("info" ∷ []))
    ∷ ui_event "grid_clear" (event_parameters "Integer" ("grid" ∷ []))
    ∷ ui_event "grid_scroll" (event_parameters "Integer"
    ("grid" ∷ "top" ∷ "bot" ∷ "left" ∷ "right" ∷ "rows" ∷ "cols" ∷ []))
    ∷ ui_event "grid_line" (event_parameters "Integer" ("grid" ∷ "row" ∷ "col_start" ∷ [])
    ++ event_parameters "Array" ("cells" ∷ []) ++ event_parameters "Boolean" ("wrap" ∷ []))
    ∷ ui_event "grid_cursor_goto" (event_parameters "Integer" ("grid" ∷ "row" ∷ "col" ∷ []))
    ∷ ui_event "flush" []
    ∷ []

-- a type of handles: its number, and how the names of its methods begin
abbrev pub handle_type : ℕ → String → Tree
handle_type n prefix = dict_of (key_value "id" (natural n) ∷ key_value "prefix" (word prefix) ∷ [])

abbrev pub handle_types : Tree
handle_types =
    dict_of (
    key_value "Buffer" (handle_type 0 "nvim_buf_")
    ∷ key_value "Window" (handle_type 1 "nvim_win_")
    ∷ key_value "Tabpage" (handle_type 2 "nvim_tabpage_")
    ∷ [])

-- a type of errors: its number
abbrev pub error_type : ℕ → Tree
error_type n = dict_of (key_value "id" (natural n) ∷ [])

abbrev pub error_types : Tree
error_types =
    dict_of (
    key_value "Exception" (error_type 0)
    ∷ key_value "Validation" (error_type 1)
    ∷ [])

abbrev pub ui_options : Tree
ui_options = array_of (word "rgb" ∷ word "ext_linegrid" ∷ [])

abbrev pub metadata : Tree
metadata =
    dict_of (
    key_value "version" version
    ∷ key_value "functions" (array_of (map function table))
    ∷ key_value "ui_events" (array_of ui_events)
    ∷ key_value "ui_options" ui_options
    ∷ key_value "types" handle_types
    ∷ key_value "error_types" error_types
    ∷ [])

-- nvim_get_api_info(): the session's number and the metadata
abbrev pub nvim_get_api_info : Seen → ℕ → List Arg → Answer
nvim_get_api_info s session args =
    reply_of (array_of (unsigned_number session ∷ metadata ∷ []))

-- nvim_set_client_info(name, version, type, methods, attributes): nothing is kept (own rule)
abbrev pub nvim_set_client_info : Seen → ℕ → List Arg → Answer
nvim_set_client_info s session args = reply_of nil
