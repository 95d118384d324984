-- The methods of UIs (help: api-ui; the help tag of each is its name), and the cells of a text.
use Rattle.std.specs.Prelude.{ℕ, ◌==◌, Bool, not, ◌&&◌, nat_le, List, [], ◌∷◌, length, map, find, Option, option_map, option_and_then, unwrap_or}
use Rattle.nv_value.specs.Content.{Tree, nil, truth}
use Rattle.nv_msgpack.specs.Spelling.{unsigned_number}
use Rattle.nv_args.specs.Arguments.{last_pairs}
use Rattle.nv_args.specs.Faults.{out_of_bounds, no_room, limit_reached, not_attached, already_attached}
use Rattle.nv_args.specs.KeyValues.{number_between}
use Rattle.nv_args.specs.Maps.{map_fault}
use Rattle.nv_args.specs.Reading.{Arg, number_at, string_at, pairs_at, object_at}
use Rattle.nv_text.specs.Pieces.{strwidth_of}
use Rattle.nv_model.specs.Stage.{Stage}
use Rattle.nv_model.specs.Seen.{Seen}
use Rattle.nv_model.specs.Operations.{ui_put, uis_dropped}
use Rattle.nv_model.specs.Answers.{Answer, replied, unless, or_refused}
use Rattle.nv_model.specs.Answering.{reply_of, fault_or, array_of, natural, key_value, dict_of}
use Rattle.nv_model.specs.declared.parts.Ui.{Ui}
use Rattle.nv_editor.specs.Uis.{has_ui, ui_fits}
use Rattle.nv_api_ui.specs.UiOptions.{ui_keys, attached_ui, ui_option_fault, with_ui_option}
use Rattle.nv_args.specs.declared.methods.UiMethod.{UiMethod}
use Rattle.nv_args.specs.declared.methods.UiMethod.TheVariants.{Strwidth, UiAttach, UiDetach, UiTryResize, UiSetOption, ListUis}
use Rattle.nv_model.specs.Kinds.{Effects, no_effects, making, puts_uis, drops_uis}
use Rattle.nv_model.specs.Rows.{Row}

-- a UI with another width, from 1 to 2000 columns, and with another height, from 1 to 1000 rows
-- (own rule)
abbrev pub with_ui_width : List Arg → Ui → Option Ui
with_ui_width args ui =
    option_map (λ width. record ui { width = width }) (number_between 1 2000 (number_at args 0))

abbrev pub with_ui_height : List Arg → Ui → Option Ui
with_ui_height args ui =
    option_map (λ height. record ui { height = height }) (number_between 1 1000 (number_at args 1))

-- a UI with the width and the height of the first two arguments
abbrev pub sized_ui : List Arg → Ui → Option Ui
sized_ui args ui = option_and_then (with_ui_height args) (with_ui_width args ui)

-- the UI of a session, where it has one
abbrev pub ui_of : ℕ → List Ui → Option Ui
ui_of session uis = find (λ u. u.session == session) uis

-- whether the UI of a further session would pass the limit
abbrev pub uis_are_full : ℕ → Stage → Bool
uis_are_full session stage =
    not (has_ui session stage.uis) && nat_le stage.limits.uis (length stage.uis)

-- a UI attached
abbrev pub attaching_answer : Stage → Ui → Answer
attaching_answer stage ui =
    unless (
    (not (ui_fits ui stage), no_room)
    ∷ (uis_are_full ui.session stage, limit_reached)
    ∷ (has_ui ui.session stage.uis, already_attached)
    ∷ [])
    (replied nil (ui_put ui ∷ []) [])

-- nvim_ui_attach(width, height, options): the session gets a UI
abbrev pub nvim_ui_attach : Seen → ℕ → List Arg → Answer
nvim_ui_attach s session args =
    fault_or (map_fault ui_keys (last_pairs (pairs_at args 2))) (
    or_refused (sized_ui args (attached_ui session (last_pairs (pairs_at args 2)))) out_of_bounds
    (attaching_answer s.stage))

-- nvim_ui_detach(): the session has no UI any more
abbrev pub nvim_ui_detach : Seen → ℕ → List Arg → Answer
nvim_ui_detach s session args =
    unless ((not (has_ui session s.stage.uis), not_attached) ∷ [])
    (replied nil (uis_dropped (session ∷ []) ∷ []) [])

-- the UI of a session, and one attached without options where it has none: whether its size fits is
-- looked at before whether it is there (own rule)
abbrev pub ui_or_new : ℕ → List Ui → Ui
ui_or_new session uis = unwrap_or (ui_of session uis) (attached_ui session [])

-- a UI put with another size
abbrev pub resizing_answer : Stage → Ui → Answer
resizing_answer stage ui =
    unless (
    (not (ui_fits ui stage), no_room)
    ∷ (not (has_ui ui.session stage.uis), not_attached)
    ∷ [])
    (replied nil (ui_put ui ∷ []) [])

-- nvim_ui_try_resize(width, height): the session's UI gets another size
abbrev pub nvim_ui_try_resize : Seen → ℕ → List Arg → Answer
nvim_ui_try_resize s session args =
    or_refused (sized_ui args (ui_or_new session s.stage.uis)) out_of_bounds
    (resizing_answer s.stage)

-- the UI of a session put with a value given for one of its options
abbrev pub setting_answer : Stage → ℕ → List ℕ → Tree → Answer
setting_answer stage session name value =
    or_refused (ui_of session stage.uis) not_attached (λ ui.
    replied nil (ui_put (with_ui_option name value ui) ∷ []) [])

-- nvim_ui_set_option(name, value): an option of the session's UI is put
abbrev pub nvim_ui_set_option : Seen → ℕ → List Arg → Answer
nvim_ui_set_option s session args =
    fault_or (ui_option_fault (string_at args 0) (object_at args 1))
    (setting_answer s.stage session (string_at args 0) (object_at args 1))

-- a UI as it is told: its session, the size that was asked for, and whether colours have 24 bits
abbrev pub ui_dict : Ui → Tree
ui_dict ui =
    dict_of (
    key_value "chan" (unsigned_number ui.session)
    ∷ key_value "width" (natural ui.width)
    ∷ key_value "height" (natural ui.height)
    ∷ key_value "rgb" (truth ui.rgb)
    ∷ [])

-- nvim_list_uis(): the UIs by rising sessions
abbrev pub nvim_list_uis : Seen → ℕ → List Arg → Answer
nvim_list_uis s session args = reply_of (array_of (map ui_dict s.stage.uis))

-- nvim_strwidth(text): the cells that it takes on a line by itself
abbrev pub nvim_strwidth : Seen → ℕ → List Arg → Answer
nvim_strwidth s session args = reply_of (unsigned_number (strwidth_of (string_at args 0)))

-- the methods of UIs, and the cells of a text
abbrev pub ui_row : UiMethod → Row
ui_row Strwidth = nvim_strwidth
ui_row UiAttach = nvim_ui_attach
ui_row UiDetach = nvim_ui_detach
ui_row UiTryResize = nvim_ui_try_resize
ui_row UiSetOption = nvim_ui_set_option
ui_row ListUis = nvim_list_uis

-- the kinds of operations that each makes, and of facts that it tells
abbrev pub ui_effects : UiMethod → Effects
ui_effects UiAttach = making (puts_uis ∷ [])
ui_effects UiDetach = making (drops_uis ∷ [])
ui_effects UiTryResize = making (puts_uis ∷ [])
ui_effects UiSetOption = making (puts_uis ∷ [])
ui_effects _ = no_effects
