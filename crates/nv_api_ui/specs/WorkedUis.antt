-- Worked examples: what calls of sessions with UIs answer, computed by the definitions.
use Prim.Native.String.{String}
use Rattle.std.specs.Prelude.{◌≡◌, ℕ, ℤ, pos, negsuc, Bool, true, false, List, [], ◌∷◌, map, codes, Result, Ok, Err}
use Rattle.nv_value.specs.Content.{Tree, nil, truth, integer}
use Rattle.nv_value.specs.declared.fault.ApiFault.{ApiFault}
use Rattle.nv_args.specs.Faults.{invalid_key, invalid_value, out_of_bounds, no_room, limit_reached, not_attached, already_attached}
use Rattle.nv_args.specs.Reading.{Arg, number_arg, string_arg, map_arg, any_arg}
use Rattle.nv_model.specs.Rows.{Row}
use Rattle.nv_model.specs.Seen.{seen_of}
use Rattle.nv_model.specs.Editors.{ModelEditor, fresh_editor}
use Rattle.nv_model.specs.Answers.{Answer, refused, replied, after_answer}
use Rattle.nv_model.specs.Answering.{array_of, key_value, word}
use Rattle.nv_model.specs.declared.parts.Limits.{Limits}
use Rattle.nv_model.specs.declared.parts.Ui.{Ui}
use Rattle.nv_api_ui.specs.UiRows.{ui_dict, nvim_ui_attach, nvim_ui_detach, nvim_ui_try_resize, nvim_ui_set_option, nvim_list_uis}

-- a call of a session: its row, and its arguments as they were read
pub record RowCall : Type 0 where
  pub session : ℕ
  pub row : Row
  pub args : List Arg

-- what an answer replies, or the fault that it refuses with
abbrev pub result_of_answer : Answer → Result Tree ApiFault
result_of_answer (refused fault) = Err fault
result_of_answer (replied reply operations facts) = Ok reply

-- what calls answer one after another, each in the editor that those before it left
abbrev pub replies_after : ModelEditor → Answer → (ModelEditor → List (Result Tree ApiFault))
    → List (Result Tree ApiFault)
replies_after m answer rest = result_of_answer answer ∷ rest (after_answer answer m)

abbrev pub replies_from : ModelEditor → List RowCall → List (Result Tree ApiFault)
replies_from m [] = []
replies_from m (c ∷ cs) =
    replies_after m (c.row (seen_of m) c.session c.args) (λ later. replies_from later cs)

-- an editor that takes so many UIs, and few of all else
abbrev pub few_of_each : ℕ → Limits
few_of_each uis = record {
  lines = 10;
  line_bytes = 10;
  marks = 10;
  buffers = 10;
  windows = 10;
  namespaces = 10;
  groups = 10;
  uis = uis;
  ticks = pos 10;
  entries = 10;
}

-- the answers to calls to a fresh editor that takes so many UIs
abbrev pub replies_of : ℕ → List RowCall → List (Result Tree ApiFault)
replies_of uis calls = replies_from (fresh_editor (few_of_each uis)) calls

-- calls of a session
abbrev pub attaches : ℕ → ℤ → ℤ → List (Tree × Tree) → RowCall
attaches session width height options = record {
  session = session;
  row = nvim_ui_attach;
  args = number_arg width ∷ number_arg height ∷ map_arg options ∷ [];
}

abbrev pub detaches : ℕ → RowCall
detaches session = record { session = session; row = nvim_ui_detach; args = [] }

abbrev pub resizes : ℕ → ℤ → ℤ → RowCall
resizes session width height = record {
  session = session;
  row = nvim_ui_try_resize;
  args = number_arg width ∷ number_arg height ∷ [];
}

abbrev pub sets_option : ℕ → String → Tree → RowCall
sets_option session name value = record {
  session = session;
  row = nvim_ui_set_option;
  args = string_arg (codes name) ∷ any_arg value ∷ [];
}

abbrev pub lists : RowCall
lists = record { session = 1; row = nvim_list_uis; args = [] }

-- the option that must be given
abbrev pub linegrid : List (Tree × Tree)
linegrid = key_value "ext_linegrid" (truth true) ∷ []

-- what is replied, and what refuses
abbrev pub succeeds : Result Tree ApiFault
succeeds = Ok nil

abbrev pub fails : ApiFault → Result Tree ApiFault
fails fault = Err fault

abbrev pub told_uis : List Ui → Result Tree ApiFault
told_uis uis = Ok (array_of (map ui_dict uis))

abbrev pub ui_of_size : ℕ → ℕ → ℕ → Bool → Ui
ui_of_size session width height rgb =
    record { session = session; width = width; height = height; rgb = rgb; many = false }

-- UIs are told by rising sessions, each with the size that was asked for; `rgb` is kept, another
-- option has no effect
unfoldable pub UisAreListed : Type 0
UisAreListed =
    replies_of 10 (
    attaches 3 (pos 40) (pos 12) linegrid
    ∷ attaches 1 (pos 25) (pos 20) (key_value "rgb" (truth false) ∷ linegrid)
    ∷ lists
    ∷ resizes 3 (pos 30) (pos 9)
    ∷ sets_option 1 "rgb" (truth true)
    ∷ sets_option 1 "ext_popupmenu" (truth true)
    ∷ lists
    ∷ detaches 1
    ∷ lists
    ∷ [])
    ≡ succeeds
    ∷ succeeds
    ∷ told_uis (ui_of_size 1 25 20 false ∷ ui_of_size 3 40 12 true ∷ [])
    ∷ succeeds
    ∷ succeeds
    ∷ succeeds
    ∷ told_uis (ui_of_size 1 25 20 true ∷ ui_of_size 3 30 9 true ∷ [])
    ∷ succeeds
    ∷ told_uis (ui_of_size 3 30 9 true ∷ [])
    ∷ []

-- an option that isn't known, or doesn't take its value, or must be given, is told before a size,
-- and that before a UI that is missing
unfoldable pub OptionFaults : Type 0
OptionFaults =
    replies_of 10 (
    attaches 1 (pos 0) (pos 0) []
    ∷ attaches 1 (pos 40) (pos 12) (key_value "ext_linegrid" (truth false) ∷ [])
    ∷ attaches 1 (pos 0) (pos 12) (key_value "rgb" (word "x") ∷ key_value "q" nil ∷ [])
    ∷ attaches 1 (pos 0) (pos 12) (key_value "rgb" (word "x") ∷ [])
    ∷ attaches 1 (pos 40) (pos 12)
    (key_value "term_name" (word "x") ∷ key_value "override" (integer (pos 2)) ∷ linegrid)
    ∷ sets_option 1 "nope" (truth true)
    ∷ sets_option 1 "ext_linegrid" (truth false)
    ∷ sets_option 1 "ext_linegrid" (truth true)
    ∷ sets_option 1 "term_colors" (truth true)
    ∷ sets_option 2 "nope" (truth true)
    ∷ sets_option 2 "rgb" (truth true)
    ∷ [])
    ≡ fails (invalid_value (codes "ext_linegrid"))
    ∷ fails (invalid_value (codes "ext_linegrid"))
    ∷ fails (invalid_key (codes "q"))
    ∷ fails (invalid_value (codes "rgb"))
    ∷ succeeds
    ∷ fails (invalid_key (codes "nope"))
    ∷ fails (invalid_value (codes "ext_linegrid"))
    ∷ succeeds
    ∷ fails (invalid_value (codes "term_colors"))
    ∷ fails (invalid_key (codes "nope"))
    ∷ fails not_attached
    ∷ []

-- a size out of its range, one that has no room for a window and its status line, and a session
-- that has a UI already, or none
unfoldable pub SizeFaults : Type 0
SizeFaults =
    replies_of 10 (
    attaches 1 (pos 0) (pos 12) linegrid
    ∷ attaches 1 (pos 2001) (pos 12) linegrid
    ∷ attaches 1 (pos 40) (pos 1001) linegrid
    ∷ attaches 1 (pos 40) (pos 1) linegrid
    ∷ attaches 1 (pos 40) (pos 2) linegrid
    ∷ attaches 1 (pos 1) (pos 3) linegrid
    ∷ attaches 1 (pos 40) (pos 2) linegrid
    ∷ attaches 1 (pos 40) (pos 12) linegrid
    ∷ resizes 1 (negsuc 0) (pos 12)
    ∷ resizes 1 (pos 40) (pos 2)
    ∷ resizes 2 (pos 40) (pos 2)
    ∷ resizes 2 (pos 40) (pos 12)
    ∷ detaches 2
    ∷ detaches 1
    ∷ detaches 1
    ∷ [])
    ≡ fails out_of_bounds
    ∷ fails out_of_bounds
    ∷ fails out_of_bounds
    ∷ fails no_room
    ∷ fails no_room
    ∷ succeeds
    ∷ fails no_room
    ∷ fails already_attached
    ∷ fails out_of_bounds
    ∷ fails no_room
    ∷ fails no_room
    ∷ fails not_attached
    ∷ fails not_attached
    ∷ succeeds
    ∷ fails not_attached
    ∷ []

-- where one UI is allowed a further session gets none, and the session that has it is told so
unfoldable pub OneUiIsAllowed : Type 0
OneUiIsAllowed =
    replies_of 1 (
    attaches 1 (pos 40) (pos 12) linegrid
    ∷ attaches 2 (pos 40) (pos 12) linegrid
    ∷ attaches 1 (pos 40) (pos 12) linegrid
    ∷ detaches 1
    ∷ attaches 2 (pos 40) (pos 12) linegrid
    ∷ [])
    ≡ succeeds ∷ fails limit_reached ∷ fails already_attached ∷ succeeds ∷ succeeds ∷ []

-- the editor that calls leave, and the columns and rows of its screen
abbrev pub editor_left : ModelEditor → List RowCall → ModelEditor
editor_left m [] = m
editor_left m (c ∷ cs) = editor_left (after_answer (c.row (seen_of m) c.session c.args) m) cs

abbrev pub screen_size : ModelEditor → ℕ × ℕ
screen_size m = (m.stage.workspace.width, m.stage.workspace.height)

abbrev pub screen_left : List RowCall → ℕ × ℕ
screen_left calls = screen_size (editor_left (fresh_editor (few_of_each 10)) calls)

-- the screen has the least width by the least height of the UIs, and keeps them without one
unfoldable pub ScreenIsShared : Type 0
ScreenIsShared =
    (screen_left (attaches 3 (pos 40) (pos 12) linegrid ∷ attaches 1 (pos 25) (pos 20) linegrid
    ∷ [])
    ≡ (25, 12))
    × (screen_left (attaches 3 (pos 40) (pos 12) linegrid ∷ attaches 1 (pos 25) (pos 20) linegrid
    ∷ detaches 3 ∷ [])
    ≡ (25, 20))
    × (screen_left (attaches 3 (pos 40) (pos 12) linegrid ∷ detaches 3 ∷ []) ≡ (40, 12))
