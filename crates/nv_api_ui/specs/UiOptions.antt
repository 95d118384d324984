-- The options of a UI (help: ui-option, nvim_ui_attach(), nvim_ui_set_option()).
use Rattle.std.specs.Prelude.{ℕ, true, false, List, [], ◌∷◌, codes, bytes_eq, Option, Some, None, unwrap_or, if◌then◌else◌}
use Rattle.nv_value.specs.Content.{Tree}
use Rattle.nv_value.specs.declared.fault.ApiFault.{ApiFault}
use Rattle.nv_args.specs.Arguments.{truth_in}
use Rattle.nv_args.specs.Dicts.{optional_key, flag_key, flag_or}
use Rattle.nv_args.specs.Faults.{invalid_key, invalid_value}
use Rattle.nv_args.specs.KeyValues.{takes_true, takes_string, takes_integer}
use Rattle.nv_args.specs.Maps.{Key, known_key}
use Rattle.nv_model.specs.declared.parts.Ui.{Ui}

-- the options: `ext_linegrid` must be given, and true; `rgb` is kept, `ext_multigrid` as it was
-- attached; the others have no effect (own rule)
abbrev pub ui_keys : List Key
ui_keys =
    (record { name = codes "ext_linegrid"; takes = takes_true; required = true })
    ∷ flag_key (codes "rgb")
    ∷ flag_key (codes "ext_cmdline")
    ∷ flag_key (codes "ext_messages")
    ∷ flag_key (codes "ext_popupmenu")
    ∷ flag_key (codes "ext_tabline")
    ∷ flag_key (codes "ext_wildmenu")
    ∷ flag_key (codes "ext_hlstate")
    ∷ flag_key (codes "ext_multigrid")
    ∷ flag_key (codes "ext_termcolors")
    ∷ flag_key (codes "override")
    ∷ flag_key (codes "stdin_tty")
    ∷ flag_key (codes "stdout_tty")
    ∷ optional_key (codes "term_name") takes_string
    ∷ optional_key (codes "term_colors") takes_integer
    ∷ []

-- the UI that a session attaches with options that count, but for its size: colours have 24 bits
-- unless `rgb` says otherwise
abbrev pub attached_ui : ℕ → List (Tree × Tree) → Ui
attached_ui session pairs = record {
  session = session;
  width = 0;
  height = 0;
  rgb = flag_or true (codes "rgb") pairs;
  many = flag_or false (codes "ext_multigrid") pairs;
}

-- the fault of a value given for an option: the option isn't known, or doesn't take the value
abbrev pub taking_fault : List ℕ → Tree → Option Key → Option ApiFault
taking_fault name value None = Some (invalid_key name)
taking_fault name value (Some key) = if key.takes value then None else Some (invalid_value name)

abbrev pub ui_option_fault : List ℕ → Tree → Option ApiFault
ui_option_fault name value = taking_fault name value (known_key ui_keys (Some name))

-- a UI with a value given for one of its options
abbrev pub with_ui_option : List ℕ → Tree → Ui → Ui
with_ui_option name value ui =
    if bytes_eq name (codes "rgb") then record ui { rgb = unwrap_or (truth_in value) ui.rgb }
    else ui
