-- The methods on tabpages (help: api-tabpage; the help tag of each is its name).
use Rattle.std.specs.Prelude.{ℕ, ◌+◌, List, [], ◌∷◌, map, is_some}
use Rattle.nv_value.specs.Content.{nil, truth}
use Rattle.nv_args.specs.Reading.{Arg, number_at}
use Rattle.nv_windows.specs.Workspace.{tabpage_at}
use Rattle.nv_windows.specs.Rooms.{windows_in}
use Rattle.nv_windows.specs.Operations.{place_among}
use Rattle.nv_model.specs.Stage.{or_current}
use Rattle.nv_model.specs.Seen.{Seen}
use Rattle.nv_model.specs.Operations.{went_to_tab}
use Rattle.nv_model.specs.Answers.{Answer, replied, on_tabpage}
use Rattle.nv_model.specs.Answering.{reply_of, array_of, natural}
use Rattle.nv_api_win.specs.Windows.{window_handle, tabpage_handle}

-- nvim_list_tabpages(): the tabpages in their order
abbrev pub nvim_list_tabpages : Seen → ℕ → List Arg → Answer
nvim_list_tabpages s session args =
    reply_of (array_of (map (λ t. tabpage_handle t.handle) s.stage.workspace.tabpages))

-- nvim_get_current_tabpage(): the current one
abbrev pub nvim_get_current_tabpage : Seen → ℕ → List Arg → Answer
nvim_get_current_tabpage s session args = reply_of (tabpage_handle s.stage.workspace.tabpage)

-- nvim_set_current_tabpage(tabpage): it becomes current
abbrev pub nvim_set_current_tabpage : Seen → ℕ → List Arg → Answer
nvim_set_current_tabpage s session args =
    on_tabpage s (number_at args 0) (λ t. replied nil (went_to_tab t.handle ∷ []) [])

-- nvim_tabpage_is_valid(tabpage): whether a tabpage of this handle is live
abbrev pub nvim_tabpage_is_valid : Seen → ℕ → List Arg → Answer
nvim_tabpage_is_valid s session args =
    reply_of (truth (is_some (tabpage_at s.stage.workspace
    (or_current s.stage.workspace.tabpage (number_at args 0)))))

-- nvim_tabpage_list_wins(tabpage): its windows in tree order
abbrev pub nvim_tabpage_list_wins : Seen → ℕ → List Arg → Answer
nvim_tabpage_list_wins s session args =
    on_tabpage s (number_at args 0) (λ t. reply_of (array_of (map window_handle (windows_in t))))

-- nvim_tabpage_get_win(tabpage): its current window
abbrev pub nvim_tabpage_get_win : Seen → ℕ → List Arg → Answer
nvim_tabpage_get_win s session args =
    on_tabpage s (number_at args 0) (λ t. reply_of (window_handle t.current))

-- nvim_tabpage_get_number(tabpage): its place in their order, from 1
abbrev pub nvim_tabpage_get_number : Seen → ℕ → List Arg → Answer
nvim_tabpage_get_number s session args = on_tabpage s (number_at args 0)
    (λ t. reply_of (natural (place_among t.handle s.stage.workspace.tabpages + 1)))
