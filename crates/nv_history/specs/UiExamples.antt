-- Worked examples of UIs in histories, computed by the definitions (help: nvim_ui_attach()).
use Rattle.std.specs.Prelude.{◌≡◌, ℕ, true, List, [], ◌∷◌, ◌++◌, length, map, Option, Some, None, option_map}
use Rattle.nv_value.specs.Content.{nil, truth, pairs, in_turn}
use Rattle.nv_rpc.specs.Messages.{Sent, reply}
use Rattle.nv_api_ui.specs.WorkedUis.{screen_size}
use Rattle.nv_dispatch.specs.Runs.{NamedCall, usual_limits}
use Rattle.nv_dispatch.specs.Worked.{int, str, call, set_all_lines, run_command}
use Rattle.nv_history.specs.Events.{Event, open_session, request_of, take_of, close_of, nothing}
use Rattle.nv_history.specs.Worlds.{World, idles}
use Rattle.nv_history.specs.Runs.{TakenBatch, run, out}
use Rattle.nv_history.specs.Examples.{asked_as, history_by_one, outcome_behind}

-- the messages of batches, each with the size of the screen that its editor shows
abbrev pub sizes_by_batch : List TakenBatch → List (List Sent × Option (ℕ × ℕ))
sizes_by_batch batches =
    map (λ batch. (batch.messages, option_map screen_size batch.editor)) batches

-- what a session is given by events of one caller
abbrev pub given_sizes : ℕ → List Event → List (List Sent × Option (ℕ × ℕ))
given_sizes s events = sizes_by_batch (out 16 usual_limits s (history_by_one events))

abbrev pub attach_ui : ℕ → ℕ → NamedCall
attach_ui width height =
    call "nvim_ui_attach" (int width ∷ int height
    ∷ pairs (in_turn ((str "ext_linegrid", truth true) ∷ [])) ∷ [])

-- two UIs share the least screen; where one goes with its session, the other one gets its own size
abbrev two_uis : List Event
two_uis =
    open_session ∷ open_session
    ∷ request_of 1 (asked_as 1 (attach_ui 80 24)) ∷ request_of 2 (asked_as 1 (attach_ui 60 30))
    ∷ take_of 1 ∷ take_of 2 ∷ close_of 1 ∷ take_of 2 ∷ []

unfoldable pub TwoUis : Type 0
TwoUis =
    (given_sizes 1 two_uis ≡ ((reply 1 None nil ∷ [], Some (60, 24)) ∷ []))
    × (given_sizes 2 two_uis
    ≡ ((reply 1 None nil ∷ [], Some (60, 24)) ∷ ([], Some (60, 30)) ∷ []))

-- a UI is shown once for each entry that is seen: there is nothing to take again, what isn't seen
-- is answered without a scene, and another session's edit is shown without a message
abbrev shown_once : List Event
shown_once =
    open_session ∷ open_session ∷ request_of 1 (asked_as 1 (attach_ui 12 4)) ∷ take_of 1 ∷ []

unfoldable pub ShownOnce : Type 0
ShownOnce =
    (outcome_behind 16 usual_limits (history_by_one shown_once) (take_of 1)
    ≡ Some (idles nothing))
    × (given_sizes 1 (shown_once
    ++ request_of 1 (asked_as 2 (call "nvim_get_hl_id_by_name" (str "New" ∷ []))) ∷ take_of 1
    ∷ request_of 2 (asked_as 1 (set_all_lines (str "a" ∷ []))) ∷ take_of 1 ∷ [])
    ≡ ((reply 1 None nil ∷ [], Some (12, 4)) ∷ (reply 2 None (int 8) ∷ [], None)
    ∷ ([], Some (12, 4)) ∷ []))

-- how many UIs a world has, and the size of its screen
abbrev pub uis_and_size : World → ℕ × (ℕ × ℕ)
uis_and_size w = (length w.editor.stage.uis, screen_size w.editor)

-- the end of the editor leaves no UI, and the size of the screen
abbrev quit_with_ui : List Event
quit_with_ui =
    open_session ∷ request_of 1 (asked_as 1 (attach_ui 12 4))
    ∷ request_of 1 (asked_as 2 (run_command "qall!")) ∷ take_of 1 ∷ []

unfoldable pub QuitWithUi : Type 0
QuitWithUi =
    (given_sizes 1 quit_with_ui ≡ ((reply 1 None nil ∷ reply 2 None nil ∷ [], None) ∷ []))
    × (option_map uis_and_size (run 16 usual_limits (history_by_one quit_with_ui))
    ≡ Some (0, (12, 4)))
