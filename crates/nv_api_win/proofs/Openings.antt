-- What the answer of a call that opens a window comes to.
use Rattle.std.proofs.Common.{◌≡◌, ◌∙◌, ap, ℤ, Bool, true, false, ◌&&◌, List, []}
use Rattle.std.specs.Prelude.{if◌then◌else◌, Ok}
use Rattle.nv_value.specs.Content.{Tree}
use Rattle.nv_value.specs.View.{content}
use Rattle.nv_value.specs.declared.value.Value.{Value}
use Rattle.nv_windows.specs.Operations.{opening}
use Rattle.nv_windows.specs.Rooms.{has_room_beside, has_window_left}
use Rattle.nv_windows.specs.declared.window.Opened.TheVariants.{Window as OpenedWindow, NoId, NoRoom}
use Rattle.nv_model.specs.Stage.{Stage}
use Rattle.nv_model.specs.Answers.{Fact}
use Rattle.nv_model.specs.Operations.{Operation}
use Rattle.nv_model.specs.Standing.{PresentEditor}
use Rattle.nv_editor.specs.Doing.{Does, GivesAnswer}
use Rattle.nv_api_win.specs.Opening.{side_of}
use Rattle.nv_api_win.specs.WindowRows.{opening_operations}
use Rattle.nv_api_win.specs.Windows.{window_handle}
use Rattle.nv_api_win.specs.inside.Steps.{opened_answer}
use Rattle.nv_api_win.proofs.Giving.{gives_done}

-- the handle of the window that was opened
opened_handle : (n next : ℤ) (left room : Bool) → left ≡ true → room ≡ true
    → OpenedWindow n ≡ (if left then (if room then OpenedWindow next else NoRoom) else NoId) → n ≡ next
opened_handle n next true true l r e = cc
opened_handle n next true false l r e = absurd (cc)
opened_handle n next false room l r e = absurd (cc)

-- what was done where there was room
opened_done : (operations : List Operation) (left room : Bool) (before after : PresentEditor) → left ≡ true → room ≡ true
    → Does (if left && room then operations else []) before after → Does operations before after
opened_done operations true true before after l r done = done
opened_done operations true false before after l r done = absurd (cc)
opened_done operations false room before after l r done = absurd (cc)

pub gives_opened : (stage : Stage) (buffer beside n : ℤ) (enter : Bool) (pairs : List (Tree × Tree)) (value : Value) (before after : PresentEditor) (told : List Fact)
    → has_window_left stage.workspace ≡ true → has_room_beside stage.workspace beside (side_of pairs) ≡ true
    → OpenedWindow n ≡ opening stage.workspace beside (side_of pairs) → content value ≡ window_handle n
    → Does
    (if has_window_left stage.workspace && has_room_beside stage.workspace beside (side_of pairs)
    then opening_operations stage buffer beside enter pairs
    else []) before after
    → GivesAnswer (opened_answer stage buffer beside enter pairs) (Ok value) before after told told
gives_opened stage buffer beside n enter pairs value before after told left room opened is done =
    gives_done (window_handle stage.workspace.next_window) (opening_operations stage buffer beside enter pairs) value before after told
    (is ∙ ap window_handle (opened_handle n stage.workspace.next_window _ _ left room opened))
    (opened_done (opening_operations stage buffer beside enter pairs) _ _ before after left room done)
