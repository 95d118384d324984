-- inside: the steps in which a window is opened. Only private contracts cite this.
use Rattle.std.specs.Prelude.{◌≡◌, ℤ, Bool, not, ⊤, List, [], Option, Some, None, Result, Ok, Err, if◌then◌else◌}
use Rattle.nv_value.specs.Content.{Tree}
use Rattle.nv_value.specs.declared.fault.ApiFault.{ApiFault}
use Rattle.nv_args.specs.Faults.{no_id_left, no_room, limit_reached}
use Rattle.nv_args.specs.Maps.{map_fault}
use Rattle.nv_args.specs.Refusals.{CanBeTold}
use Rattle.nv_args.specs.declared.faults.Fail.{Fail}
use Rattle.nv_args.specs.declared.faults.Fail.TheVariants.{Api, NoMemory}
use Rattle.nv_layout.specs.declared.nodes.Side.{Side}
use Rattle.nv_windows.specs.Rooms.{has_room_beside, has_window_left}
use Rattle.nv_model.specs.Stage.{Stage}
use Rattle.nv_model.specs.Answers.{Answer, refused, replied}
use Rattle.nv_model.specs.Answering.{fault_or}
use Rattle.nv_api_win.specs.Opening.{opening_keys, side_of}
use Rattle.nv_api_win.specs.WindowRows.{opening_operations, windows_are_full}
use Rattle.nv_api_win.specs.Windows.{window_handle}

-- a step gave what the answer goes on with, or refuses as is answered, or memory was wanting
abbrev pub GoesOn : {A : Type 0} → Answer → (A → Answer) → Result A Fail → Type 0
GoesOn answer rest (Ok given) = answer ≡ rest given
GoesOn answer rest (Err (Api fault)) = (answer ≡ refused fault) × CanBeTold fault
GoesOn answer rest (Err NoMemory) = ⊤

-- why no window can be opened on a side of one, where that is so
abbrev pub room_fault : Stage → ℤ → Side → Option ApiFault
room_fault stage beside side =
    if not (has_window_left stage.workspace) then Some no_id_left
    else if not (has_room_beside stage.workspace beside side) then Some no_room
    else if windows_are_full stage then Some limit_reached
    else None

-- what is answered where a window is opened
abbrev pub opened_answer : Stage → ℤ → ℤ → Bool → List (Tree × Tree) → Answer
opened_answer stage buffer beside enter pairs =
    replied (window_handle stage.workspace.next_window)
    (opening_operations stage buffer beside enter pairs) []

-- and once the buffer, and the window beside which it opens, are found
abbrev pub beside_answer : Stage → ℤ → ℤ → Bool → List (Tree × Tree) → Answer
beside_answer stage buffer beside enter pairs =
    fault_or (map_fault opening_keys pairs)
    (fault_or (room_fault stage beside (side_of pairs))
    (opened_answer stage buffer beside enter pairs))
