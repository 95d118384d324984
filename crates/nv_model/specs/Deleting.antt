-- Making and deleting buffers.
use Rattle.std.specs.Prelude.{ℤ, Bool, true, int_lt, List, [], ◌∷◌, ◌++◌, map, Option, Some, None, slice_get, if◌then◌else◌}
use Rattle.std.specs.Ordering.{int_eq}
use Rattle.nv_windows.specs.Workspace.{showing}
use Rattle.nv_windows.specs.Rooms.{last_handle}
use Rattle.nv_windows.specs.declared.window.Window.{Window}
use Rattle.nv_model.specs.Stage.{Stage}
use Rattle.nv_model.specs.Seen.{Seen}
use Rattle.nv_model.specs.Operations.{Operation, buffer_made, buffer_dropped, shown}

-- whether no handle of a buffer is left
abbrev pub no_buffer_left : Stage → Bool
no_buffer_left stage = int_lt last_handle stage.next_buffer

-- the live buffers but one
abbrev pub other_handles : ℤ → List ℤ → List ℤ
other_handles n [] = []
other_handles n (k ∷ ks) = if int_eq k n then other_handles n ks else k ∷ other_handles n ks

-- the least buffer but one
abbrev pub least_other : Seen → ℤ → Option ℤ
least_other s n = slice_get (other_handles n s.handles) 0

-- what is done where a buffer is deleted: the windows that showed it show the least other one, or a
-- new empty one where there is none, at row 0 (own rule)
abbrev pub showing_operations : ℤ → List Window → List Operation
showing_operations n windows = map (λ w. shown w.handle n) windows

abbrev pub dropping_operations : Stage → ℤ → Option ℤ → List Operation
dropping_operations stage n (Some other) =
    showing_operations other (showing n stage.workspace.windows) ++ buffer_dropped n ∷ []
dropping_operations stage n None =
    buffer_made true
    ∷ showing_operations stage.next_buffer (showing n stage.workspace.windows) ++ buffer_dropped n
    ∷ []
