-- inside: how an edit moves what the windows of its buffer show. Only private contracts cite this.
use Rattle.std.specs.Prelude.{ℕ, zero, suc, ℤ, List, [], ◌∷◌, length, map, if◌then◌else◌}
use Rattle.std.specs.Ordering.{int_eq}
use Rattle.nv_buffer.specs.declared.edit.Edit.{Edit}
use Rattle.nv_windows.specs.Views.{Move, view_after}
use Rattle.nv_windows.specs.Workspace.{Workspace}
use Rattle.nv_windows.specs.declared.window.Window.{Window}
use Rattle.nv_model.specs.Stage.{view_in_line}

-- an edit in rows and columns, which leaves these lines
abbrev pub move_by : Edit → List (List ℕ) → Move
move_by edit lines =
    record { start = edit.start; old = edit.removed; new = edit.put; count = length lines }

-- a window after it
abbrev pub view_carried : ℤ → Edit → List (List ℕ) → Window → Window
view_carried n edit lines w =
    if int_eq w.buffer n then view_in_line lines (view_after (move_by edit lines) w) else w

-- and all windows
abbrev pub with_views : ℤ → Edit → List (List ℕ) → Workspace → Workspace
with_views n edit lines ws = record ws { windows = map (view_carried n edit lines) ws.windows }

-- a window whose cursor is kept in its line, where it shows the buffer
abbrev pub clamped : ℤ → List (List ℕ) → Window → Window
clamped n lines w = if int_eq w.buffer n then view_in_line lines w else w

-- a list with what stands at a place changed
abbrev pub changed_at : {A : Type 0} → (A → A) → ℕ → List A → List A
changed_at f place [] = []
changed_at f zero (x ∷ xs) = f x ∷ xs
changed_at f (suc place) (x ∷ xs) = x ∷ changed_at f place xs
