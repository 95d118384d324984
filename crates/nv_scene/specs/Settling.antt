-- Settling: the first row of each window follows its cursor (own rule).
use Rattle.std.specs.Prelude.{◌≡◌, ℕ, zero, suc, ◌-◌, ◌==◌, Bool, nat_le, nat_lt, if◌then◌else◌, List, [], ◌∷◌, map, flat_map, slice_range, Option, Some}
use Rattle.nv_layout.specs.Division.{total}
use Rattle.nv_layout.specs.declared.nodes.Rect.{Rect}
use Rattle.nv_windows.specs.Rooms.{text_area}
use Rattle.nv_windows.specs.declared.window.Window.{Window}
use Rattle.nv_linedraw.specs.LineCells.{rows_of_line}
use Rattle.nv_model.specs.Operations.{Operation, top_put}
use Rattle.nv_model.specs.Seen.{Seen, SeenBuffer}

-- whether lines of these heights fit in so many rows, from one of them to another, both included
abbrev pub lines_fit : ℕ → List ℕ → ℕ → ℕ → Bool
lines_fit rows heights first last = nat_le (total (slice_range heights first (suc last))) rows

-- the first of the n lines in front of the last from which they fit, or else the last
abbrev pub first_fitting : ℕ → List ℕ → ℕ → ℕ → ℕ
first_fitting rows heights last zero = last
first_fitting rows heights last (suc n) =
    if lines_fit rows heights (last - suc n) last then last - suc n
    else first_fitting rows heights last n

-- the first line of a window that has so many rows, where the cursor is in a line: the cursor's
-- where that is before the first one; else the first one stays where the lines from it to the
-- cursor's fit, and else becomes the least from which they do, or the cursor's
abbrev pub settled_top : ℕ → List ℕ → ℕ → ℕ → ℕ
settled_top rows heights cursor top =
    if nat_lt cursor top then cursor else first_fitting rows heights cursor (cursor - top)

-- how many rows of a width each line of a buffer has
abbrev pub line_heights : ℕ → SeenBuffer → List ℕ
line_heights width b = map (rows_of_line width b.tabstop) b.lines

-- the same for a window, by its text cells and its buffer
abbrev pub top_by : Window → Option Rect → Option SeenBuffer → ℕ
top_by w (Some area) (Some b) =
    settled_top area.height (line_heights area.width b) w.cursor.row w.top
top_by w _ _ = w.top

abbrev pub top_of : Seen → Window → ℕ
top_of s w = top_by w (text_area s.stage.workspace w.handle) (s.buffer w.buffer)

-- a window is settled: its first line is put, where that is another one
abbrev pub window_settling : Seen → Window → List Operation
window_settling s w =
    if top_of s w == w.top then [] else top_put w.handle (top_of s w) ∷ []

-- all windows are settled
abbrev pub settle_operations : Seen → List Operation
settle_operations s = flat_map (window_settling s) s.stage.workspace.windows

-- settling would change nothing
abbrev pub IsSettled : Seen → Type 0
IsSettled s = settle_operations s ≡ []
