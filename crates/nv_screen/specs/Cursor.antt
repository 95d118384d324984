-- The cell of a scene's cursor.
use Rattle.std.specs.Prelude.{ℕ, zero, suc, ◌+◌, ◌-◌, ◌/◌, ◌%◌, min, if◌then◌else◌, List, [], ◌∷◌, take}
use Rattle.std.specs.Ordering.{int_eq}
use Rattle.nv_linedraw.specs.LineCells.{cell_of_byte, rows_of_line}
use Rattle.nv_screen.specs.declared.scene.Pane.{Pane}
use Rattle.nv_screen.specs.declared.scene.Scene.{Scene}
use Rattle.nv_screen.specs.declared.scene.SceneLine.{SceneLine}
use Rattle.nv_screen.specs.declared.scene.Spot.{Spot}

-- the rows of lines, added up
abbrev pub rows_together : ℕ → ℕ → List SceneLine → ℕ
rows_together width tabstop [] = 0
rows_together width tabstop (line ∷ lines) =
    rows_of_line width tabstop line.bytes + rows_together width tabstop lines

-- the bytes of a line by its place among lines; none past the last one
abbrev pub bytes_at : List SceneLine → ℕ → List ℕ
bytes_at [] n = []
bytes_at (line ∷ lines) zero = line.bytes
bytes_at (line ∷ lines) (suc n) = bytes_at lines n

-- the row and column of the cursor in a window: the first cell of the piece that holds its byte, or
-- the line's first cell; in a row past the window, the window's last row (own rule)
abbrev pub cursor_in_pane : Pane → Spot → ℕ × ℕ
cursor_in_pane p cursor =
    let width = p.rect.width in
    let n = cursor.row - p.top in
    let above = rows_together width p.tabstop (take n p.lines.items) in
    let cell = cell_of_byte width p.tabstop (bytes_at p.lines.items n) cursor.byte in
    (p.rect.row + min (p.rect.height - 1) (above + cell / width), p.rect.col + cell % width)

-- in the first window with its handle; none has it in the first cell
abbrev pub cursor_among : List Pane → Spot → ℕ × ℕ
cursor_among [] cursor = (0, 0)
cursor_among (p ∷ ps) cursor =
    if int_eq p.window cursor.window then cursor_in_pane p cursor else cursor_among ps cursor

-- the row and column of the cell that has the cursor (help: ui-event-grid_cursor_goto)
abbrev pub cursor_of_scene : Scene → ℕ × ℕ
cursor_of_scene s = cursor_among s.panes.items s.cursor
