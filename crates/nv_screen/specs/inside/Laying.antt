-- inside: how a window's rows are laid one after another.
use Rattle.std.specs.Prelude.{ℕ, zero, suc, ◌+◌, ◌-◌, List, drop}
use Rattle.nv_hl.specs.declared.cell.Cell.{Cell}
use Rattle.nv_linedraw.specs.LineCells.{cells_of_line}
use Rattle.nv_screen.specs.declared.scene.SceneLine.{SceneLine}
use Rattle.nv_screen.specs.declared.text.Frame.{Frame}
use Rattle.nv_screen.specs.Drawing.{line_rows, text_rows}

-- inside: the cells behind so many rows of a width
abbrev pub cells_behind : ℕ → ℕ → List Cell → List Cell
cells_behind zero width cs = cs
cells_behind (suc n) width cs = cells_behind n width (drop width cs)

-- inside: the row of a window's text where room for so many rows is left
abbrev pub row_at : Frame → ℕ → ℕ
row_at f room = f.row + (f.height - room)

-- inside: the cells of a line in a window
abbrev pub frame_cells : Frame → SceneLine → List Cell
frame_cells f line = cells_of_line f.width f.tabstop line.bytes line.spans.items f.looks.now

-- inside: the rows of a line and of what follows where there is room for so many
abbrev pub frame_line_rows : Frame → ℕ → SceneLine → (ℕ → List (List Cell)) → List (List Cell)
frame_line_rows f room line more = line_rows f.width f.looks.now room (frame_cells f line) more

-- inside: the rows of a window's text where there is room for so many
abbrev pub frame_rows : Frame → ℕ → List SceneLine → List (List Cell)
frame_rows f room lines = text_rows f.width f.tabstop f.looks.now room lines
