-- The screen that a scene is drawn as.
use Rattle.std.specs.Prelude.{ℕ, zero, suc, ◌+◌, ◌-◌, ◌/◌, Bool, true, false, nat_le, min, if◌then◌else◌, List, [], ◌∷◌, ◌++◌, length, take, drop, replicate, slice_index_or}
use Rattle.nv_hl.specs.declared.attribute.Attr.{Attr}
use Rattle.nv_hl.specs.declared.cell.Cell.{Cell}
use Rattle.nv_hl.specs.Attributes.{empty_attr}
use Rattle.nv_hl.specs.Cells.{Screen, blank_rows, cell_of, is_right_half, space, with_strip}
use Rattle.nv_layout.specs.declared.nodes.Rect.{Rect}
use Rattle.nv_linedraw.specs.declared.looks.Looks.{Looks}
use Rattle.nv_linedraw.specs.LineCells.{cells_in_one_row, cells_of_line}
use Rattle.nv_screen.specs.declared.scene.Bars.{Bars}
use Rattle.nv_screen.specs.declared.scene.Pane.{Pane}
use Rattle.nv_screen.specs.declared.scene.Patch.{Patch}
use Rattle.nv_screen.specs.declared.scene.Scene.{Scene}
use Rattle.nv_screen.specs.declared.scene.SceneLine.{SceneLine}

-- ---- the rows of a window

-- cells in so many rows of a width
abbrev pub rows_of_cells : ℕ → ℕ → List Cell → List (List Cell)
rows_of_cells zero width cs = []
rows_of_cells (suc n) width cs = take width cs ∷ rows_of_cells n width (drop width cs)

abbrev pub begins_with_half : List Cell → Bool
begins_with_half [] = false
begins_with_half (c ∷ cs) = is_right_half c

-- the last cell as a space with its attribute
abbrev pub last_as_space : List Cell → List Cell
last_as_space [] = []
last_as_space (c ∷ []) = space c.attr ∷ []
last_as_space (c ∷ (d ∷ cs)) = c ∷ last_as_space (d ∷ cs)

-- the first k cells; a pair of which one half is left out leaves a space
abbrev pub cells_up_to : ℕ → List Cell → List Cell
cells_up_to k cs = if begins_with_half (drop k cs) then last_as_space (take k cs) else take k cs

-- a row that ends in `@`: the line's other rows don't fit (help: 'display')
abbrev pub row_with_at : ℕ → Looks → List Cell → List Cell
row_with_at width looks row =
    cells_up_to (width - min 3 width) row
    ++ replicate (min 3 width) (cell_of (0x40 ∷ []) looks.nontext)

abbrev pub last_with_at : ℕ → Looks → List (List Cell) → List (List Cell)
last_with_at width looks [] = []
last_with_at width looks (r ∷ []) = row_with_at width looks r ∷ []
last_with_at width looks (r ∷ (s ∷ rs)) = r ∷ last_with_at width looks (s ∷ rs)

-- a row past the last line (help: hl-EndOfBuffer)
abbrev pub row_beyond : ℕ → Looks → List Cell
row_beyond width looks = cell_of (0x7E ∷ []) looks.beyond ∷ replicate (width - 1) (space empty_attr)

abbrev pub scene_cells : ℕ → ℕ → Looks → SceneLine → List Cell
scene_cells width tabstop looks line = cells_of_line width tabstop line.bytes line.spans.items looks

-- the cells of a line in a window
abbrev pub pane_cells : Pane → Looks → SceneLine → List Cell
pane_cells p looks line = scene_cells p.rect.width p.tabstop looks line

-- the rows of a line and, where they all fit, of those that follow
abbrev pub line_rows : ℕ → Looks → ℕ → List Cell → (ℕ → List (List Cell)) → List (List Cell)
line_rows width looks room cs more =
    if nat_le (length cs / width) room
    then rows_of_cells (length cs / width) width cs ++ more (room - length cs / width)
    else last_with_at width looks (rows_of_cells room width cs)

-- the rows of lines in a window that has room for so many
abbrev pub text_rows : ℕ → ℕ → Looks → ℕ → List SceneLine → List (List Cell)
text_rows width tabstop looks room [] = replicate room (row_beyond width looks)
text_rows width tabstop looks room (line ∷ lines) =
    line_rows width looks room (scene_cells width tabstop looks line)
    (λ left. text_rows width tabstop looks left lines)

abbrev pub pane_rows : Looks → Pane → List (List Cell)
pane_rows looks p = text_rows p.rect.width p.tabstop looks p.rect.height p.lines.items

-- ---- the screen

-- rows laid in a screen one below another
abbrev pub with_rows : List (List Cell) → ℕ → ℕ → List (List Cell) → List (List Cell)
with_rows rows row col [] = rows
with_rows rows row col (r ∷ rs) = with_rows (with_strip rows row col r) (row + 1) col rs

-- cells cut or filled with spaces to a width
abbrev pub cells_of_width : ℕ → Attr → List Cell → List Cell
cells_of_width width attr cs = cells_up_to width cs ++ replicate (width - length cs) (space attr)

abbrev pub bar_attr : Bars → Bool → Attr
bar_attr bars true = bars.current
bar_attr bars false = bars.other

-- a status line is drawn in one row, all with one attribute
abbrev pub status_row : Bars → Pane → List Cell
status_row bars p =
    cells_of_width p.rect.width (bar_attr bars p.current)
    (cells_in_one_row p.tabstop (bar_attr bars p.current) p.status)

-- a window: its text, and its status line below
abbrev pub with_pane : Looks → Bars → List (List Cell) → Pane → List (List Cell)
with_pane looks bars rows p =
    with_strip (with_rows rows p.rect.row p.rect.col (pane_rows looks p))
    (p.rect.row + p.rect.height) p.rect.col
    (status_row bars p)

abbrev pub with_panes : Looks → Bars → List (List Cell) → List Pane → List (List Cell)
with_panes looks bars rows [] = rows
with_panes looks bars rows (p ∷ ps) = with_panes looks bars (with_pane looks bars rows p) ps

-- a column of U+2502 (help: hl-WinSeparator)
abbrev pub separator_cell : Bars → Cell
separator_cell bars = cell_of (0xE2 ∷ 0x94 ∷ 0x82 ∷ []) bars.separator

abbrev pub with_separator : Bars → List (List Cell) → Rect → List (List Cell)
with_separator bars rows r =
    with_rows rows r.row r.col (replicate r.height (separator_cell bars ∷ []))

abbrev pub with_separators : Bars → List (List Cell) → List Rect → List (List Cell)
with_separators bars rows [] = rows
with_separators bars rows (r ∷ rs) = with_separators bars (with_separator bars rows r) rs

-- ---- patches

abbrev pub cell_shown : List (List Cell) → ℕ → ℕ → Cell
cell_shown rows row col = slice_index_or (slice_index_or rows row []) col (space empty_attr)

abbrev pub with_space : List (List Cell) → ℕ → ℕ → List (List Cell)
with_space rows row col = with_strip rows row col (space (cell_shown rows row col).attr ∷ [])

-- the other half of a pair that a patch parts becomes a space: the left one before it, the right
-- one behind it
abbrev pub with_left_half : List (List Cell) → ℕ → ℕ → List (List Cell)
with_left_half rows row col =
    if is_right_half (cell_shown rows row col) then with_space rows row (col - 1) else rows

abbrev pub with_right_half : List (List Cell) → ℕ → ℕ → List (List Cell)
with_right_half rows row col =
    if is_right_half (cell_shown rows row col) then with_space rows row col else rows

abbrev pub with_patch_cells : List (List Cell) → ℕ → ℕ → List Cell → List (List Cell)
with_patch_cells rows row col [] = rows
with_patch_cells rows row col (c ∷ cs) =
    with_strip (with_right_half (with_left_half rows row col) row (col + suc (length cs))) row col
    (c ∷ cs)

abbrev pub with_patches : List (List Cell) → List Patch → List (List Cell)
with_patches rows [] = rows
with_patches rows (p ∷ ps) = with_patches (with_patch_cells rows p.row p.col p.cells.items) ps

-- windows and separators on a blank screen
abbrev pub rows_without_patches : Scene → List (List Cell)
rows_without_patches s =
    with_separators s.bars
    (with_panes s.looks s.bars (blank_rows s.width s.height) s.panes.items)
    s.separators.items

-- and patches over them
unfoldable pub drawn_rows : Scene → List (List Cell)
drawn_rows s = with_patches (rows_without_patches s) s.patches.items

abbrev pub screen_of_scene : Scene → Screen
screen_of_scene s = record { width = s.width; height = s.height; rows = drawn_rows s }

-- the first text rows of a window, as a screen of their own
abbrev pub pane_screen : Looks → Pane → ℕ → Screen
pane_screen looks p n =
    record { width = p.rect.width; height = n; rows = take n (pane_rows looks p) }
