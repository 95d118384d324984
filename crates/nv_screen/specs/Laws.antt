-- Laws of drawing.
use Rattle.std.specs.Prelude.{◌≡◌, ℕ, ◌+◌, ◌-◌, ◌^◌, ◌<◌, ◌&&◌, ◌==◌, nat_le, nat_lt, if◌then◌else◌, All, List, [], ◌∷◌, length, slice_index_or}
use Rattle.nv_hl.specs.declared.cell.Cell.{Cell}
use Rattle.nv_hl.specs.Cells.{IsSized, Screen, is_right_half, space, with_strip}
use Rattle.nv_hl.specs.Attributes.{empty_attr}
use Rattle.nv_layout.specs.declared.nodes.Rect.{Rect}
use Rattle.nv_layout.specs.Tiling.{in_rect}
use Rattle.nv_linedraw.specs.declared.looks.Looks.{Looks}
use Rattle.nv_screen.specs.declared.scene.Bars.{Bars}
use Rattle.nv_screen.specs.declared.scene.Pane.{Pane}
use Rattle.nv_screen.specs.declared.scene.Scene.{Scene}
use Rattle.nv_screen.specs.Drawing.{cell_shown, pane_rows, rows_without_patches, screen_of_scene, separator_cell, status_row, with_patch_cells}
use Rattle.nv_screen.specs.Sound.{IsDrawable, IsInReach, IsSoundScene, pane_area}

-- a scene is drawn as a whole screen
abbrev pub ScreensAreWhole : Type 0
ScreensAreWhole = (s : Scene) → IsSized (screen_of_scene s)

-- what stands at a column of a row in which cells were laid from a column on, over what stood there
abbrev pub cell_over : ℕ → List Cell → ℕ → Cell → Cell
cell_over col cs at under =
    if nat_le col at && nat_lt at (col + length cs) then slice_index_or cs (at - col) under
    else under

-- a strip of cells shows where it lies, and changes no other cell
abbrev pub StripsShow : Type 0
StripsShow =
    (rows : List (List Cell)) (row col : ℕ) (cs : List Cell) (r c : ℕ) (none : Cell)
    → r < length rows → c < length (slice_index_or rows r [])
    → slice_index_or (slice_index_or (with_strip rows row col cs) r []) c none
    ≡ (if row == r then cell_over col cs c (slice_index_or (slice_index_or rows r []) c none)
    else slice_index_or (slice_index_or rows r []) c none)

-- ---- each cell by itself

-- what a window shows at a cell of the screen: its text, and its status line below
abbrev pub cell_of_pane : Looks → Bars → Pane → ℕ → ℕ → Cell
cell_of_pane looks bars p row col =
    if row == p.rect.row + p.rect.height
    then slice_index_or (status_row bars p) (col - p.rect.col) (space empty_attr)
    else cell_shown (pane_rows looks p) (row - p.rect.row) (col - p.rect.col)

-- what the window shows that has the cell, or what stands where none has it
abbrev pub cell_of_panes : Looks → Bars → List Pane → ℕ → ℕ → Cell → Cell
cell_of_panes looks bars [] row col other = other
cell_of_panes looks bars (p ∷ ps) row col other =
    if in_rect row col (pane_area p) == 1 then cell_of_pane looks bars p row col
    else cell_of_panes looks bars ps row col other

-- the separator that has the cell, or a space
abbrev pub cell_of_separators : Bars → List Rect → ℕ → ℕ → Cell
cell_of_separators bars [] row col = space empty_attr
cell_of_separators bars (r ∷ rs) row col =
    if in_rect row col r == 1 then separator_cell bars else cell_of_separators bars rs row col

-- in a sound scene there stands at each cell, below the patches, what its window or its separator
-- shows there, and else a space
abbrev pub CellsStandByWindows : Type 0
CellsStandByWindows =
    (s : Scene) → IsSoundScene s → (row col : ℕ) → row < s.height → col < s.width
    → cell_shown (rows_without_patches s) row col
    ≡ cell_of_panes s.looks s.bars s.panes.items row col
    (cell_of_separators s.bars s.separators.items row col)

-- ---- patches

-- what is left at a column beside a patch of n cells: a space of the other half of a pair that the
-- patch parts
abbrev pub cell_beside : List (List Cell) → ℕ → ℕ → ℕ → ℕ → Cell
cell_beside rows row col n at =
    if (at + 1 == col) && is_right_half (cell_shown rows row col)
    then space (cell_shown rows row at).attr
    else if (at == col + n) && is_right_half (cell_shown rows row at)
    then space (cell_shown rows row at).attr
    else cell_shown rows row at

-- a patch shows its cells, and changes no cell but the other halves of the pairs that it parts
abbrev pub PatchesShow : Type 0
PatchesShow =
    (s : Screen) → IsSized s → (row col : ℕ) (cs : List Cell) → 0 < length cs
    → (r c : ℕ) → r < s.height → c < s.width
    → cell_shown (with_patch_cells s.rows row col cs) r c
    ≡ (if row == r then cell_over col cs c (cell_beside s.rows r col (length cs) c)
    else cell_shown s.rows r c)

-- ---- sound scenes

abbrev pub SoundScenesAreDrawable : Type 0
SoundScenesAreDrawable = (s : Scene) → IsSoundScene s → All IsDrawable s.panes.items

abbrev pub SoundScenesAreInReach : Type 0
SoundScenesAreInReach =
    (s : Scene) → IsSoundScene s → s.width < 2 ^ 32 → s.height < 2 ^ 32
    → All IsInReach s.panes.items
