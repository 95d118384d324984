-- When a scene is sound.
use Rattle.std.specs.Prelude.{◌≡◌, ℕ, ◌+◌, ◌-◌, ◌^◌, ◌<◌, ◌≤◌, Bool, false, ◌==◌, min, List, [], ◌∷◌, ◌++◌, MatchOption, find, length, map}
use Rattle.std.specs.List.{AllByRecursion, IsDistinct}
use Rattle.std.specs.Ordering.{int_eq}
use Rattle.nv_text.specs.Pieces.{cluster_cells}
use Rattle.nv_hl.specs.declared.cell.Cell.{Cell}
use Rattle.nv_layout.specs.declared.nodes.Rect.{Rect}
use Rattle.nv_layout.specs.Tiling.{LiesIn, times_in}
use Rattle.nv_screen.specs.declared.scene.Pane.{Pane}
use Rattle.nv_screen.specs.declared.scene.Patch.{Patch}
use Rattle.nv_screen.specs.declared.scene.Scene.{Scene}
use Rattle.nv_screen.specs.declared.scene.SceneLine.{SceneLine}
use Rattle.nv_screen.specs.declared.scene.Spot.{Spot}
use Rattle.nv_screen.specs.Cursor.{bytes_at}
use Rattle.nv_screen.specs.Drawing.{begins_with_half}

-- a window that can be drawn: it has a column, and its Tabs have a width
abbrev pub IsDrawable : Pane → Type 0
IsDrawable p = (0 < p.rect.width) × (0 < p.tabstop)

-- a window that can be drawn, whose cells have rows and columns of 32 bits
pub record IsInReach (p : Pane) : Type 0 where
  pub drawable : IsDrawable p
  pub rows : p.rect.row + p.rect.height < 2 ^ 32
  pub cols : p.rect.col + p.rect.width < 2 ^ 32

-- ---- the parts of a scene

-- lines of a text one behind another, the first of them in this row
abbrev pub AreInRows : ℕ → List SceneLine → Type 0
AreInRows row [] = Unit {0}
AreInRows row (line ∷ lines) = (line.row ≡ row) × AreInRows (row + 1) lines

-- a window with the lines of its text from its first row on, as many as there are, but at most as
-- many as it has rows
pub record IsSoundPane (p : Pane) : Type 0 where
  pub wide : 0 < p.rect.width
  pub high : 0 < p.rect.height
  pub stop : 0 < p.tabstop
  pub count : length p.lines.items ≡ min p.rect.height (p.count - p.top)
  pub rows : AreInRows p.top p.lines.items

-- whether cells end with the left half of a pair
abbrev pub ends_with_half : List Cell → Bool
ends_with_half [] = false
ends_with_half (c ∷ []) = cluster_cells c.text == 2
ends_with_half (c ∷ (d ∷ cs)) = ends_with_half (d ∷ cs)

-- a patch within a row of a screen, that begins and ends with no half of a pair
pub record IsSoundPatch (width height : ℕ) (p : Patch) : Type 0 where
  pub row : p.row < height
  pub cols : p.col + length p.cells.items ≤ width
  pub first : begins_with_half p.cells.items ≡ false
  pub last : ends_with_half p.cells.items ≡ false

-- the cursor is in a row of a window's lines, at most behind its last byte
pub record IsSoundSpot (p : Pane) (cursor : Spot) : Type 0 where
  pub first : p.top ≤ cursor.row
  pub last : cursor.row < p.top + length p.lines.items
  pub byte : cursor.byte ≤ length (bytes_at p.lines.items (cursor.row - p.top))

-- the window of the cursor is there, and has it
abbrev pub HasCursor : List Pane → Spot → Type 0
HasCursor ps cursor =
    MatchOption (find (λ p. int_eq p.window cursor.window) ps) ⊥ (λ p. IsSoundSpot p cursor)

-- ---- scenes

-- the cells of a window: its text, and the status line below
abbrev pub pane_area : Pane → Rect
pane_area p = record p.rect { height = p.rect.height + 1 }

abbrev pub scene_areas : Scene → List Rect
scene_areas s = map pane_area s.panes.items ++ s.separators.items

abbrev pub whole_screen : Scene → Rect
whole_screen s = record { row = 0; col = 0; width = s.width; height = s.height }

-- a scene whose windows and separators lie in the screen, no cell of which lies in two of them
pub record IsSoundScene (s : Scene) : Type 0 where
  pub wide : 0 < s.width
  pub high : 0 < s.height
  pub panes : AllByRecursion IsSoundPane s.panes.items
  pub separators : AllByRecursion (λ r. (r.width ≡ 1) × (0 < r.height)) s.separators.items
  pub inside : AllByRecursion (LiesIn (whole_screen s)) (scene_areas s)
  pub apart : (row col : ℕ) → times_in row col (scene_areas s) ≤ 1
  pub windows : IsDistinct int_eq (map (λ p. p.window) s.panes.items)
  pub cursor : HasCursor s.panes.items s.cursor
  pub patches : AllByRecursion (IsSoundPatch s.width s.height) s.patches.items
