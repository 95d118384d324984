-- What the rectangles of a tree keep, whatever its wishes.
use Rattle.std.specs.Prelude.{◌≡◌, ℕ, ℤ, ◌+◌, ◌*◌, ◌≤◌, ◌&&◌, nat_le, nat_lt, List, [], ◌∷◌, map, All, AllPairs, if◌then◌else◌}
use Rattle.nv_layout.specs.Content.{Shape}
use Rattle.nv_layout.specs.Least.{leaves_of, NoneEmpty}
use Rattle.nv_layout.specs.Places.{rects, separators, IsRoomy}
use Rattle.nv_layout.specs.declared.nodes.Leaf.{Leaf}
use Rattle.nv_layout.specs.declared.nodes.Placed.{Placed}
use Rattle.nv_layout.specs.declared.nodes.Rect.{Rect}

-- 1 for a number among so many from the first one, else 0
abbrev pub in_span : ℕ → ℕ → ℕ → ℕ
in_span from size x = if (nat_le from x && nat_lt x (from + size)) then 1 else 0

-- 1 for a cell of a rectangle, else 0
abbrev pub in_rect : ℕ → ℕ → Rect → ℕ
in_rect row col area = in_span area.row area.height row * in_span area.col area.width col

-- in how many rectangles a cell lies
abbrev pub times_in : ℕ → ℕ → List Rect → ℕ
times_in row col [] = 0
times_in row col (r ∷ rs) = in_rect row col r + times_in row col rs

-- the rectangles without their windows
abbrev pub areas : List Placed → List Rect
areas = map (λ p. p.rect)

-- Each cell of the area lies in exactly one rectangle or separator, and no other cell in any.
abbrev pub RectsTile : Type 0
RectsTile =
    (t : Shape) (area : Rect) → NoneEmpty t → IsRoomy t area → (row col : ℕ) →
    times_in row col (areas (rects t area)) + times_in row col (separators t area)
    ≡ in_rect row col area

-- a rectangle within another
pub record LiesIn (area inner : Rect) : Type 0 where
  pub top : area.row ≤ inner.row
  pub bottom : inner.row + inner.height ≤ area.row + area.height
  pub left : area.col ≤ inner.col
  pub right : inner.col + inner.width ≤ area.col + area.width

-- Each rectangle lies in the area.
abbrev pub RectsLieInArea : Type 0
RectsLieInArea =
    (t : Shape) (area : Rect) → NoneEmpty t → IsRoomy t area →
    All (LiesIn area) (areas (rects t area))

-- two rectangles without a common cell
abbrev pub AreApart : Rect → Rect → Type 0
AreApart r s = (row col : ℕ) → in_rect row col r ≡ 1 → in_rect row col s ≡ 1 → ⊥

-- No two rectangles overlap.
abbrev pub RectsAreApart : Type 0
RectsAreApart =
    (t : Shape) (area : Rect) → NoneEmpty t → IsRoomy t area →
    AllPairs AreApart (areas (rects t area))

-- Each rectangle has a column, and a row above its status line.
abbrev pub RectsHaveLeastSize : Type 0
RectsHaveLeastSize =
    (t : Shape) (area : Rect) → NoneEmpty t → IsRoomy t area →
    All (λ r. (1 ≤ r.width) × (2 ≤ r.height)) (areas (rects t area))

-- the windows of leaves
abbrev pub windows : List Leaf → List ℤ
windows = map (λ l. l.window)

-- There is a rectangle for each leaf, in tree order.
abbrev pub RectsNameWindows : Type 0
RectsNameWindows =
    (t : Shape) (area : Rect) → map (λ p. p.window) (rects t area) ≡ windows (leaves_of t)
