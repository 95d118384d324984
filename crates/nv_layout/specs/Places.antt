-- The rectangles of a tree, by recursion on it, and the separators between them.
use Rattle.std.specs.Prelude.{ℕ, ℤ, ◌+◌, ◌-◌, ◌^◌, ◌<◌, ◌≤◌, List, [], ◌∷◌, ◌++◌, find, Option, option_map}
use Rattle.std.specs.Ordering.{int_eq}
use Rattle.nv_layout.specs.Content.{Shape, leaf, group, Shapes, no_shapes, more_shapes}
use Rattle.nv_layout.specs.Division.{division, first, behind}
use Rattle.nv_layout.specs.Least.{least, gap, gaps, child_list}
use Rattle.nv_layout.specs.declared.nodes.Axis.{Axis}
use Rattle.nv_layout.specs.declared.nodes.Axis.TheVariants.{Across, Down}
use Rattle.nv_layout.specs.declared.nodes.Placed.{Placed}
use Rattle.nv_layout.specs.declared.nodes.Rect.{Rect}

-- the width of an area, at Across, or its height
abbrev pub extent : Axis → Rect → ℕ
extent Across area = area.width
extent Down area = area.height

-- the part of an area that is so wide, or so high, from its left or its top
abbrev pub part : Axis → ℕ → Rect → Rect
part Across n area = record area { width = n }
part Down n area = record area { height = n }

-- what is left of an area behind so much of it
abbrev pub beyond : Axis → ℕ → Rect → Rect
beyond Across n area = record area { col = area.col + n; width = area.width - n }
beyond Down n area = record area { row = area.row + n; height = area.height - n }

-- the sizes of the children of a group in an area: the area without separators is divided
abbrev pub child_sizes : Axis → Shapes → Rect → List ℕ
child_sizes a ts area = division (extent a area - gaps a ts) (child_list a ts)

-- the windows of a tree with their rectangles in an area, in tree order
abbrev mutual
  pub rects : Shape → Rect → List Placed
  rects (leaf l) area = record { window = l.window; rect = area } ∷ []
  rects (group a ts) area = rects_along a ts (child_sizes a ts area) area

  -- children of these sizes one behind another, with what stands between them
  pub rects_along : Axis → Shapes → List ℕ → Rect → List Placed
  rects_along a no_shapes sizes area = []
  rects_along a (more_shapes t ts) sizes area =
      rects t (part a (first sizes) area)
      ++ rects_along a ts (behind sizes) (beyond a (first sizes + gap a ts) area)

-- the rectangle of a window among windows with theirs
abbrev pub rect_among : ℤ → List Placed → Option Rect
rect_among w placed = option_map (λ p. p.rect) (find (λ p. int_eq p.window w) placed)

-- the separator at the left of an area where children follow
abbrev pub separator : Axis → Shapes → Rect → List Rect
separator Across (more_shapes t ts) area = part Across 1 area ∷ []
separator Across no_shapes area = []
separator Down ts area = []

-- the separators of a tree in an area
abbrev mutual
  pub separators : Shape → Rect → List Rect
  separators (leaf l) area = []
  separators (group a ts) area = separators_along a ts (child_sizes a ts area) area

  pub separators_along : Axis → Shapes → List ℕ → Rect → List Rect
  separators_along a no_shapes sizes area = []
  separators_along a (more_shapes t ts) sizes area =
      separators t (part a (first sizes) area)
      ++ separator a ts (beyond a (first sizes) area)
      ++ separators_along a ts (behind sizes) (beyond a (first sizes + gap a ts) area)

-- an area that has at least the least size of a tree
pub record IsRoomy (t : Shape) (area : Rect) : Type 0 where
  pub wide : least Across t ≤ area.width
  pub high : least Down t ≤ area.height

-- an area whose ends are numbers of 32 bits
pub record IsOnScreen (area : Rect) : Type 0 where
  pub right : area.col + area.width < 2 ^ 32
  pub bottom : area.row + area.height < 2 ^ 32
