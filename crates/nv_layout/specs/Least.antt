-- The least size of a tree, its wishes and its windows.
use Rattle.std.specs.Prelude.{ℕ, ◌+◌, ◌^◌, ◌<◌, ◌≤◌, max, List, [], ◌∷◌, ◌++◌}
use Rattle.nv_layout.specs.Content.{Shape, leaf, group, Shapes, no_shapes, more_shapes}
use Rattle.nv_layout.specs.Division.{Child}
use Rattle.nv_layout.specs.declared.nodes.Axis.{Axis}
use Rattle.nv_layout.specs.declared.nodes.Axis.TheVariants.{Across, Down}
use Rattle.nv_layout.specs.declared.nodes.Leaf.{Leaf}

-- a window has one column, and two rows: text and its status line
abbrev pub leaf_least : Axis → ℕ
leaf_least Across = 1
leaf_least Down = 2

-- what stands between a child and those behind it: a separator column in a Row, nothing in a Column
abbrev pub gap : Axis → Shapes → ℕ
gap Across (more_shapes t ts) = 1
gap Across no_shapes = 0
gap Down ts = 0

-- all that stands between neighbours
abbrev pub gaps : Axis → Shapes → ℕ
gaps a no_shapes = 0
gaps a (more_shapes t ts) = gap a ts + gaps a ts

-- of two numbers, the first along an axis of one's own, and the second across it
abbrev pub along_or_across : Axis → Axis → ℕ → ℕ → ℕ
along_or_across Across Across m n = m
along_or_across Across Down m n = n
along_or_across Down Across m n = n
along_or_across Down Down m n = m

-- the least width, at Across, and the least height, at Down
abbrev mutual
  pub least : Axis → Shape → ℕ
  least a (leaf l) = leaf_least a
  least a (group b ts) = along_or_across a b (least_sum a ts) (least_max a ts)

  -- of children that follow one another along the axis, with what stands between them
  pub least_sum : Axis → Shapes → ℕ
  least_sum a no_shapes = 0
  least_sum a (more_shapes t ts) = least a t + (gap a ts + least_sum a ts)

  -- of children side by side
  pub least_max : Axis → Shapes → ℕ
  least_max a no_shapes = 0
  least_max a (more_shapes t ts) = max (least a t) (least_max a ts)

-- what a child wishes for along an axis: a window its width or height, a group nothing
abbrev pub wish : Axis → Shape → ℕ
wish Across (leaf l) = l.width
wish Down (leaf l) = l.height
wish a (group b ts) = 0

-- a child, and the children of a group, as they count in its division
abbrev pub child : Axis → Shape → Child
child a t = record { least = least a t; wish = wish a t }

abbrev pub child_list : Axis → Shapes → List Child
child_list a no_shapes = []
child_list a (more_shapes t ts) = child a t ∷ child_list a ts

-- the windows, in order
abbrev mutual
  pub leaves_of : Shape → List Leaf
  leaves_of (leaf l) = l ∷ []
  leaves_of (group a ts) = leaves_in ts

  pub leaves_in : Shapes → List Leaf
  leaves_in no_shapes = []
  leaves_in (more_shapes t ts) = leaves_of t ++ leaves_in ts

-- what holds of each group in a tree
abbrev mutual
  pub EachGroup : (Axis → Shapes → Type 0) → Shape → Type 0
  EachGroup P (leaf l) = Unit {0}
  EachGroup P (group a ts) = P a ts × EachGroupIn P ts

  pub EachGroupIn : (Axis → Shapes → Type 0) → Shapes → Type 0
  EachGroupIn P no_shapes = Unit {0}
  EachGroupIn P (more_shapes t ts) = EachGroup P t × EachGroupIn P ts

-- how many children
abbrev pub child_count : Shapes → ℕ
child_count no_shapes = 0
child_count (more_shapes t ts) = 1 + child_count ts

-- a group that has a child
abbrev pub HasChild : Axis → Shapes → Type 0
HasChild a ts = 1 ≤ child_count ts

-- a tree in which no Row and no Column is empty
abbrev pub NoneEmpty : Shape → Type 0
NoneEmpty = EachGroup HasChild

-- a least size that a screen can have
abbrev pub IsMeasurable : Shape → Type 0
IsMeasurable t = (least Across t < 2 ^ 32) × (least Down t < 2 ^ 32)
