-- What opening and closing a window keeps.
use Rattle.std.specs.Prelude.{◌≡◌, ◌≢◌, ℕ, ◌+◌, ◌≤◌, ℤ, true, Option, Some, None, List, [], ◌∷◌, ◌++◌, All}
use Rattle.nv_layout.specs.Content.{Shape, leaf, group, Shapes, no_shapes, more_shapes}
use Rattle.nv_layout.specs.Least.{least, leaves_of, child_count, HasChild, EachGroup, NoneEmpty}
use Rattle.nv_layout.specs.Changes.{holds, split, close, with_wish}
use Rattle.nv_layout.specs.Tiling.{windows}
use Rattle.nv_layout.specs.declared.nodes.Axis.{Axis}
use Rattle.nv_layout.specs.declared.nodes.Axis.TheVariants.{Across, Down}
use Rattle.nv_layout.specs.declared.nodes.Leaf.{Leaf}
use Rattle.nv_layout.specs.declared.nodes.Side.{Side}
use Rattle.nv_layout.specs.declared.nodes.Side.TheVariants.{Left, Right, Above, Below}

-- a leaf and a new one on a side of it, in tree order
abbrev pub pair : Side → Leaf → Leaf → List Leaf
pair Left old new = new ∷ (old ∷ [])
pair Right old new = old ∷ (new ∷ [])
pair Above old new = new ∷ (old ∷ [])
pair Below old new = old ∷ (new ∷ [])

-- a window's first leaf among leaves, with those before and behind it
pub record FirstLeaf (w : ℤ) (all front : List Leaf) (old : Leaf) (back : List Leaf) : Type 0 where
  pub stands : all ≡ front ++ (old ∷ back)
  pub named : old.window ≡ w
  pub unnamed : All (λ l. l.window ≢ w) front

-- `split` adds the new leaf beside the window's first one, and keeps the order of the others.
abbrev pub SplitAddsBeside : Type 0
SplitAddsBeside =
    (side : Side) (w : ℤ) (new : Leaf) (t : Shape) → holds w t ≡ true →
    (front : List Leaf) × (old : Leaf) × (back : List Leaf) ×
    FirstLeaf w (leaves_of t) front old back
    × (leaves_of (split side w new t) ≡ front ++ (pair side old new ++ back))

-- the windows of what is left of a tree
abbrev pub leaves_left : Option Shape → List Leaf
leaves_left None = []
leaves_left (Some t) = leaves_of t

-- `close` takes the window's first leaf away, and keeps the order of the others.
abbrev pub CloseTakesAway : Type 0
CloseTakesAway =
    (w : ℤ) (t : Shape) → holds w t ≡ true →
    (front : List Leaf) × (old : Leaf) × (back : List Leaf) ×
    FirstLeaf w (leaves_of t) front old back × (leaves_left (close w t) ≡ front ++ back)

-- a group that hasn't a single child
abbrev pub HasNoSingleChild : Axis → Shapes → Type 0
HasNoSingleChild a ts = child_count ts ≢ 1

-- a shape that is no group along an axis
abbrev pub IsOtherKind : Axis → Shape → Type 0
IsOtherKind a (leaf l) = Unit {0}
IsOtherKind Across (group Across ts) = ⊥
IsOtherKind Across (group Down ts) = Unit {0}
IsOtherKind Down (group Across ts) = Unit {0}
IsOtherKind Down (group Down ts) = ⊥

-- a group in which no group of its own kind stands: no Row in a Row, no Column in a Column
abbrev pub HasOtherKinds : Axis → Shapes → Type 0
HasOtherKinds a no_shapes = Unit {0}
HasOtherKinds a (more_shapes t ts) = IsOtherKind a t × HasOtherKinds a ts

-- a tree that keeps to a rule in each group keeps to it when a window is opened, and when one is
-- closed
abbrev pub SplitKeeps : (Axis → Shapes → Type 0) → Type 0
SplitKeeps P = (side : Side) (w : ℤ) (new : Leaf) (t : Shape) → EachGroup P t
    → EachGroup P (split side w new t)

abbrev pub CloseKeeps : (Axis → Shapes → Type 0) → Type 0
CloseKeeps P = (w : ℤ) (t u : Shape) → close w t ≡ Some u → EachGroup P t → EachGroup P u

-- No Row and no Column is left empty, with a single child, or in a group of its own kind, where
-- none was.
pub record ChangesKeepForm : Type 0 where
  pub split_none_empty : SplitKeeps HasChild
  pub split_none_single : SplitKeeps HasNoSingleChild
  pub split_none_nested : SplitKeeps HasOtherKinds
  pub close_none_empty : CloseKeeps HasChild
  pub close_none_single : CloseKeeps HasNoSingleChild
  pub close_none_nested : CloseKeeps HasOtherKinds

-- Opening a window asks each way for two cells more at most: a column and a separator, or two rows.
abbrev pub SplitAsksForTwo : Type 0
SplitAsksForTwo =
    (side : Side) (w : ℤ) (new : Leaf) (t : Shape) (a : Axis)
    → least a (split side w new t) ≤ least a t + 2

-- Closing a window asks for no more room.
abbrev pub CloseAsksForNoMore : Type 0
CloseAsksForNoMore =
    (w : ℤ) (t u : Shape) (a : Axis) → close w t ≡ Some u → least a u ≤ least a t

-- A wish changes neither the windows, nor the least size, nor which groups there are.
pub record WishKeepsForm : Type 0 where
  pub windows :
      (a : Axis) (n : ℕ) (w : ℤ) (t : Shape)
      → windows (leaves_of (with_wish a n w t)) ≡ windows (leaves_of t)
  pub least : (a b : Axis) (n : ℕ) (w : ℤ) (t : Shape) → least b (with_wish a n w t) ≡ least b t
  pub none_empty : (a : Axis) (n : ℕ) (w : ℤ) (t : Shape) → NoneEmpty t
      → NoneEmpty (with_wish a n w t)
