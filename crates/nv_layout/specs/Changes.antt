-- Opening a window beside another, closing one, and putting a wish (own rules; `nvim_open_win`,
-- `nvim_win_close`, `nvim_win_set_width`).
use Rattle.std.specs.Prelude.{ℕ, ℤ, Bool, false, ◌||◌, Option, Some, None, if◌then◌else◌}
use Rattle.std.specs.Ordering.{int_eq}
use Rattle.nv_layout.specs.Content.{Shape, leaf, group, Shapes, no_shapes, more_shapes}
use Rattle.nv_layout.specs.declared.nodes.Axis.{Axis}
use Rattle.nv_layout.specs.declared.nodes.Axis.TheVariants.{Across, Down}
use Rattle.nv_layout.specs.declared.nodes.Leaf.{Leaf}
use Rattle.nv_layout.specs.declared.nodes.Side.{Side}
use Rattle.nv_layout.specs.declared.nodes.Side.TheVariants.{Left, Right, Above, Below}

-- whether a window is in a tree
abbrev mutual
  pub holds : ℤ → Shape → Bool
  holds w (leaf l) = int_eq l.window w
  holds w (group a ts) = holds_among w ts

  pub holds_among : ℤ → Shapes → Bool
  holds_among w no_shapes = false
  holds_among w (more_shapes t ts) = holds w t || holds_among w ts

-- shapes one behind another
abbrev pub append : Shapes → Shapes → Shapes
append no_shapes us = us
append (more_shapes t ts) us = more_shapes t (append ts us)

-- A child before others in a group along an axis: a group along that axis gives its children in its
-- place.
abbrev pub put_before : Axis → Shape → Shapes → Shapes
put_before a (leaf l) ts = more_shapes (leaf l) ts
put_before Across (group Across us) ts = append us ts
put_before Across (group Down us) ts = more_shapes (group Down us) ts
put_before Down (group Across us) ts = more_shapes (group Across us) ts
put_before Down (group Down us) ts = append us ts

-- the axis along which a side lies
abbrev pub axis_of : Side → Axis
axis_of Left = Across
axis_of Right = Across
axis_of Above = Down
axis_of Below = Down

-- a window and a new one on a side of it
abbrev pub both : Side → Leaf → Leaf → Shapes
both Left old new = more_shapes (leaf new) (more_shapes (leaf old) no_shapes)
both Right old new = more_shapes (leaf old) (more_shapes (leaf new) no_shapes)
both Above old new = more_shapes (leaf new) (more_shapes (leaf old) no_shapes)
both Below old new = more_shapes (leaf old) (more_shapes (leaf new) no_shapes)

-- A child that a window was opened in, before others: where the child was the leaf itself, a group
-- along the axis takes both windows.
abbrev pub put_opened : Axis → Shape → Shape → Shapes → Shapes
put_opened a (leaf l) opened ts = put_before a opened ts
put_opened a (group b us) opened ts = more_shapes opened ts

-- The first leaf of a window becomes a Row or Column of it and the new leaf. Where the leaf stands
-- in a group of that kind, both stand there in its place.
abbrev mutual
  pub split : Side → ℤ → Leaf → Shape → Shape
  split side w new (leaf l) =
      if int_eq l.window w then group (axis_of side) (both side l new) else leaf l
  split side w new (group a ts) = group a (split_among a side w new ts)

  pub split_among : Axis → Side → ℤ → Leaf → Shapes → Shapes
  split_among a side w new no_shapes = no_shapes
  split_among a side w new (more_shapes t ts) =
      if holds w t
      then put_opened a t (split side w new t) ts
      else more_shapes t (split_among a side w new ts)

-- a group with these children: none where there are none, and the child where there is one
abbrev pub group_left : Axis → Shapes → Option Shape
group_left a no_shapes = None
group_left a (more_shapes t no_shapes) = Some t
group_left a (more_shapes t (more_shapes u us)) = Some (group a (more_shapes t (more_shapes u us)))

-- what is left of a child, before others in a group along an axis
abbrev pub put_left : Axis → Option Shape → Shapes → Shapes
put_left a None ts = ts
put_left a (Some t) ts = put_before a t ts

-- What is left of a tree without the first leaf of a window: a group with one child left is
-- replaced by it, and a group in a group of its kind gives its children to it.
abbrev mutual
  pub close : ℤ → Shape → Option Shape
  close w (leaf l) = if int_eq l.window w then None else Some (leaf l)
  close w (group a ts) = group_left a (close_among a w ts)

  pub close_among : Axis → ℤ → Shapes → Shapes
  close_among a w no_shapes = no_shapes
  close_among a w (more_shapes t ts) =
      if holds w t
      then put_left a (close w t) ts
      else more_shapes t (close_among a w ts)

-- a leaf with a wish in place of the one that it had: the width, at Across, or the height, at Down,
-- which counts the status line
abbrev pub leaf_wishing : Axis → ℕ → Leaf → Leaf
leaf_wishing Across n l = record l { width = n }
leaf_wishing Down n l = record l { height = n }

-- a tree in which the leaf of a window wishes this (help: nvim_win_set_width(),
-- nvim_win_set_height())
abbrev mutual
  pub with_wish : Axis → ℕ → ℤ → Shape → Shape
  with_wish a n w (leaf l) = if int_eq l.window w then leaf (leaf_wishing a n l) else leaf l
  with_wish a n w (group b ts) = group b (with_wish_among a n w ts)

  pub with_wish_among : Axis → ℕ → ℤ → Shapes → Shapes
  with_wish_among a n w no_shapes = no_shapes
  with_wish_among a n w (more_shapes t ts) =
      more_shapes (with_wish a n w t) (with_wish_among a n w ts)
