-- How much room a tree asks for once a window is opened, closed, or wishes another size.
use Rattle.std.proofs.Common.{◌≡◌, ℕ, ℤ, ◌+◌, ◌≤◌, max, Bool, true, false, if◌then◌else◌, Option, Some, None, refl, subst, arith}
use Rattle.std.specs.Ordering.{int_eq}
use Rattle.nv_layout.specs.Content.{Shape, leaf, group, Shapes, no_shapes, more_shapes}
use Rattle.nv_layout.specs.Least.{leaf_least, gap, least, least_sum, least_max}
use Rattle.nv_layout.specs.Changes.{holds, append, put_before, axis_of, both, put_opened, split, split_among, group_left, put_left, close, close_among}
use Rattle.nv_layout.specs.Kept.{SplitAsksForTwo, CloseAsksForNoMore}
use Rattle.nv_layout.specs.declared.nodes.Axis.{Axis}
use Rattle.nv_layout.specs.declared.nodes.Axis.TheVariants.{Across, Down}
use Rattle.nv_layout.specs.declared.nodes.Leaf.{Leaf}
use Rattle.nv_layout.specs.declared.nodes.Side.{Side}
use Rattle.nv_layout.specs.declared.nodes.Side.TheVariants.{Left, Right, Above, Below}

-- a separator before children is one that stands before any
gap_most : (a : Axis) (ts : Shapes) (t : Shape) (us : Shapes) → gap a ts ≤ gap a (more_shapes t us)
gap_most Across no_shapes t us = omega arith
gap_most Across (more_shapes u ts) t us = omega arith
gap_most Down ts t us = omega arith

gap_none : (a : Axis) → gap a no_shapes ≡ 0
gap_none Across = refl
gap_none Down = refl

-- children one behind another ask for what both ask for, and what stands between them
sum_append : (a : Axis) (ts us : Shapes) → least_sum a (append ts us) ≤ least_sum a ts + (gap a us + least_sum a us)
sum_append a no_shapes us = omega arith
sum_append a (more_shapes t no_shapes) us = omega (arith, gap_none a)
sum_append a (more_shapes t (more_shapes u ts)) us = omega (arith, sum_append a (more_shapes u ts) us, gap_most a (append (more_shapes u ts) us) u ts)

max_append : (a : Axis) (ts us : Shapes) → least_max a (append ts us) ≤ max (least_max a ts) (least_max a us)
max_append a no_shapes us = omega arith
max_append a (more_shapes t ts) us = omega (arith, max_append a ts us)

-- a group asks for no more where a group of its kind gives it its children
asks_put : (a b : Axis) (t : Shape) (ts : Shapes) → least a (group b (put_before b t ts)) ≤ least a (group b (more_shapes t ts))
asks_put a b (leaf l) ts = omega arith
asks_put Across Across (group Across us) ts = sum_append Across us ts
asks_put Across Across (group Down us) ts = omega arith
asks_put Across Down (group Across us) ts = omega arith
asks_put Across Down (group Down us) ts = max_append Across us ts
asks_put Down Across (group Across us) ts = max_append Down us ts
asks_put Down Across (group Down us) ts = omega arith
asks_put Down Down (group Across us) ts = omega arith
asks_put Down Down (group Down us) ts = sum_append Down us ts

asks_opened : (a b : Axis) (t u : Shape) (ts : Shapes) → least a (group b (put_opened b t u ts)) ≤ least a (group b (more_shapes u ts))
asks_opened a b (leaf l) u ts = asks_put a b u ts
asks_opened a b (group c us) u ts = omega arith

-- what its first child, and what the others, ask for more
asks_first : (a b : Axis) (t u : Shape) (ts : Shapes) (n : ℕ) → least a u ≤ least a t + n → least a (group b (more_shapes u ts)) ≤ least a (group b (more_shapes t ts)) + n
asks_first Across Across t u ts n h = omega (arith, h)
asks_first Across Down t u ts n h = omega (arith, h)
asks_first Down Across t u ts n h = omega (arith, h)
asks_first Down Down t u ts n h = omega (arith, h)

asks_rest : (a b : Axis) (t : Shape) (ts us : Shapes) (n : ℕ) → gap a us ≤ gap a ts → least a (group b us) ≤ least a (group b ts) + n → least a (group b (more_shapes t us)) ≤ least a (group b (more_shapes t ts)) + n
asks_rest Across Across t ts us n g h = omega (arith, g, h)
asks_rest Across Down t ts us n g h = omega (arith, g, h)
asks_rest Down Across t ts us n g h = omega (arith, g, h)
asks_rest Down Down t ts us n g h = omega (arith, g, h)

asks_none : (a b : Axis) (t : Shape) (ts : Shapes) → least a (group b ts) ≤ least a (group b (more_shapes t ts))
asks_none Across Across t ts = omega arith
asks_none Across Down t ts = omega arith
asks_none Down Across t ts = omega arith
asks_none Down Down t ts = omega arith

asks_either : (c : Bool) (a b : Axis) (ts us : Shapes) (n : ℕ) → least a (group b ts) ≤ n → least a (group b us) ≤ n → least a (group b (if c then ts else us)) ≤ n
asks_either true a b ts us n h k = h
asks_either false a b ts us n h k = k

most_then : (k m n : ℕ) → k ≤ m → m ≤ n → k ≤ n
most_then k m n h j = omega (arith, h, j)

leaf_asks : (side : Side) (new l : Leaf) (c : Bool) (a : Axis) → least a (if c then group (axis_of side) (both side l new) else leaf l) ≤ leaf_least a + 2
leaf_asks side new l false a = omega arith
leaf_asks Left new l true Across = omega arith
leaf_asks Left new l true Down = omega arith
leaf_asks Right new l true Across = omega arith
leaf_asks Right new l true Down = omega arith
leaf_asks Above new l true Across = omega arith
leaf_asks Above new l true Down = omega arith
leaf_asks Below new l true Across = omega arith
leaf_asks Below new l true Down = omega arith

gap_split : (a b : Axis) (side : Side) (w : ℤ) (new : Leaf) (ts : Shapes) → gap a (split_among b side w new ts) ≤ gap a ts
gap_split a b side w new no_shapes = omega arith
gap_split a b side w new (more_shapes t ts) = gap_most a (split_among b side w new (more_shapes t ts)) t ts

mutual
  pub split_asks_for_two : SplitAsksForTwo
  split_asks_for_two side w new (leaf l) a = leaf_asks side new l (int_eq l.window w) a
  split_asks_for_two side w new (group b ts) a = group_asks side w new b ts a

  group_asks : (side : Side) (w : ℤ) (new : Leaf) (b : Axis) (ts : Shapes) (a : Axis) → least a (group b (split_among b side w new ts)) ≤ least a (group b ts) + 2
  group_asks side w new b no_shapes a = omega arith
  group_asks side w new b (more_shapes t ts) a =
      asks_either (holds w t) a b (put_opened b t (split side w new t) ts) (more_shapes t (split_among b side w new ts)) (least a (group b (more_shapes t ts)) + 2)
      (most_then _ _ _ (asks_opened a b t (split side w new t) ts) (asks_first a b t (split side w new t) ts 2 (split_asks_for_two side w new t a)))
      (asks_rest a b t ts (split_among b side w new ts) 2 (gap_split a b side w new ts) (group_asks side w new b ts a))

-- what is left of a tree, nothing of which asks for no room
abbrev left_asks : Axis → Option Shape → ℕ
left_asks a None = 0
left_asks a (Some t) = least a t

asks_left : (a b : Axis) (ts : Shapes) → left_asks a (group_left b ts) ≤ least a (group b ts)
asks_left a b no_shapes = omega arith
asks_left a b (more_shapes t (more_shapes u ts)) = omega arith
asks_left Across Across (more_shapes t no_shapes) = omega arith
asks_left Across Down (more_shapes t no_shapes) = omega arith
asks_left Down Across (more_shapes t no_shapes) = omega arith
asks_left Down Down (more_shapes t no_shapes) = omega arith

asks_put_left : (a b : Axis) (t : Shape) (o : Option Shape) (ts : Shapes) → left_asks a o ≤ least a t → least a (group b (put_left b o ts)) ≤ least a (group b (more_shapes t ts)) + 0
asks_put_left a b t None ts h = omega (arith, asks_none a b t ts)
asks_put_left a b t (Some u) ts h = most_then _ _ _ (asks_put a b u ts) (asks_first a b t u ts 0 (omega (arith, h)))

gap_close : (a b : Axis) (w : ℤ) (ts : Shapes) → gap a (close_among b w ts) ≤ gap a ts
gap_close a b w no_shapes = omega arith
gap_close a b w (more_shapes t ts) = gap_most a (close_among b w (more_shapes t ts)) t ts

leaf_left : (l : Leaf) (c : Bool) (a : Axis) → left_asks a (if c then None else Some (leaf l)) ≤ leaf_least a
leaf_left l true a = omega arith
leaf_left l false a = omega arith

mutual
  close_asks : (w : ℤ) (t : Shape) (a : Axis) → left_asks a (close w t) ≤ least a t
  close_asks w (leaf l) a = leaf_left l (int_eq l.window w) a
  close_asks w (group b ts) a = most_then _ _ _ (asks_left a b (close_among b w ts)) (omega (arith, close_among_asks w b ts a))

  close_among_asks : (w : ℤ) (b : Axis) (ts : Shapes) (a : Axis) → least a (group b (close_among b w ts)) ≤ least a (group b ts) + 0
  close_among_asks w b no_shapes a = omega arith
  close_among_asks w b (more_shapes t ts) a =
      asks_either (holds w t) a b (put_left b (close w t) ts) (more_shapes t (close_among b w ts)) (least a (group b (more_shapes t ts)) + 0)
      (asks_put_left a b t (close w t) ts (close_asks w t a))
      (asks_rest a b t ts (close_among b w ts) 0 (gap_close a b w ts) (close_among_asks w b ts a))

pub close_asks_for_no_more : CloseAsksForNoMore
close_asks_for_no_more w t u a e = subst (λ o. left_asks a o ≤ least a t) e (close_asks w t a)
