-- Opening and closing a window keeps what holds of each group.
use Rattle.std.proofs.Common.{◌≡◌, ℕ, ℤ, ◌+◌, ◌≤◌, Bool, true, false, Option, Some, None, refl, subst, arith, if◌then◌else◌}
use Rattle.std.specs.Ordering.{int_eq}
use Rattle.nv_layout.specs.Content.{Shape, leaf, group, Shapes, no_shapes, more_shapes}
use Rattle.nv_layout.specs.Least.{child_count, HasChild, EachGroup, EachGroupIn}
use Rattle.nv_layout.specs.Changes.{holds, append, put_before, axis_of, both, put_opened, split, split_among, group_left, put_left, close, close_among}
use Rattle.nv_layout.specs.Kept.{HasNoSingleChild, IsOtherKind, HasOtherKinds, ChangesKeepForm}
use Rattle.nv_layout.specs.declared.nodes.Axis.{Axis}
use Rattle.nv_layout.specs.declared.nodes.Axis.TheVariants.{Across, Down}
use Rattle.nv_layout.specs.declared.nodes.Leaf.{Leaf}
use Rattle.nv_layout.specs.declared.nodes.Side.{Side}
use Rattle.nv_layout.specs.declared.nodes.Side.TheVariants.{Left, Right, Above, Below}

-- how many children
child_count-append : (ts us : Shapes) → child_count (append ts us) ≡ child_count ts + child_count us
child_count-append no_shapes us = omega arith
child_count-append (more_shapes t ts) us = omega (arith, child_count-append ts us)

module _ (P : Axis → Shapes → Type 0) where
  EachGroupIn-append : (ts us : Shapes) → EachGroupIn P ts → EachGroupIn P us → EachGroupIn P (append ts us)
  EachGroupIn-append no_shapes us h k = k
  EachGroupIn-append (more_shapes t ts) us h k = (h.0, EachGroupIn-append ts us h.1 k)

  EachGroupIn-put_before : (a : Axis) (t : Shape) (ts : Shapes) → EachGroup P t → EachGroupIn P ts → EachGroupIn P (put_before a t ts)
  EachGroupIn-put_before a (leaf l) ts h k = (h, k)
  EachGroupIn-put_before Across (group Across us) ts h k = EachGroupIn-append us ts h.1 k
  EachGroupIn-put_before Across (group Down us) ts h k = (h, k)
  EachGroupIn-put_before Down (group Across us) ts h k = (h, k)
  EachGroupIn-put_before Down (group Down us) ts h k = EachGroupIn-append us ts h.1 k

  EachGroupIn-put_opened : (a : Axis) (t u : Shape) (ts : Shapes) → EachGroup P u → EachGroupIn P ts → EachGroupIn P (put_opened a t u ts)
  EachGroupIn-put_opened a (leaf l) u ts h k = EachGroupIn-put_before a u ts h k
  EachGroupIn-put_opened a (group b us) u ts h k = (h, k)

  EachGroupIn-either : (b : Bool) (ts us : Shapes) → EachGroupIn P ts → EachGroupIn P us → EachGroupIn P (if b then ts else us)
  EachGroupIn-either true ts us h k = h
  EachGroupIn-either false ts us h k = k

  EachGroup-either : (b : Bool) (t u : Shape) → EachGroup P t → EachGroup P u → EachGroup P (if b then t else u)
  EachGroup-either true t u h k = h
  EachGroup-either false t u h k = k

  leaves_have_no_group : (side : Side) (old new : Leaf) → EachGroupIn P (both side old new)
  leaves_have_no_group Left old new = (tt, (tt, tt))
  leaves_have_no_group Right old new = (tt, (tt, tt))
  leaves_have_no_group Above old new = (tt, (tt, tt))
  leaves_have_no_group Below old new = (tt, (tt, tt))

-- opening keeps a rule of groups that both windows keep to, and that opening among children keeps
module _ (P : Axis → Shapes → Type 0) (side : Side) (w : ℤ) (new : Leaf) (of_both : (l : Leaf) → P (axis_of side) (both side l new)) (of_among : (a : Axis) (ts : Shapes) → P a ts → P a (split_among a side w new ts)) where
  mutual
    split_keeps : (t : Shape) → EachGroup P t → EachGroup P (split side w new t)
    split_keeps (leaf l) h = EachGroup-either P (int_eq l.window w) (group (axis_of side) (both side l new)) (leaf l) (of_both l, leaves_have_no_group P side l new) tt
    split_keeps (group a ts) h = (of_among a ts h.0, split_among_keeps a ts h.1)

    split_among_keeps : (a : Axis) (ts : Shapes) → EachGroupIn P ts → EachGroupIn P (split_among a side w new ts)
    split_among_keeps a no_shapes h = tt
    split_among_keeps a (more_shapes t ts) h =
        EachGroupIn-either P (holds w t) (put_opened a t (split side w new t) ts) (more_shapes t (split_among a side w new ts))
        (EachGroupIn-put_opened P a t (split side w new t) ts (split_keeps t h.0) h.1)
        (h.0, split_among_keeps a ts h.1)

child_count-either : (b : Bool) (ts us : Shapes) (n : ℕ) → n ≤ child_count ts → n ≤ child_count us → n ≤ child_count (if b then ts else us)
child_count-either true ts us n h k = h
child_count-either false ts us n h k = k

both_are_two : (side : Side) (old new : Leaf) → child_count (both side old new) ≡ 2
both_are_two Left old new = refl
both_are_two Right old new = refl
both_are_two Above old new = refl
both_are_two Below old new = refl

-- the group of two windows, or the window that was there, before others
child_count-put_both : (a b : Axis) (us ts : Shapes) → child_count us ≡ 2 → 1 + child_count ts ≤ child_count (put_before a (group b us) ts)
child_count-put_both Across Across us ts e = omega (arith, child_count-append us ts)
child_count-put_both Across Down us ts e = omega arith
child_count-put_both Down Across us ts e = omega arith
child_count-put_both Down Down us ts e = omega (arith, child_count-append us ts)

child_count-put_split : (a : Axis) (side : Side) (w : ℤ) (new : Leaf) (t : Shape) (ts : Shapes) → 1 + child_count ts ≤ child_count (put_opened a t (split side w new t) ts)
child_count-put_split a side w new (leaf l) ts = by_name (int_eq l.window w)
  where
    by_name : (b : Bool) → 1 + child_count ts ≤ child_count (put_before a (if b then group (axis_of side) (both side l new) else leaf l) ts)
    by_name true = child_count-put_both a (axis_of side) (both side l new) ts (both_are_two side l new)
    by_name false = omega arith
child_count-put_split a side w new (group b us) ts = omega arith

more_among : (side : Side) (w : ℤ) (new : Leaf) (a : Axis) (ts : Shapes) → child_count ts ≤ child_count (split_among a side w new ts)
more_among side w new a no_shapes = omega arith
more_among side w new a (more_shapes t ts) = child_count-either (holds w t) (put_opened a t (split side w new t) ts) (more_shapes t (split_among a side w new ts)) (1 + child_count ts) (child_count-put_split a side w new t ts) (omega (arith, more_among side w new a ts))

-- an empty group stays empty
still_not_single : (side : Side) (w : ℤ) (new : Leaf) (a : Axis) (ts : Shapes) → HasNoSingleChild a ts → HasNoSingleChild a (split_among a side w new ts)
still_not_single side w new a no_shapes h = h
still_not_single side w new a (more_shapes t ts) h = λ e. h (omega (arith, more_among side w new a (more_shapes t ts)))

-- other kinds in a group
others_append : (a : Axis) (ts us : Shapes) → HasOtherKinds a ts → HasOtherKinds a us → HasOtherKinds a (append ts us)
others_append a no_shapes us h k = k
others_append a (more_shapes t ts) us h k = (h.0, others_append a ts us h.1 k)

others_either : (a : Axis) (b : Bool) (ts us : Shapes) → HasOtherKinds a ts → HasOtherKinds a us → HasOtherKinds a (if b then ts else us)
others_either a true ts us h k = h
others_either a false ts us h k = k

-- a tree that keeps to the rule gives, before others, none of the group's own kind
others_put_before : (a : Axis) (t : Shape) (ts : Shapes) → EachGroup HasOtherKinds t → HasOtherKinds a ts → HasOtherKinds a (put_before a t ts)
others_put_before a (leaf l) ts h k = (tt, k)
others_put_before Across (group Across us) ts h k = others_append Across us ts h.0 k
others_put_before Across (group Down us) ts h k = (tt, k)
others_put_before Down (group Across us) ts h k = (tt, k)
others_put_before Down (group Down us) ts h k = others_append Down us ts h.0 k

both_are_leaves : (a : Axis) (side : Side) (old new : Leaf) → HasOtherKinds a (both side old new)
both_are_leaves a Left old new = (tt, (tt, tt))
both_are_leaves a Right old new = (tt, (tt, tt))
both_are_leaves a Above old new = (tt, (tt, tt))
both_are_leaves a Below old new = (tt, (tt, tt))

opened_leaf_keeps : (side : Side) (w : ℤ) (new l : Leaf) → EachGroup HasOtherKinds (split side w new (leaf l))
opened_leaf_keeps side w new l = EachGroup-either HasOtherKinds (int_eq l.window w) (group (axis_of side) (both side l new)) (leaf l) (both_are_leaves (axis_of side) side l new, leaves_have_no_group HasOtherKinds side l new) tt

others_put_split : (a : Axis) (side : Side) (w : ℤ) (new : Leaf) (t : Shape) (ts : Shapes) → IsOtherKind a t → HasOtherKinds a ts → HasOtherKinds a (put_opened a t (split side w new t) ts)
others_put_split a side w new (leaf l) ts h k = others_put_before a (split side w new (leaf l)) ts (opened_leaf_keeps side w new l) k
others_put_split Across side w new (group Down us) ts h k = (tt, k)
others_put_split Down side w new (group Across us) ts h k = (tt, k)
others_put_split Across side w new (group Across us) ts h k = absurd h
others_put_split Down side w new (group Down us) ts h k = absurd h

others_among : (side : Side) (w : ℤ) (new : Leaf) (a : Axis) (ts : Shapes) → HasOtherKinds a ts → HasOtherKinds a (split_among a side w new ts)
others_among side w new a no_shapes h = tt
others_among side w new a (more_shapes t ts) h =
    others_either a (holds w t) (put_opened a t (split side w new t) ts) (more_shapes t (split_among a side w new ts))
    (others_put_split a side w new t ts h.0 h.1)
    (h.0, others_among side w new a ts h.1)

-- what holds of each group in what is left
abbrev EachLeft : (Axis → Shapes → Type 0) → Option Shape → Type 0
EachLeft P None = Unit {0}
EachLeft P (Some u) = EachGroup P u

module _ (P : Axis → Shapes → Type 0) where
  EachLeft-either : (b : Bool) (o p : Option Shape) → EachLeft P o → EachLeft P p → EachLeft P (if b then o else p)
  EachLeft-either true o p h k = h
  EachLeft-either false o p h k = k

  EachLeft-group_left : (a : Axis) (ts : Shapes) → EachGroupIn P ts → (2 ≤ child_count ts → P a ts) → EachLeft P (group_left a ts)
  EachLeft-group_left a no_shapes h k = tt
  EachLeft-group_left a (more_shapes t no_shapes) h k = h.0
  EachLeft-group_left a (more_shapes t (more_shapes u us)) h k = (k (omega arith), h)

  EachGroupIn-put_left : (a : Axis) (o : Option Shape) (ts : Shapes) → EachLeft P o → EachGroupIn P ts → EachGroupIn P (put_left a o ts)
  EachGroupIn-put_left a None ts h k = k
  EachGroupIn-put_left a (Some t) ts h k = EachGroupIn-put_before P a t ts h k

-- closing keeps a rule that each group of two or more keeps to
module _ (P : Axis → Shapes → Type 0) (of_two : (a : Axis) (ts : Shapes) → 2 ≤ child_count ts → P a ts) (w : ℤ) where
  mutual
    close_keeps : (t : Shape) → EachGroup P t → EachLeft P (close w t)
    close_keeps (leaf l) h = EachLeft-either P (int_eq l.window w) None (Some (leaf l)) tt tt
    close_keeps (group a ts) h = EachLeft-group_left P a (close_among a w ts) (close_among_keeps a ts h.1) (of_two a (close_among a w ts))

    close_among_keeps : (a : Axis) (ts : Shapes) → EachGroupIn P ts → EachGroupIn P (close_among a w ts)
    close_among_keeps a no_shapes h = tt
    close_among_keeps a (more_shapes t ts) h =
        EachGroupIn-either P (holds w t) (put_left a (close w t) ts) (more_shapes t (close_among a w ts))
        (EachGroupIn-put_left P a (close w t) ts (close_keeps t h.0) h.1)
        (h.0, close_among_keeps a ts h.1)

others_put_left : (a : Axis) (o : Option Shape) (ts : Shapes) → EachLeft HasOtherKinds o → HasOtherKinds a ts → HasOtherKinds a (put_left a o ts)
others_put_left a None ts h k = k
others_put_left a (Some t) ts h k = others_put_before a t ts h k

mutual
  close_others : (w : ℤ) (t : Shape) → EachGroup HasOtherKinds t → EachLeft HasOtherKinds (close w t)
  close_others w (leaf l) h = EachLeft-either HasOtherKinds (int_eq l.window w) None (Some (leaf l)) tt tt
  close_others w (group a ts) h = EachLeft-group_left HasOtherKinds a (close_among a w ts) (close_among_groups w a ts h.1) (λ _. close_among_others w a ts h.0 h.1)

  close_among_groups : (w : ℤ) (a : Axis) (ts : Shapes) → EachGroupIn HasOtherKinds ts → EachGroupIn HasOtherKinds (close_among a w ts)
  close_among_groups w a no_shapes h = tt
  close_among_groups w a (more_shapes t ts) h =
      EachGroupIn-either HasOtherKinds (holds w t) (put_left a (close w t) ts) (more_shapes t (close_among a w ts))
      (EachGroupIn-put_left HasOtherKinds a (close w t) ts (close_others w t h.0) h.1)
      (h.0, close_among_groups w a ts h.1)

  close_among_others : (w : ℤ) (a : Axis) (ts : Shapes) → HasOtherKinds a ts → EachGroupIn HasOtherKinds ts → HasOtherKinds a (close_among a w ts)
  close_among_others w a no_shapes h k = tt
  close_among_others w a (more_shapes t ts) h k =
      others_either a (holds w t) (put_left a (close w t) ts) (more_shapes t (close_among a w ts))
      (others_put_left a (close w t) ts (close_others w t k.0) h.1)
      (h.0, close_among_others w a ts h.1 k.1)

is_left : (P : Axis → Shapes → Type 0) (o : Option Shape) (u : Shape) → o ≡ Some u → EachLeft P o → EachGroup P u
is_left P o u e h = subst (EachLeft P) e h

pub changes_keep_form : ChangesKeepForm
changes_keep_form = record {
  split_none_empty = λ side w new. split_keeps HasChild side w new (λ l. omega (arith, both_are_two side l new)) (λ a ts h. omega (arith, more_among side w new a ts));
  split_none_single = λ side w new. split_keeps HasNoSingleChild side w new (λ l e. omega (arith, both_are_two side l new)) (still_not_single side w new);
  split_none_nested = λ side w new. split_keeps HasOtherKinds side w new (λ l. both_are_leaves (axis_of side) side l new) (others_among side w new);
  close_none_empty = λ w t u e h. is_left HasChild (close w t) u e (close_keeps HasChild (λ a ts two. omega arith) w t h);
  close_none_single = λ w t u e h. is_left HasNoSingleChild (close w t) u e (close_keeps HasNoSingleChild (λ a ts two e. omega arith) w t h);
  close_none_nested = λ w t u e h. is_left HasOtherKinds (close w t) u e (close_others w t h);
}
