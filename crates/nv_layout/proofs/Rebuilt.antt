-- Trees that are rebuilt child by child.
use Rattle.std.proofs.Common.{◌≡◌, ℕ, ℤ, ◌+◌, ◌-◌, ◌≤◌, ◌<◌, Bool, true, false, ◌||◌, nat_lt, Option, Some, None, List, [], ◌∷◌, ◌++◌, length, length-drop, take, drop, get_or, if◌then◌else◌, refl, ap, sym, ◌∙◌, arith}
use Rattle.std.proofs.lemmas.Bool.Decides.{nat_tests}
use Rattle.std.proofs.lemmas.List.{take-append-drop, take_all, take_more, get_or_default}
use Rattle.nv_layout.specs.Content.{Shape, leaf, group, Shapes, no_shapes, more_shapes, shape_of, shapes_of}
use Rattle.nv_layout.specs.Changes.{holds, holds_among, append, put_before, axis_of, both, put_opened, split, split_among, group_left, put_left, close, close_among}
use Rattle.nv_layout.specs.declared.nodes.Axis.{Axis}
use Rattle.nv_layout.specs.declared.nodes.Axis.TheVariants.{Across, Down}
use Rattle.nv_layout.specs.declared.nodes.Leaf.{Leaf}
use Rattle.nv_layout.specs.declared.nodes.Side.{Side}
use Rattle.nv_layout.specs.declared.nodes.Tree.{Tree}
use Rattle.nv_layout.specs.declared.nodes.Tree.TheVariants.{Row as RowOf, Column as ColumnOf}
use Rattle.std.specs.Prelude.{Vec, Result, Ok, Err, is_ok, OnOk}
use Rattle.std.specs.declared.alloc.Global.{Global}
use Rattle.nv_layout.proofs.Contents.{shapes_of-at, shape_of-Row, shape_of-Column}
use Rattle.nv_layout.proofs.LeafOrder.{or_false}

pub append-assoc : (ts us vs : Shapes) → append (append ts us) vs ≡ append ts (append us vs)
append-assoc no_shapes us vs = refl
append-assoc (more_shapes t ts) us vs = ap (more_shapes t) (append-assoc ts us vs)

pub append-none : (ts : Shapes) → append ts no_shapes ≡ ts
append-none no_shapes = refl
append-none (more_shapes t ts) = ap (more_shapes t) (append-none ts)

pub shapes_of-append : (ts us : List Tree) → shapes_of (ts ++ us) ≡ append (shapes_of ts) (shapes_of us)
shapes_of-append [] us = refl
shapes_of-append (t ∷ ts) us = ap (more_shapes (shape_of t)) (shapes_of-append ts us)

pub shapes_of-push : (ts : List Tree) (t : Tree) → shapes_of (ts ++ t ∷ []) ≡ append (shapes_of ts) (more_shapes (shape_of t) no_shapes)
shapes_of-push ts t = shapes_of-append ts (t ∷ [])

-- a list of trees about one of them
pub shapes_of-about : (ts : List Tree) (i : ℕ) (t : Tree) → i < length ts → t ≡ get_or ts i t → shapes_of ts ≡ append (shapes_of (take i ts)) (more_shapes (shape_of t) (shapes_of (drop (i + 1) ts)))
shapes_of-about ts i t h is =
    ap shapes_of (sym (take-append-drop i ts)) ∙ shapes_of-append (take i ts) (drop i ts)
    ∙ ap (append (shapes_of (take i ts))) (shapes_of-at ts i t h ∙ ap (λ u. more_shapes (shape_of u) (shapes_of (drop (i + 1) ts))) (sym is))

-- one more copied
pub copied_step : (ts : List Tree) (i : ℕ) (t : Tree) (before all : Shapes) → i < length ts → t ≡ get_or ts i t → append before (shapes_of (drop i ts)) ≡ all → append (append before (more_shapes (shape_of t) no_shapes)) (shapes_of (drop (i + 1) ts)) ≡ all
copied_step ts i t before all h is e =
    append-assoc before (more_shapes (shape_of t) no_shapes) (shapes_of (drop (i + 1) ts))
    ∙ ap (append before) (sym (shapes_of-at ts i t h ∙ ap (λ u. more_shapes (shape_of u) (shapes_of (drop (i + 1) ts))) (sym is)))
    ∙ e

-- where a window is
pub holds_among-append : (w : ℤ) (ts us : Shapes) → holds_among w (append ts us) ≡ (holds_among w ts || holds_among w us)
holds_among-append w no_shapes us = refl
holds_among-append w (more_shapes t ts) us = ap (λ b. holds w t || b) (holds_among-append w ts us) ∙ or_assoc (holds w t) (holds_among w ts) (holds_among w us)
  where
    or_assoc : (a b c : Bool) → (a || (b || c)) ≡ ((a || b) || c)
    or_assoc true b c = refl
    or_assoc false b c = refl

-- no earlier child holds it
pub none_before : (w : ℤ) (ts : List Tree) (i : ℕ) (t : Tree) → i < length ts → t ≡ get_or ts i t → holds_among w (shapes_of (take i ts)) ≡ false → holds w (shape_of t) ≡ false → holds_among w (shapes_of (take (i + 1) ts)) ≡ false
none_before w ts i t h is e f =
    ap (λ us. holds_among w (shapes_of us)) (take_more ts i t h ∙ ap (λ u. take i ts ++ u ∷ []) (sym is))
    ∙ ap (holds_among w) (shapes_of-push (take i ts) t)
    ∙ holds_among-append w (shapes_of (take i ts)) (more_shapes (shape_of t) no_shapes)
    ∙ neither (holds_among w (shapes_of (take i ts))) (holds w (shape_of t)) e f
  where
    neither : (a b : Bool) → a ≡ false → b ≡ false → (a || (b || false)) ≡ false
    neither true b e f = cc
    neither false true e f = cc
    neither false false e f = refl

pub none_in_all : (w : ℤ) (ts : List Tree) (i : ℕ) → length ts ≤ i → holds_among w (shapes_of (take i ts)) ≡ false → holds_among w (shapes_of ts) ≡ false
none_in_all w ts i h e = ap (λ us. holds_among w (shapes_of us)) (sym (take_all i ts h)) ∙ e

held_about : (w : ℤ) (front back : Shapes) (t : Shape) → holds w t ≡ true → holds_among w (append front (more_shapes t back)) ≡ true
held_about w front back t e =
    holds_among-append w front (more_shapes t back) ∙ ap (λ b. holds_among w front || (b || holds_among w back)) e ∙ or_true (holds_among w front)
  where
    or_true : (a : Bool) → (a || true) ≡ true
    or_true true = refl
    or_true false = refl

less_true : (m n : ℕ) → m < n → nat_lt m n ≡ true
less_true m n h = grind (arith, nat_tests)

less_false : (m n : ℕ) → n ≤ m → nat_lt m n ≡ false
less_false m n h = grind (arith, nat_tests)

less_is : (m n : ℕ) → nat_lt m n ≡ true → m < n
less_is m n e = grind (arith, nat_tests)

less_isnt : (m n : ℕ) → nat_lt m n ≡ false → n ≤ m
less_isnt m n e = grind (arith, nat_tests)

module _ (w : ℤ) (ts : List Tree) (place : ℕ) (before : holds_among w (shapes_of (take place ts)) ≡ false)
    (here : (d : Tree) → place < length ts → holds w (shape_of (get_or ts place d)) ≡ true) where
  held_there : (b : Bool) → nat_lt place (length ts) ≡ b → holds_among w (shapes_of ts) ≡ b
  held_there true e = held_at ts before here (less_is place (length ts) e)
    where
      held_at : (ts : List Tree) → holds_among w (shapes_of (take place ts)) ≡ false → ((d : Tree) → place < length ts → holds w (shape_of (get_or ts place d)) ≡ true) → place < length ts → holds_among w (shapes_of ts) ≡ true
      held_at [] before here h = absurd (omega arith)
      held_at (t ∷ us) before here h =
          let found : Tree = get_or (t ∷ us) place t in
          ap (holds_among w) (shapes_of-about (t ∷ us) place found h (get_or_default (t ∷ us) place t found h))
          ∙ held_about w (shapes_of (take place (t ∷ us))) (shapes_of (drop (place + 1) (t ∷ us))) (shape_of found) (here t h)
  held_there false e = none_in_all w ts place (less_isnt place (length ts) e) before

  pub holds_by_place : nat_lt place (length ts) ≡ holds_among w (shapes_of ts)
  holds_by_place = sym (held_there (nat_lt place (length ts)) refl)

  pub place_within : holds_among w (shapes_of ts) ≡ true → place < length ts
  place_within e = less_is place (length ts) (holds_by_place ∙ e)

-- what stands at the end of some shapes stands before others
pub put_before-append : (a : Axis) (t : Shape) (ts : Shapes) → append (put_before a t no_shapes) ts ≡ put_before a t ts
put_before-append a (leaf l) ts = refl
put_before-append Across (group Across us) ts = append-assoc us no_shapes ts
put_before-append Across (group Down us) ts = refl
put_before-append Down (group Across us) ts = refl
put_before-append Down (group Down us) ts = append-assoc us no_shapes ts

pub put_opened-append : (a : Axis) (t u : Shape) (ts : Shapes) → append (put_opened a t u no_shapes) ts ≡ put_opened a t u ts
put_opened-append a (leaf l) u ts = put_before-append a u ts
put_opened-append a (group b us) u ts = refl

pub put_left-append : (a : Axis) (o : Option Shape) (ts : Shapes) → append (put_left a o no_shapes) ts ≡ put_left a o ts
put_left-append a None ts = refl
put_left-append a (Some t) ts = put_before-append a t ts

-- opening and closing behind children that don't hold the window
pub split_among-first : (a : Axis) (side : Side) (w : ℤ) (new : Leaf) (front : Shapes) (t : Shape) (back : Shapes) → holds_among w front ≡ false → holds w t ≡ true →
    split_among a side w new (append front (more_shapes t back)) ≡ append front (put_opened a t (split side w new t) back)
split_among-first a side w new no_shapes t back e f = ap (λ b. if b then put_opened a t (split side w new t) back else more_shapes t (split_among a side w new back)) f
split_among-first a side w new (more_shapes u us) t back e f =
    ap (λ b. if b then put_opened a u (split side w new u) (append us (more_shapes t back)) else more_shapes u (split_among a side w new (append us (more_shapes t back)))) (or_false (holds w u) (holds_among w us) e).0
    ∙ ap (more_shapes u) (split_among-first a side w new us t back (or_false (holds w u) (holds_among w us) e).1 f)

pub close_among-first : (a : Axis) (w : ℤ) (front : Shapes) (t : Shape) (back : Shapes) → holds_among w front ≡ false → holds w t ≡ true →
    close_among a w (append front (more_shapes t back)) ≡ append front (put_left a (close w t) back)
close_among-first a w no_shapes t back e f = ap (λ b. if b then put_left a (close w t) back else more_shapes t (close_among a w back)) f
close_among-first a w (more_shapes u us) t back e f =
    ap (λ b. if b then put_left a (close w u) (append us (more_shapes t back)) else more_shapes u (close_among a w (append us (more_shapes t back)))) (or_false (holds w u) (holds_among w us) e).0
    ∙ ap (more_shapes u) (close_among-first a w us t back (or_false (holds w u) (holds_among w us) e).1 f)

-- where the window isn't there, nothing changes
mutual
  pub split-missing : (side : Side) (w : ℤ) (new : Leaf) (t : Shape) → holds w t ≡ false → split side w new t ≡ t
  split-missing side w new (leaf l) e = ap (λ b. if b then group (axis_of side) (both side l new) else leaf l) e
  split-missing side w new (group a ts) e = ap (group a) (split_among-missing a side w new ts e)

  split_among-missing : (a : Axis) (side : Side) (w : ℤ) (new : Leaf) (ts : Shapes) → holds_among w ts ≡ false → split_among a side w new ts ≡ ts
  split_among-missing a side w new no_shapes e = refl
  split_among-missing a side w new (more_shapes t ts) e =
      ap (λ b. if b then put_opened a t (split side w new t) ts else more_shapes t (split_among a side w new ts)) (or_false (holds w t) (holds_among w ts) e).0
      ∙ ap (more_shapes t) (split_among-missing a side w new ts (or_false (holds w t) (holds_among w ts) e).1)

-- a group is rebuilt
module _ (a : Axis) (w : ℤ) (ts : List Tree) (i : ℕ) (t : Tree) (h : i < length ts) (is : t ≡ get_or ts i t) (before : holds_among w (shapes_of (take i ts)) ≡ false) (here : holds w (shape_of t) ≡ true) (front middle all : Shapes) (front_is : front ≡ shapes_of (take i ts)) where
  pub opened_all : (side : Side) (new : Leaf) (u : Shape) → u ≡ split side w new (shape_of t) → middle ≡ append front (put_opened a (shape_of t) u no_shapes) → all ≡ append middle (shapes_of (drop (i + 1) ts)) → all ≡ split_among a side w new (shapes_of ts)
  opened_all side new u u_is middle_is all_is =
      all_is ∙ ap (λ ss. append ss (shapes_of (drop (i + 1) ts))) middle_is
      ∙ append-assoc front (put_opened a (shape_of t) u no_shapes) (shapes_of (drop (i + 1) ts))
      ∙ ap (append front) (put_opened-append a (shape_of t) u (shapes_of (drop (i + 1) ts)))
      ∙ ap (λ ss. append ss (put_opened a (shape_of t) u (shapes_of (drop (i + 1) ts)))) front_is
      ∙ ap (λ v. append (shapes_of (take i ts)) (put_opened a (shape_of t) v (shapes_of (drop (i + 1) ts)))) u_is
      ∙ sym (split_among-first a side w new (shapes_of (take i ts)) (shape_of t) (shapes_of (drop (i + 1) ts)) before here)
      ∙ ap (split_among a side w new) (sym (shapes_of-about ts i t h is))

  pub closed_all : (o : Option Shape) → o ≡ close w (shape_of t) → middle ≡ append front (put_left a o no_shapes) → all ≡ append middle (shapes_of (drop (i + 1) ts)) → all ≡ close_among a w (shapes_of ts)
  closed_all o o_is middle_is all_is =
      all_is ∙ ap (λ ss. append ss (shapes_of (drop (i + 1) ts))) middle_is
      ∙ append-assoc front (put_left a o no_shapes) (shapes_of (drop (i + 1) ts))
      ∙ ap (append front) (put_left-append a o (shapes_of (drop (i + 1) ts)))
      ∙ ap (λ ss. append ss (put_left a o (shapes_of (drop (i + 1) ts)))) front_is
      ∙ ap (λ v. append (shapes_of (take i ts)) (put_left a v (shapes_of (drop (i + 1) ts)))) o_is
      ∙ sym (close_among-first a w (shapes_of (take i ts)) (shape_of t) (shapes_of (drop (i + 1) ts)) before here)
      ∙ ap (close_among a w) (sym (shapes_of-about ts i t h is))

-- a group of few children, and of more
pub group_left-many : (a : Axis) (ts : List Tree) → 2 ≤ length ts → group_left a (shapes_of ts) ≡ Some (group a (shapes_of ts))
group_left-many a [] h = absurd (omega arith)
group_left-many a (t ∷ []) h = absurd (omega arith)
group_left-many a (t ∷ (u ∷ us)) h = refl

pub group_left-none : (a : Axis) (ts : List Tree) → length ts ≡ 0 → group_left a (shapes_of ts) ≡ None
group_left-none a [] h = refl
group_left-none a (t ∷ ts) h = absurd (omega arith)

pub group_left-one : (a : Axis) (ts : List Tree) (d : Tree) → length ts ≡ 1 → group_left a (shapes_of ts) ≡ Some (shape_of (get_or ts 0 d))
group_left-one a [] d h = absurd (omega arith)
group_left-one a (t ∷ []) d h = refl
group_left-one a (t ∷ (u ∷ us)) d h = absurd (omega arith)

-- what a call that may fail puts behind a list
pub on_ok_appended : {T E : Type 0} (r : Result T E) (new all more : List Tree) → new ≡ (if is_ok r then all ++ more else all) → OnOk r (shapes_of new ≡ append (shapes_of all) (shapes_of more))
on_ok_appended (Ok x) new all more e = ap shapes_of e ∙ shapes_of-append all more
on_ok_appended (Err x) new all more e = tt

-- a group puts its children in place of itself among its own kind
pub row_put : (a : Axis) (t : Tree) (v : Vec Tree Global) → a ≡ Across → t ≡ RowOf v → put_before a (shape_of t) no_shapes ≡ shapes_of v.items
row_put a t v e f = ap (λ b. put_before b (shape_of t) no_shapes) e ∙ ap (λ s. put_before Across s no_shapes) (ap shape_of f ∙ shape_of-Row v) ∙ append-none (shapes_of v.items)

pub column_put : (a : Axis) (t : Tree) (v : Vec Tree Global) → a ≡ Down → t ≡ ColumnOf v → put_before a (shape_of t) no_shapes ≡ shapes_of v.items
column_put a t v e f = ap (λ b. put_before b (shape_of t) no_shapes) e ∙ ap (λ s. put_before Down s no_shapes) (ap shape_of f ∙ shape_of-Column v) ∙ append-none (shapes_of v.items)

pub same_child : (ts : List Tree) (i : ℕ) (t u : Tree) → i < length ts → t ≡ get_or ts i t → u ≡ get_or ts i u → shape_of u ≡ shape_of t
same_child ts i t u h is is' = ap shape_of (is' ∙ get_or_default ts i u t h ∙ sym is)

-- the rest of a slice
pub slice_rest : (ts : List Tree) (n : ℕ) → take (length ts - n) (drop n ts) ≡ drop n ts
slice_rest ts n = take_all (length ts - n) (drop n ts) (omega (arith, length-drop n ts))
