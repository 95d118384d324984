-- Opening and closing a window keeps the order of the others.
use Rattle.std.proofs.Common.{◌≡◌, ◌≢◌, ℤ, Bool, true, false, ◌||◌, Option, Some, None, List, [], ◌∷◌, ◌++◌, refl, ap, sym, ◌∙◌, subst, append_assoc, append-nil, if◌then◌else◌}
use Rattle.std.specs.List.{All}
use Rattle.std.specs.Ordering.{int_eq}
use Rattle.std.proofs.lemmas.List.Elements.{All-nil, All-cons, All-append}
use Rattle.std.proofs.lemmas.Bool.Decides.{Decides-int_eq}
use Rattle.nv_layout.specs.Content.{Shape, leaf, group, Shapes, no_shapes, more_shapes}
use Rattle.nv_layout.specs.Least.{leaves_of, leaves_in}
use Rattle.nv_layout.specs.Changes.{holds, holds_among, append, put_before, axis_of, both, put_opened, split, split_among, group_left, put_left, close, close_among}
use Rattle.nv_layout.specs.Kept.{pair, FirstLeaf, SplitAddsBeside, leaves_left, CloseTakesAway}
use Rattle.nv_layout.specs.declared.nodes.Axis.{Axis}
use Rattle.nv_layout.specs.declared.nodes.Axis.TheVariants.{Across, Down}
use Rattle.nv_layout.specs.declared.nodes.Leaf.{Leaf}
use Rattle.nv_layout.specs.declared.nodes.Side.{Side}
use Rattle.nv_layout.specs.declared.nodes.Side.TheVariants.{Left, Right, Above, Below}

leaves_in-append : (ts us : Shapes) → leaves_in (append ts us) ≡ leaves_in ts ++ leaves_in us
leaves_in-append no_shapes us = refl
leaves_in-append (more_shapes t ts) us = ap (λ ls. leaves_of t ++ ls) (leaves_in-append ts us) ∙ sym (append_assoc (leaves_of t) (leaves_in ts) (leaves_in us))

pub leaves_in-put_before : (a : Axis) (t : Shape) (ts : Shapes) → leaves_in (put_before a t ts) ≡ leaves_of t ++ leaves_in ts
leaves_in-put_before a (leaf l) ts = refl
leaves_in-put_before Across (group Across us) ts = leaves_in-append us ts
leaves_in-put_before Across (group Down us) ts = refl
leaves_in-put_before Down (group Across us) ts = refl
leaves_in-put_before Down (group Down us) ts = leaves_in-append us ts

leaves_in-put_opened : (a : Axis) (t u : Shape) (ts : Shapes) → leaves_in (put_opened a t u ts) ≡ leaves_of u ++ leaves_in ts
leaves_in-put_opened a (leaf l) u ts = leaves_in-put_before a u ts
leaves_in-put_opened a (group b us) u ts = refl

leaves_in-put_left : (a : Axis) (o : Option Shape) (ts : Shapes) → leaves_in (put_left a o ts) ≡ leaves_left o ++ leaves_in ts
leaves_in-put_left a None ts = refl
leaves_in-put_left a (Some t) ts = leaves_in-put_before a t ts

leaves_left-group_left : (a : Axis) (ts : Shapes) → leaves_left (group_left a ts) ≡ leaves_in ts
leaves_left-group_left a no_shapes = refl
leaves_left-group_left a (more_shapes t no_shapes) = sym (append-nil (leaves_of t))
leaves_left-group_left a (more_shapes t (more_shapes u us)) = refl

leaves-both : (side : Side) (old new : Leaf) → leaves_in (both side old new) ≡ pair side old new
leaves-both Left old new = refl
leaves-both Right old new = refl
leaves-both Above old new = refl
leaves-both Below old new = refl

-- What a window's first leaf becomes: `to` gives the leaves that stand in its place.
record Becomes (w : ℤ) (to : Leaf → List Leaf) (before after : List Leaf) : Type 0 where
  front : List Leaf
  old : Leaf
  back : List Leaf
  is : FirstLeaf w before front old back
  now : after ≡ front ++ (to old ++ back)

module _ (w : ℤ) (to : Leaf → List Leaf) where
  becomes_here : (l : Leaf) (after : List Leaf) → l.window ≡ w → after ≡ to l → Becomes w to (l ∷ []) after
  becomes_here l after e f = record {
    front = [];
    old = l;
    back = [];
    is = record { stands = refl; named = e; unnamed = All-nil (λ m. m.window ≢ w) };
    now = f ∙ sym (append-nil (to l));
  }

  becomes_before : (before after ls : List Leaf) → Becomes w to before after → Becomes w to (before ++ ls) (after ++ ls)
  becomes_before before after ls b = record {
    front = b.front;
    old = b.old;
    back = b.back ++ ls;
    is = record {
      stands = ap (λ ms. ms ++ ls) b.is.stands ∙ append_assoc b.front (b.old ∷ b.back) ls;
      named = b.is.named;
      unnamed = b.is.unnamed;
    };
    now = ap (λ ms. ms ++ ls) b.now ∙ append_assoc b.front (to b.old ++ b.back) ls ∙ ap (λ ms. b.front ++ ms) (append_assoc (to b.old) b.back ls);
  }

  becomes_behind : (ls before after : List Leaf) → All (λ l. l.window ≢ w) ls → Becomes w to before after → Becomes w to (ls ++ before) (ls ++ after)
  becomes_behind ls before after h b = record {
    front = ls ++ b.front;
    old = b.old;
    back = b.back;
    is = record {
      stands = ap (λ ms. ls ++ ms) b.is.stands ∙ sym (append_assoc ls b.front (b.old ∷ b.back));
      named = b.is.named;
      unnamed = All-append (λ l. l.window ≢ w) ls b.front h b.is.unnamed;
    };
    now = ap (λ ms. ls ++ ms) b.now ∙ sym (append_assoc ls b.front (to b.old ++ b.back));
  }

-- a window that a tree doesn't hold is that of none of its leaves
pub or_false : (b c : Bool) → (b || c) ≡ false → (b ≡ false) × (c ≡ false)
or_false true c e = cc
or_false false c e = (refl, e)

mutual
  none_named : (w : ℤ) (t : Shape) → holds w t ≡ false → All (λ l. l.window ≢ w) (leaves_of t)
  none_named w (leaf l) e = All-cons (λ m. m.window ≢ w) l [] (λ f. absurd (let g : int_eq l.window w ≡ true = (Decides-int_eq l.window w).1 f in cc)) (All-nil (λ m. m.window ≢ w))
  none_named w (group a ts) e = none_named_in w ts e

  none_named_in : (w : ℤ) (ts : Shapes) → holds_among w ts ≡ false → All (λ l. l.window ≢ w) (leaves_in ts)
  none_named_in w no_shapes e = All-nil (λ m. m.window ≢ w)
  none_named_in w (more_shapes t ts) e =
      All-append (λ m. m.window ≢ w) (leaves_of t) (leaves_in ts)
      (none_named w t (or_false (holds w t) (holds_among w ts) e).0)
      (none_named_in w ts (or_false (holds w t) (holds_among w ts) e).1)

-- one child, whose leaves become `inner` where it holds the window, before others
module _ (w : ℤ) (to : Leaf → List Leaf) (t : Shape) (ts changed rest : Shapes) (inner : List Leaf) (changed_is : leaves_in changed ≡ inner ++ leaves_in ts) where
  becomes_among : (b : Bool) → holds w t ≡ b → (b || holds_among w ts) ≡ true →
      (holds w t ≡ true → Becomes w to (leaves_of t) inner) → (holds_among w ts ≡ true → Becomes w to (leaves_in ts) (leaves_in rest)) →
      Becomes w to (leaves_of t ++ leaves_in ts) (leaves_in (if b then changed else more_shapes t rest))
  becomes_among true e h here behind = subst (Becomes w to (leaves_of t ++ leaves_in ts)) (sym changed_is) (becomes_before w to (leaves_of t) inner (leaves_in ts) (here e))
  becomes_among false e h here behind = becomes_behind w to (leaves_of t) (leaves_in ts) (leaves_in rest) (none_named w t e) (behind h)

named_now : (l : Leaf) (w : ℤ) → int_eq l.window w ≡ true → l.window ≡ w
named_now l w e = (Decides-int_eq l.window w).0 e

opened_leaf : (side : Side) (new l : Leaf) (b : Bool) → b ≡ true → leaves_of (if b then group (axis_of side) (both side l new) else leaf l) ≡ pair side l new
opened_leaf side new l true e = leaves-both side l new
opened_leaf side new l false e = cc

closed_leaf : (l : Leaf) (b : Bool) → b ≡ true → leaves_left (if b then None else Some (leaf l)) ≡ []
closed_leaf l true e = refl
closed_leaf l false e = cc

mutual
  opened : (side : Side) (w : ℤ) (new : Leaf) (t : Shape) → holds w t ≡ true → Becomes w (λ l. pair side l new) (leaves_of t) (leaves_of (split side w new t))
  opened side w new (leaf l) h = becomes_here w (λ l. pair side l new) l (leaves_of (split side w new (leaf l))) (named_now l w h) (opened_leaf side new l (int_eq l.window w) h)
  opened side w new (group a ts) h = opened_among side w new a ts h

  opened_among : (side : Side) (w : ℤ) (new : Leaf) (a : Axis) (ts : Shapes) → holds_among w ts ≡ true → Becomes w (λ l. pair side l new) (leaves_in ts) (leaves_in (split_among a side w new ts))
  opened_among side w new a no_shapes h = absurd (cc)
  opened_among side w new a (more_shapes t ts) h =
      becomes_among w (λ l. pair side l new) t ts (put_opened a t (split side w new t) ts) (split_among a side w new ts) (leaves_of (split side w new t))
      (leaves_in-put_opened a t (split side w new t) ts) (holds w t) refl h (opened side w new t) (opened_among side w new a ts)

mutual
  closed : (w : ℤ) (t : Shape) → holds w t ≡ true → Becomes w (λ l. []) (leaves_of t) (leaves_left (close w t))
  closed w (leaf l) h = becomes_here w (λ l. []) l (leaves_left (close w (leaf l))) (named_now l w h) (closed_leaf l (int_eq l.window w) h)
  closed w (group a ts) h = subst (Becomes w (λ l. []) (leaves_in ts)) (sym (leaves_left-group_left a (close_among a w ts))) (closed_among w a ts h)

  closed_among : (w : ℤ) (a : Axis) (ts : Shapes) → holds_among w ts ≡ true → Becomes w (λ l. []) (leaves_in ts) (leaves_in (close_among a w ts))
  closed_among w a no_shapes h = absurd (cc)
  closed_among w a (more_shapes t ts) h =
      becomes_among w (λ l. []) t ts (put_left a (close w t) ts) (close_among a w ts) (leaves_left (close w t))
      (leaves_in-put_left a (close w t) ts) (holds w t) refl h (closed w t) (closed_among w a ts)

pub split_adds_beside : SplitAddsBeside
split_adds_beside side w new t h = let b = opened side w new t h in (b.front, b.old, b.back, b.is, b.now)

pub close_takes_away : CloseTakesAway
close_takes_away w t h = let b = closed w t h in (b.front, b.old, b.back, b.is, b.now)
