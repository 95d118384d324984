-- How often a handle is among others.
use Rattle.std.proofs.Common.{◌≡◌, ℕ, ℤ, ◌+◌, ◌<◌, Bool, true, false, ◌||◌, List, [], ◌∷◌, ◌++◌, Some, refl, ap, sym, ◌∙◌, arith}
use Rattle.std.specs.Prelude.{if◌then◌else◌}
use Rattle.std.specs.Ordering.{int_eq}
use Rattle.nv_layout.specs.Content.{Shape, leaf, group, Shapes, no_shapes, more_shapes}
use Rattle.nv_layout.specs.Changes.{holds, holds_among, split, close}
use Rattle.nv_layout.specs.Kept.{pair, leaves_left}
use Rattle.nv_layout.specs.Least.{leaves_of, leaves_in}
use Rattle.nv_layout.specs.Tiling.{windows}
use Rattle.nv_layout.specs.declared.nodes.Leaf.{Leaf}
use Rattle.nv_layout.specs.declared.nodes.Side.{Side}
use Rattle.nv_layout.specs.declared.nodes.Side.TheVariants.{Left, Right, Above, Below}
use Rattle.nv_layout.proofs.LeafOrder.{split_adds_beside, close_takes_away}
use Rattle.nv_layout.proofs.Wishing.{windows-append}
use Rattle.nv_windows.specs.Sound.{times_among}

-- 1 where two handles are one, else 0
abbrev pub once : ℤ → ℤ → ℕ
once n k = if int_eq k n then 1 else 0

pub times-append : (n : ℤ) (ks ls : List ℤ) → times_among n (ks ++ ls) ≡ times_among n ks + times_among n ls
times-append n [] ls = omega arith
times-append n (k ∷ ks) ls = omega (arith, times-append n ks ls)

-- whether a window is in a tree, and how often it is among its windows
or_some : (a b : Bool) (m n : ℕ) → (a ≡ true → 0 < m) → (b ≡ true → 0 < n) → (a || b) ≡ true → 0 < m + n
or_some true b m n f g e = omega (arith, f refl)
or_some false b m n f g e = omega (arith, g e)

or_none : (a b : Bool) (m n : ℕ) → (a ≡ false → m ≡ 0) → (b ≡ false → n ≡ 0) → (a || b) ≡ false → m + n ≡ 0
or_none true b m n f g e = cc
or_none false b m n f g e = omega (arith, f refl, g e)

one_if : (b : Bool) → b ≡ true → 0 < (if b then 1 else 0) + 0
one_if true e = omega arith
one_if false e = cc

none_if : (b : Bool) → b ≡ false → (if b then 1 else 0) + 0 ≡ 0
none_if true e = cc
none_if false e = refl

mutual
  pub held_some : (w : ℤ) (t : Shape) → holds w t ≡ true → 0 < times_among w (windows (leaves_of t))
  held_some w (leaf l) e = one_if (int_eq l.window w) e
  held_some w (group a ts) e = held_some_in w ts e

  held_some_in : (w : ℤ) (ts : Shapes) → holds_among w ts ≡ true → 0 < times_among w (windows (leaves_in ts))
  held_some_in w no_shapes e = cc
  held_some_in w (more_shapes t ts) e =
      let joined : times_among w (windows (leaves_of t ++ leaves_in ts)) ≡ times_among w (windows (leaves_of t)) + times_among w (windows (leaves_in ts)) =
      ap (times_among w) (windows-append (leaves_of t) (leaves_in ts)) ∙ times-append w (windows (leaves_of t)) (windows (leaves_in ts)) in
      omega (arith, joined, or_some (holds w t) (holds_among w ts) (times_among w (windows (leaves_of t))) (times_among w (windows (leaves_in ts))) (held_some w t) (held_some_in w ts) e)

mutual
  pub held_none : (w : ℤ) (t : Shape) → holds w t ≡ false → times_among w (windows (leaves_of t)) ≡ 0
  held_none w (leaf l) e = none_if (int_eq l.window w) e
  held_none w (group a ts) e = held_none_in w ts e

  held_none_in : (w : ℤ) (ts : Shapes) → holds_among w ts ≡ false → times_among w (windows (leaves_in ts)) ≡ 0
  held_none_in w no_shapes e = refl
  held_none_in w (more_shapes t ts) e =
      let joined : times_among w (windows (leaves_of t ++ leaves_in ts)) ≡ times_among w (windows (leaves_of t)) + times_among w (windows (leaves_in ts)) =
      ap (times_among w) (windows-append (leaves_of t) (leaves_in ts)) ∙ times-append w (windows (leaves_of t)) (windows (leaves_in ts)) in
      joined ∙ or_none (holds w t) (holds_among w ts) (times_among w (windows (leaves_of t))) (times_among w (windows (leaves_in ts))) (held_none w t) (held_none_in w ts) e

-- by the count whether it is there
pub held_by_times : (w : ℤ) (t : Shape) → 0 < times_among w (windows (leaves_of t)) → holds w t ≡ true
held_by_times w t h = by_case (holds w t) refl
  where
    by_case : (b : Bool) → holds w t ≡ b → holds w t ≡ true
    by_case true e = e
    by_case false e = absurd (omega (arith, held_none w t e))

-- a window opened counts once more
pair_times : (side : Side) (n : ℤ) (l new : Leaf) → times_among n (windows (pair side l new)) ≡ once n l.window + once n new.window
pair_times Left n l new = omega arith
pair_times Right n l new = omega arith
pair_times Above n l new = omega arith
pair_times Below n l new = omega arith

joined3 : (n : ℤ) (front middle back : List Leaf) → times_among n (windows (front ++ (middle ++ back))) ≡ times_among n (windows front) + (times_among n (windows middle) + times_among n (windows back))
joined3 n front middle back =
    ap (times_among n) (windows-append front (middle ++ back)) ∙ times-append n (windows front) (windows (middle ++ back))
    ∙ ap (λ k. times_among n (windows front) + k) (ap (times_among n) (windows-append middle back) ∙ times-append n (windows middle) (windows back))

pub split_times : (side : Side) (w n : ℤ) (new : Leaf) (t : Shape) → holds w t ≡ true
    → times_among n (windows (leaves_of (split side w new t))) ≡ times_among n (windows (leaves_of t)) + once n new.window
split_times side w n new t h =
    let s = split_adds_beside side w new t h in
    let now : times_among n (windows (leaves_of (split side w new t))) ≡ times_among n (windows s.0) + (times_among n (windows (pair side s.1 new)) + times_among n (windows s.2)) =
    ap (λ ls. times_among n (windows ls)) s.4 ∙ joined3 n s.0 (pair side s.1 new) s.2 in
    let was : times_among n (windows (leaves_of t)) ≡ times_among n (windows s.0) + (times_among n (windows (s.1 ∷ [])) + times_among n (windows s.2)) =
    ap (λ ls. times_among n (windows ls)) s.3.stands ∙ joined3 n s.0 (s.1 ∷ []) s.2 in
    omega (arith, now, was, pair_times side n s.1 new)

-- and one closed counts once less
pub close_times : (w n : ℤ) (t u : Shape) → holds w t ≡ true → close w t ≡ Some u
    → times_among n (windows (leaves_of u)) + once n w ≡ times_among n (windows (leaves_of t))
close_times w n t u h e =
    let s = close_takes_away w t h in
    let left : leaves_of u ≡ s.0 ++ s.2 = sym (ap leaves_left e) ∙ s.4 in
    let now : times_among n (windows (leaves_of u)) ≡ times_among n (windows s.0) + times_among n (windows s.2) =
    ap (λ ls. times_among n (windows ls)) left ∙ ap (times_among n) (windows-append s.0 s.2) ∙ times-append n (windows s.0) (windows s.2) in
    let was : times_among n (windows (leaves_of t)) ≡ times_among n (windows s.0) + (times_among n (windows (s.1 ∷ [])) + times_among n (windows s.2)) =
    ap (λ ls. times_among n (windows ls)) s.3.stands ∙ joined3 n s.0 (s.1 ∷ []) s.2 in
    let named : once n s.1.window ≡ once n w = ap (once n) s.3.named in
    omega (arith, now, was, named)
