-- What a wish keeps of a tree.
use Rattle.std.proofs.Common.{◌≡◌, ℕ, ℤ, ◌≤◌, Bool, true, false, if◌then◌else◌, List, [], ◌∷◌, ◌++◌, refl, ap, sym, ◌∙◌, subst, arith}
use Rattle.std.specs.Ordering.{int_eq}
use Rattle.nv_layout.specs.Content.{Shape, leaf, group, Shapes, no_shapes, more_shapes}
use Rattle.nv_layout.specs.Least.{gap, along_or_across, least, least_sum, least_max, leaves_of, leaves_in, child_count, NoneEmpty, EachGroupIn, HasChild}
use Rattle.nv_layout.specs.Tiling.{windows}
use Rattle.nv_layout.specs.Changes.{leaf_wishing, with_wish, with_wish_among}
use Rattle.nv_layout.specs.Kept.{WishKeepsForm}
use Rattle.nv_layout.specs.declared.nodes.Axis.{Axis}
use Rattle.nv_layout.specs.declared.nodes.Axis.TheVariants.{Across, Down}
use Rattle.nv_layout.specs.declared.nodes.Leaf.{Leaf}

pub windows-append : (ks ls : List Leaf) → windows (ks ++ ls) ≡ windows ks ++ windows ls
windows-append [] ls = refl
windows-append (k ∷ ks) ls = ap (λ ws. k.window ∷ ws) (windows-append ks ls)

same_window : (a : Axis) (n : ℕ) (l : Leaf) → (leaf_wishing a n l).window ≡ l.window
same_window Across n l = refl
same_window Down n l = refl

leaf_windows : (a : Axis) (n : ℕ) (l : Leaf) (b : Bool) → windows (leaves_of (if b then leaf (leaf_wishing a n l) else leaf l)) ≡ windows (leaves_of (leaf l))
leaf_windows a n l true = ap (λ w. w ∷ []) (same_window a n l)
leaf_windows a n l false = refl

mutual
  wish_windows : (a : Axis) (n : ℕ) (w : ℤ) (t : Shape) → windows (leaves_of (with_wish a n w t)) ≡ windows (leaves_of t)
  wish_windows a n w (leaf l) = leaf_windows a n l (int_eq l.window w)
  wish_windows a n w (group b ts) = wish_windows_in a n w ts

  wish_windows_in : (a : Axis) (n : ℕ) (w : ℤ) (ts : Shapes) → windows (leaves_in (with_wish_among a n w ts)) ≡ windows (leaves_in ts)
  wish_windows_in a n w no_shapes = refl
  wish_windows_in a n w (more_shapes t ts) =
      windows-append (leaves_of (with_wish a n w t)) (leaves_in (with_wish_among a n w ts))
      ∙ ap (λ ws. ws ++ windows (leaves_in (with_wish_among a n w ts))) (wish_windows a n w t)
      ∙ ap (λ ws. windows (leaves_of t) ++ ws) (wish_windows_in a n w ts)
      ∙ sym (windows-append (leaves_of t) (leaves_in ts))

leaf_asks : (a b : Axis) (n : ℕ) (l : Leaf) (c : Bool) → least b (if c then leaf (leaf_wishing a n l) else leaf l) ≡ least b (leaf l)
leaf_asks a b n l true = refl
leaf_asks a b n l false = refl

gap_wish : (a b : Axis) (n : ℕ) (w : ℤ) (ts : Shapes) → gap b (with_wish_among a n w ts) ≡ gap b ts
gap_wish a Across n w no_shapes = refl
gap_wish a Across n w (more_shapes t ts) = refl
gap_wish a Down n w ts = refl

mutual
  wish_least : (a b : Axis) (n : ℕ) (w : ℤ) (t : Shape) → least b (with_wish a n w t) ≡ least b t
  wish_least a b n w (leaf l) = leaf_asks a b n l (int_eq l.window w)
  wish_least a b n w (group c ts) =
      ap (λ m. along_or_across b c m (least_max b (with_wish_among a n w ts))) (wish_sum a b n w ts)
      ∙ ap (along_or_across b c (least_sum b ts)) (wish_max a b n w ts)

  wish_sum : (a b : Axis) (n : ℕ) (w : ℤ) (ts : Shapes) → least_sum b (with_wish_among a n w ts) ≡ least_sum b ts
  wish_sum a b n w no_shapes = refl
  wish_sum a b n w (more_shapes t ts) = omega (arith, wish_least a b n w t, gap_wish a b n w ts, wish_sum a b n w ts)

  wish_max : (a b : Axis) (n : ℕ) (w : ℤ) (ts : Shapes) → least_max b (with_wish_among a n w ts) ≡ least_max b ts
  wish_max a b n w no_shapes = refl
  wish_max a b n w (more_shapes t ts) = omega (arith, wish_least a b n w t, wish_max a b n w ts)

same_count : (a : Axis) (n : ℕ) (w : ℤ) (ts : Shapes) → child_count (with_wish_among a n w ts) ≡ child_count ts
same_count a n w no_shapes = refl
same_count a n w (more_shapes t ts) = omega (arith, same_count a n w ts)

leaf_none : (a : Axis) (n : ℕ) (l : Leaf) (c : Bool) → NoneEmpty (if c then leaf (leaf_wishing a n l) else leaf l)
leaf_none a n l true = tt
leaf_none a n l false = tt

mutual
  wish_none : (a : Axis) (n : ℕ) (w : ℤ) (t : Shape) → NoneEmpty t → NoneEmpty (with_wish a n w t)
  wish_none a n w (leaf l) h = leaf_none a n l (int_eq l.window w)
  wish_none a n w (group b ts) h = (subst (λ k. 1 ≤ k) (sym (same_count a n w ts)) h.0, wish_none_in a n w ts h.1)

  wish_none_in : (a : Axis) (n : ℕ) (w : ℤ) (ts : Shapes) → EachGroupIn HasChild ts → EachGroupIn HasChild (with_wish_among a n w ts)
  wish_none_in a n w no_shapes h = tt
  wish_none_in a n w (more_shapes t ts) h = (wish_none a n w t h.0, wish_none_in a n w ts h.1)

pub wish_keeps_form : WishKeepsForm
wish_keeps_form = record { windows = wish_windows; least = wish_least; none_empty = wish_none }
