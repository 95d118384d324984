-- Wishes put child by child, and windows listed child by child.
use Rattle.std.proofs.Common.{◌≡◌, ℕ, ℤ, ◌+◌, ◌≤◌, ◌<◌, List, [], ◌∷◌, ◌++◌, length, map, take, drop, get_or, set, refl, ap, sym, ◌∙◌, append_assoc, append-nil, arith}
use Rattle.std.proofs.lemmas.List.{map-set, get_or-map, length-map, take_all}
use Rattle.std.proofs.lemmas.List.Edits.{map_over_more}
use Rattle.std.proofs.Math.ListN.{drop_of_length-le}
use Rattle.nv_layout.specs.Content.{Shape, more_shapes, shape_of, shapes_of, shapes_from}
use Rattle.nv_layout.specs.Changes.{with_wish, with_wish_among}
use Rattle.nv_layout.specs.Least.{leaves_of, leaves_in}
use Rattle.nv_layout.specs.Tiling.{windows}
use Rattle.nv_layout.specs.declared.nodes.Axis.{Axis}
use Rattle.nv_layout.specs.declared.nodes.Tree.{Tree}
use Rattle.nv_layout.proofs.Contents.{shapes_of-at, shapes_of-end}
use Rattle.nv_layout.proofs.Wishing.{windows-append}

pub wishes_more : (f : Shape → Shape) (xs ys : List Tree) (i : ℕ) (t u : Tree) → i < length xs → length ys ≡ length xs
    → map shape_of ys ≡ map f (take i (map shape_of xs)) ++ drop i (map shape_of xs) → t ≡ get_or ys i t → shape_of u ≡ f (shape_of t)
    → map shape_of (set ys i u) ≡ map f (take (i + 1) (map shape_of xs)) ++ drop (i + 1) (map shape_of xs)
wishes_more f xs ys i t u within same so_far is goes =
    map-set shape_of ys i u ∙ ap (λ s. set (map shape_of ys) i s) goes
    ∙ map_over_more f (map shape_of xs) (map shape_of ys) i (shape_of t) (omega (arith, length-map xs shape_of)) so_far
    (ap shape_of is ∙ sym (get_or-map shape_of ys i t (shape_of t) (omega (arith, same))))

among_from : (a : Axis) (n : ℕ) (w : ℤ) (ss : List Shape) → with_wish_among a n w (shapes_from ss) ≡ shapes_from (map (with_wish a n w) ss)
among_from a n w [] = refl
among_from a n w (s ∷ ss) = ap (more_shapes (with_wish a n w s)) (among_from a n w ss)

pub wishes_all : (a : Axis) (n : ℕ) (w : ℤ) (xs ys : List Tree) (i : ℕ) → length xs ≤ i
    → map shape_of ys ≡ map (with_wish a n w) (take i (map shape_of xs)) ++ drop i (map shape_of xs) → shapes_of ys ≡ with_wish_among a n w (shapes_of xs)
wishes_all a n w xs ys i h so_far =
    ap shapes_from
    (so_far
    ∙ ap (λ ss. map (with_wish a n w) ss ++ drop i (map shape_of xs)) (take_all i (map shape_of xs) (omega (arith, length-map xs shape_of)))
    ∙ ap (λ ss. map (with_wish a n w) (map shape_of xs) ++ ss) (drop_of_length-le (map shape_of xs) (omega (arith, length-map xs shape_of)))
    ∙ append-nil (map (with_wish a n w) (map shape_of xs)))
    ∙ sym (among_from a n w (map shape_of xs))

pub listed_more : (ts : List Tree) (i : ℕ) (t : Tree) (before now all : List ℤ) → i < length ts → t ≡ get_or ts i t
    → now ≡ before ++ windows (leaves_of (shape_of t)) → before ++ windows (leaves_in (shapes_of (drop i ts))) ≡ all
    → now ++ windows (leaves_in (shapes_of (drop (i + 1) ts))) ≡ all
listed_more ts i t before now all h is now_is e =
    ap (λ ws. ws ++ windows (leaves_in (shapes_of (drop (i + 1) ts)))) now_is
    ∙ append_assoc before (windows (leaves_of (shape_of t))) (windows (leaves_in (shapes_of (drop (i + 1) ts))))
    ∙ ap (λ ws. before ++ ws) (sym (windows-append (leaves_of (shape_of t)) (leaves_in (shapes_of (drop (i + 1) ts)))))
    ∙ ap (λ ss. before ++ windows (leaves_in ss)) (sym (shapes_of-at ts i t h ∙ ap (λ u. more_shapes (shape_of u) (shapes_of (drop (i + 1) ts))) (sym is)))
    ∙ e

pub listed_all : (ts : List Tree) (i : ℕ) (now all : List ℤ) → length ts ≤ i → now ++ windows (leaves_in (shapes_of (drop i ts))) ≡ all → now ≡ all
listed_all ts i now all h e = sym (append-nil now) ∙ ap (λ ss. now ++ windows (leaves_in ss)) (sym (shapes_of-end ts i h)) ∙ e
