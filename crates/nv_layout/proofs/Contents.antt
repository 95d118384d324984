-- The equations of `content`.
use Rattle.std.proofs.Common.{rules, ◌≡◌, ℕ, ◌+◌, ◌-◌, ◌<◌, ◌≤◌, List, [], ◌∷◌, length, drop, get_or, refl, ap, ◌∙◌, arith, add-one, drop-cons}
use Rattle.nv_layout.specs.Content.{group, Shapes, no_shapes, more_shapes, shape_of, shapes_of}
use Rattle.nv_layout.specs.Least.{gap, gaps, child_count}
use Rattle.nv_layout.specs.declared.nodes.Axis.{Axis}
use Rattle.nv_layout.specs.declared.nodes.Axis.TheVariants.{Across, Down}
use Rattle.nv_layout.specs.declared.nodes.Tree.{Tree, the_lemmas}
use Rattle.nv_layout.specs.declared.nodes.Tree.TheVariants.{Row as RowOf, Column as ColumnOf}
use Rattle.std.proofs.Math.ListN.{drop_of_length-le}
use Rattle.std.specs.Prelude.{Vec}
use Rattle.std.specs.declared.alloc.Global.{Global}

pub shape_of-Row : (v : Vec Tree Global) → shape_of (RowOf v) ≡ group Across (shapes_of v.items)
shape_of-Row v = search (rules, the_lemmas)

pub shape_of-Column : (v : Vec Tree Global) → shape_of (ColumnOf v) ≡ group Down (shapes_of v.items)
shape_of-Column v = search (rules, the_lemmas)

-- the children from one on
pub shapes_of-at : (ts : List Tree) (i : ℕ) (d : Tree) → i < length ts → shapes_of (drop i ts) ≡ more_shapes (shape_of (get_or ts i d)) (shapes_of (drop (i + 1) ts))
shapes_of-at ts i d h = rw (add-one, drop-cons ts i d)

pub shapes_of-end : (ts : List Tree) (i : ℕ) → length ts ≤ i → shapes_of (drop i ts) ≡ no_shapes
shapes_of-end ts i h = ap shapes_of (drop_of_length-le ts h)

-- a separator stands where children follow
pub gap-followed : (a : Axis) (ts : List Tree) (i : ℕ) → a ≡ Across → i < length ts → gap a (shapes_of (drop i ts)) ≡ 1
gap-followed a [] i e h = absurd (omega arith)
gap-followed a (t ∷ ts) i e h = ap (λ b. gap b (shapes_of (drop i (t ∷ ts)))) e ∙ ap (gap Across) (shapes_of-at (t ∷ ts) i t h)

pub gap-last : (a : Axis) (ts : List Tree) (i : ℕ) → length ts ≤ i → gap a (shapes_of (drop i ts)) ≡ 0
gap-last a ts i h = ap (gap a) (shapes_of-end ts i h) ∙ gap-no_more a
  where
    gap-no_more : (a : Axis) → gap a no_shapes ≡ 0
    gap-no_more Across = refl
    gap-no_more Down = refl

pub gap-down : (ts : Shapes) → gap Down ts ≡ 0
gap-down ts = refl

-- the separators of children across
gaps-across : (ts : Shapes) → gaps Across ts ≡ child_count ts - 1
gaps-across no_shapes = omega arith
gaps-across (more_shapes t no_shapes) = refl
gaps-across (more_shapes t (more_shapes u us)) = omega (arith, gaps-across (more_shapes u us))

child_count-shapes_of : (ts : List Tree) → child_count (shapes_of ts) ≡ length ts
child_count-shapes_of [] = refl
child_count-shapes_of (t ∷ ts) = omega (arith, child_count-shapes_of ts)

pub gaps-row : (a : Axis) (ts : List Tree) → a ≡ Across → gaps a (shapes_of ts) ≡ length ts - 1
gaps-row a ts e = ap (λ b. gaps b (shapes_of ts)) e ∙ gaps-across (shapes_of ts) ∙ ap (λ n. n - 1) (child_count-shapes_of ts)

gaps-down : (ts : Shapes) → gaps Down ts ≡ 0
gaps-down no_shapes = refl
gaps-down (more_shapes t ts) = omega (arith, gaps-down ts)

pub gaps-column : (a : Axis) (ts : List Tree) → a ≡ Down → gaps a (shapes_of ts) ≡ 0
gaps-column a ts e = ap (λ b. gaps b (shapes_of ts)) e ∙ gaps-down (shapes_of ts)
