-- A tree on a screen has few windows and separators.
use Rattle.std.proofs.Common.{◌≡◌, ℕ, ◌+◌, ◌*◌, ◌≤◌, max, List, ◌++◌, length, refl, arith, length-append, add-mul, mul-le-mul, mul_comm}
use Rattle.nv_layout.specs.Content.{Shape, leaf, group, Shapes, no_shapes, more_shapes}
use Rattle.nv_layout.specs.Least.{EachGroupIn, HasChild, NoneEmpty, child_count, gap, least, least_max, least_sum, leaves_in, leaves_of}
use Rattle.nv_layout.specs.Places.{beyond, child_sizes, part, separator, separators, separators_along}
use Rattle.nv_layout.specs.Division.{behind, first}
use Rattle.nv_layout.specs.declared.nodes.Axis.{Axis}
use Rattle.nv_layout.specs.declared.nodes.Axis.TheVariants.{Across, Down}
use Rattle.nv_layout.specs.declared.nodes.Rect.{Rect}

-- ---- no more windows than cells

both_few : (a b p q g s m : ℕ) → a ≤ p * q → b ≤ s * m → a + b ≤ (p + (g + s)) * max q m
both_few a b p q g s m here more =
    let wider : p * q ≤ p * max q m = mul-le-mul (omega arith) (omega arith) in
    let longer : s * m ≤ s * max q m = mul-le-mul (omega arith) (omega arith) in
    omega (arith, here, more, wider, longer, add-mul p (g + s) (max q m), add-mul g s (max q m))

both_low : (a b p q g s m : ℕ) → a ≤ q * p → b ≤ m * s → a + b ≤ max q m * (p + (g + s))
both_low a b p q g s m here more =
    let turned = both_few a b p q g s m (omega (arith, here, mul_comm q p)) (omega (arith, more, mul_comm m s)) in
    omega (arith, turned, mul_comm (max q m) (p + (g + s)))

mutual
  pub leaves_few : (t : Shape) → length (leaves_of t) ≤ least Across t * least Down t
  leaves_few (leaf l) = omega arith
  leaves_few (group Across ts) = few_across ts
  leaves_few (group Down ts) = few_down ts

  few_across : (ts : Shapes) → length (leaves_in ts) ≤ least_sum Across ts * least_max Down ts
  few_across no_shapes = omega arith
  few_across (more_shapes t ts) =
      let both = both_few (length (leaves_of t)) (length (leaves_in ts)) (least Across t) (least Down t) (gap Across ts) (least_sum Across ts) (least_max Down ts) (leaves_few t) (few_across ts) in
      omega (arith, length-append (leaves_of t) (leaves_in ts), both)

  few_down : (ts : Shapes) → length (leaves_in ts) ≤ least_max Across ts * least_sum Down ts
  few_down no_shapes = omega arith
  few_down (more_shapes t ts) =
      let both = both_low (length (leaves_of t)) (length (leaves_in ts)) (least Down t) (least Across t) (gap Down ts) (least_sum Down ts) (least_max Across ts) (leaves_few t) (few_down ts) in
      omega (arith, length-append (leaves_of t) (leaves_in ts), both)

-- ---- fewer separators than windows

-- whether there is a child
abbrev some : Shapes → ℕ
some no_shapes = 0
some (more_shapes t ts) = 1

some_child : (ts : Shapes) → 1 ≤ child_count ts → some ts ≡ 1
some_child no_shapes h = absurd (omega (arith, h))
some_child (more_shapes t ts) h = refl

bar_few : (a : Axis) (ts : Shapes) (area : Rect) → length (separator a ts area) ≤ some ts
bar_few Across no_shapes area = omega arith
bar_few Across (more_shapes t ts) area = omega arith
bar_few Down ts area = omega arith

mutual
  pub bars_few : (t : Shape) (area : Rect) → NoneEmpty t → length (separators t area) + 1 ≤ length (leaves_of t)
  bars_few (leaf l) area filled = omega arith
  bars_few (group a ts) area filled =
      let along = bars_along a ts (child_sizes a ts area) area filled.1 in
      omega (arith, along, some_child ts filled.0)

  bars_along : (a : Axis) (ts : Shapes) (sizes : List ℕ) (area : Rect) → EachGroupIn HasChild ts
      → length (separators_along a ts sizes area) + some ts ≤ length (leaves_in ts)
  bars_along a no_shapes sizes area filled = omega arith
  bars_along a (more_shapes t ts) sizes area filled =
      let here = separators t (part a (first sizes) area) in
      let bar = separator a ts (beyond a (first sizes) area) in
      let next = beyond a (first sizes + gap a ts) area in
      let more = separators_along a ts (behind sizes) next in
      omega (
        arith,
        length-append (here ++ bar) more,
        length-append here bar,
        bar_few a ts (beyond a (first sizes) area),
        length-append (leaves_of t) (leaves_in ts),
        bars_few t (part a (first sizes) area) filled.0,
        bars_along a ts (behind sizes) next filled.1,
      )
