-- A tree has fewer windows than its least size has cells.
use Rattle.std.proofs.Common.{◌≡◌, ℕ, ◌+◌, ◌-◌, ◌*◌, ◌^◌, ◌≤◌, ◌<◌, length, length-append, arith}
use Rattle.nv_layout.specs.Content.{Shape, leaf, group, Shapes, no_shapes, more_shapes}
use Rattle.nv_layout.specs.Least.{least, least_sum, least_max, leaves_of, leaves_in, IsMeasurable}
use Rattle.nv_layout.specs.declared.nodes.Axis.TheVariants.{Across, Down}

product_mono : (a b c d : ℕ) → a ≤ c → b ≤ d → a * b ≤ c * d
product_mono a b c d h k = grind arith

-- children one behind another, side by side at most so large
sum_along : (n w h rest wide high all total most : ℕ) → n ≤ w * h → rest ≤ wide * high → all ≡ n + rest → w + wide ≤ total → h ≤ most → high ≤ most → all ≤ total * most
sum_along n w h rest wide high all total most e f g k l m =
    omega (arith, product_mono w h w most (omega arith) l, product_mono wide high wide most (omega arith) m, product_mono (w + wide) most total most k (omega arith))

swapped : (n a b : ℕ) → n ≤ a * b → n ≤ b * a
swapped n a b h = omega arith

mutual
  leaves_fit : (t : Shape) → length (leaves_of t) ≤ least Across t * least Down t
  leaves_fit (leaf l) = omega arith
  leaves_fit (group Across ts) = leaves_fit_across ts
  leaves_fit (group Down ts) = leaves_fit_down ts

  leaves_fit_across : (ts : Shapes) → length (leaves_in ts) ≤ least_sum Across ts * least_max Down ts
  leaves_fit_across no_shapes = omega arith
  leaves_fit_across (more_shapes t ts) = sum_along (length (leaves_of t)) (least Across t) (least Down t) (length (leaves_in ts)) (least_sum Across ts) (least_max Down ts) _ _ _ (leaves_fit t) (leaves_fit_across ts) (length-append (leaves_of t) (leaves_in ts)) (omega arith) (omega arith) (omega arith)

  leaves_fit_down : (ts : Shapes) → length (leaves_in ts) ≤ least_max Across ts * least_sum Down ts
  leaves_fit_down no_shapes = omega arith
  leaves_fit_down (more_shapes t ts) = swapped _ _ _ (sum_along (length (leaves_of t)) (least Down t) (least Across t) (length (leaves_in ts)) (least_sum Down ts) (least_max Across ts) _ _ _ (swapped _ _ _ (leaves_fit t)) (swapped _ _ _ (leaves_fit_down ts)) (length-append (leaves_of t) (leaves_in ts)) (omega arith) (omega arith) (omega arith))

-- so their number is a `usize`
pub leaves_below : (t : Shape) → IsMeasurable t → length (leaves_of t) < 2 ^ 64
leaves_below t h = omega (arith, leaves_fit t, product_mono (least Across t) (least Down t) (2 ^ 32 - 1) (2 ^ 32 - 1) (omega arith) (omega arith))
