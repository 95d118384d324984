-- The separators of a tree are columns of its area.
use Rattle.std.proofs.Common.{◌≡◌, ℕ, ◌+◌, ◌<◌, ◌≤◌, List, [], ◌∷◌, ◌++◌, refl, arith}
use Rattle.std.specs.List.{AllByRecursion}
use Rattle.nv_layout.specs.Content.{Shape, leaf, group, Shapes, no_shapes, more_shapes}
use Rattle.nv_layout.specs.Division.{first, behind}
use Rattle.nv_layout.specs.Least.{least, least_max, least_sum, gap, child_count, HasChild, EachGroupIn, NoneEmpty}
use Rattle.nv_layout.specs.Places.{extent, part, beyond, separator, separators, separators_along, child_sizes, IsRoomy}
use Rattle.nv_layout.specs.Tiling.{LiesIn}
use Rattle.nv_layout.specs.declared.nodes.Axis.{Axis}
use Rattle.nv_layout.specs.declared.nodes.Axis.TheVariants.{Across, Down}
use Rattle.nv_layout.specs.declared.nodes.Rect.{Rect}
use Rattle.nv_layout.proofs.Tilings.{Fill, fill_group, fill_first, fill_all, fill_behind}

-- ---- a tree has a cell at least each way
mutual
  pub some_least : (a : Axis) (t : Shape) → NoneEmpty t → 1 ≤ least a t
  some_least Across (leaf l) whole = omega arith
  some_least Down (leaf l) whole = omega arith
  some_least Across (group Across ts) whole = some_sum Across ts whole.1 whole.0
  some_least Across (group Down ts) whole = some_max Across ts whole.1 whole.0
  some_least Down (group Across ts) whole = some_max Down ts whole.1 whole.0
  some_least Down (group Down ts) whole = some_sum Down ts whole.1 whole.0

  some_sum : (a : Axis) (ts : Shapes) → EachGroupIn HasChild ts → 1 ≤ child_count ts → 1 ≤ least_sum a ts
  some_sum a no_shapes each some = absurd (omega (arith, some))
  some_sum a (more_shapes t ts) each some = omega (arith, some_least a t each.0)

  some_max : (a : Axis) (ts : Shapes) → EachGroupIn HasChild ts → 1 ≤ child_count ts → 1 ≤ least_max a ts
  some_max a no_shapes each some = absurd (omega (arith, some))
  some_max a (more_shapes t ts) each some = omega (arith, some_least a t each.0)

-- ---- separators
pub record IsBar (area : Rect) (r : Rect) : Type 0 where
  pub inside : LiesIn area r
  pub narrow : r.width ≡ 1
  pub high : 0 < r.height

pub both_all : {X : Type 0} (P : X → Type 0) (xs ys : List X) → AllByRecursion P xs → AllByRecursion P ys → AllByRecursion P (xs ++ ys)
both_all P [] ys a b = b
both_all P (x ∷ xs) ys a b = (a.0, both_all P xs ys a.1 b)

pub weaker_all : {X : Type 0} (P Q : X → Type 0) (xs : List X) → ((x : X) → P x → Q x) → AllByRecursion P xs → AllByRecursion Q xs
weaker_all P Q [] f a = tt
weaker_all P Q (x ∷ xs) f a = (f x a.0, weaker_all P Q xs f a.1)

pub lies_wider : (area inner r : Rect) → LiesIn area inner → LiesIn inner r → LiesIn area r
lies_wider area inner r h k = record {
  top = omega (arith, h.top, k.top);
  bottom = omega (arith, h.bottom, k.bottom);
  left = omega (arith, h.left, k.left);
  right = omega (arith, h.right, k.right);
}

wider : (area inner : Rect) (rs : List Rect) → LiesIn area inner → AllByRecursion (IsBar inner) rs → AllByRecursion (IsBar area) rs
wider area inner rs h all =
    weaker_all (IsBar inner) (IsBar area) rs (λ r b. record { inside = lies_wider area inner r h b.inside; narrow = b.narrow; high = b.high }) all

lies_part : (a : Axis) (n : ℕ) (area : Rect) → n ≤ extent a area → LiesIn area (part a n area)
lies_part Across n area h = record { top = omega arith; bottom = omega arith; left = omega arith; right = omega arith }
lies_part Down n area h = record { top = omega arith; bottom = omega arith; left = omega arith; right = omega arith }

lies_beyond : (a : Axis) (n : ℕ) (area : Rect) → n ≤ extent a area → LiesIn area (beyond a n area)
lies_beyond Across n area h = record { top = omega arith; bottom = omega arith; left = omega arith; right = omega arith }
lies_beyond Down n area h = record { top = omega arith; bottom = omega arith; left = omega arith; right = omega arith }

one_bar : (ts : Shapes) (n : ℕ) (area : Rect) → n + gap Across ts ≤ area.width → 0 < area.height → AllByRecursion (IsBar area) (separator Across ts (beyond Across n area))
one_bar no_shapes n area h high = tt
one_bar (more_shapes u us) n area h high = (
  record { inside = record { top = omega arith; bottom = omega arith; left = omega arith; right = omega arith }; narrow = refl; high = high },
  tt,
)

mutual
  pub bars : (t : Shape) (area : Rect) → NoneEmpty t → IsRoomy t area → AllByRecursion (IsBar area) (separators t area)
  bars (leaf l) area whole roomy = tt
  bars (group Across ts) area whole roomy = bars_across ts (child_sizes Across ts area) area (fill_group Across ts area whole roomy.wide) roomy.high
  bars (group Down ts) area whole roomy = bars_down ts (child_sizes Down ts area) area (fill_group Down ts area whole roomy.high) roomy.wide

  bars_across : (ts : Shapes) (sizes : List ℕ) (area : Rect) → Fill Across ts sizes area → least_max Down ts ≤ area.height → AllByRecursion (IsBar area) (separators_along Across ts sizes area)
  bars_across no_shapes sizes area fill cross = tt
  bars_across (more_shapes t ts) sizes area fill cross =
      let here : Rect = part Across (first sizes) area in
      let next : Rect = beyond Across (first sizes + gap Across ts) area in
      let all = fill_all Across t ts sizes area fill in
      both_all (IsBar area) (separators t here ++ separator Across ts (beyond Across (first sizes) area)) (separators_along Across ts (behind sizes) next)
      (both_all (IsBar area) (separators t here) (separator Across ts (beyond Across (first sizes) area))
      (wider area here (separators t here) (lies_part Across (first sizes) area (omega (arith, all)))
      (bars t (part Across (first sizes) area) fill.each.0 (record { wide = fill_first Across t ts sizes area fill; high = omega arith })))
      (one_bar ts (first sizes) area (omega (arith, all)) (omega (arith, cross, some_least Down t fill.each.0))))
      (wider area next (separators_along Across ts (behind sizes) next) (lies_beyond Across (first sizes + gap Across ts) area (omega (arith, all)))
      (bars_across ts (behind sizes) (beyond Across (first sizes + gap Across ts) area) (fill_behind Across t ts sizes area fill) (omega arith)))

  bars_down : (ts : Shapes) (sizes : List ℕ) (area : Rect) → Fill Down ts sizes area → least_max Across ts ≤ area.width → AllByRecursion (IsBar area) (separators_along Down ts sizes area)
  bars_down no_shapes sizes area fill cross = tt
  bars_down (more_shapes t ts) sizes area fill cross =
      let here : Rect = part Down (first sizes) area in
      let next : Rect = beyond Down (first sizes + gap Down ts) area in
      let all = fill_all Down t ts sizes area fill in
      both_all (IsBar area) (separators t here ++ separator Down ts (beyond Down (first sizes) area)) (separators_along Down ts (behind sizes) next)
      (both_all (IsBar area) (separators t here) (separator Down ts (beyond Down (first sizes) area))
      (wider area here (separators t here) (lies_part Down (first sizes) area (omega (arith, all)))
      (bars t (part Down (first sizes) area) fill.each.0 (record { wide = omega arith; high = fill_first Down t ts sizes area fill })))
      tt)
      (wider area next (separators_along Down ts (behind sizes) next) (lies_beyond Down (first sizes + gap Down ts) area (omega (arith, all)))
      (bars_down ts (behind sizes) (beyond Down (first sizes + gap Down ts) area) (fill_behind Down t ts sizes area fill) (omega arith)))
