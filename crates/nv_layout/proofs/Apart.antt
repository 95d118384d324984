-- The rectangles of a tree lie in the area, are large enough, and no two overlap.
use Rattle.std.proofs.Common.{ℕ, ◌+◌, ◌*◌, ◌≤◌, List, [], ◌∷◌, ◌++◌, sym, subst, arith}
use Rattle.std.specs.List.{All, AllPairs}
use Rattle.std.proofs.lemmas.List.Elements.{All-nil, All-cons, All-append}
use Rattle.std.proofs.lemmas.List.Kept.{AllPairs-cons}
use Rattle.std.proofs.lemmas.Bool.Decides.{nat_tests}
use Rattle.nv_layout.specs.Content.{Shape, leaf, group, Shapes, no_shapes, more_shapes}
use Rattle.nv_layout.specs.Division.{first, behind}
use Rattle.nv_layout.specs.Least.{least_max, gap, NoneEmpty}
use Rattle.nv_layout.specs.Places.{extent, part, beyond, rects, rects_along, child_sizes, IsRoomy}
use Rattle.nv_layout.specs.Tiling.{in_span, in_rect, times_in, areas, LiesIn, RectsLieInArea, AreApart, RectsAreApart, RectsHaveLeastSize}
use Rattle.nv_layout.specs.declared.nodes.Axis.{Axis}
use Rattle.nv_layout.specs.declared.nodes.Axis.TheVariants.{Across, Down}
use Rattle.nv_layout.specs.declared.nodes.Placed.{Placed}
use Rattle.nv_layout.specs.declared.nodes.Rect.{Rect}
use Rattle.nv_layout.proofs.Spans.{areas-append}
use Rattle.nv_layout.proofs.Tilings.{Fill, fill_group, fill_first, fill_all, fill_behind, rects_tile}

-- what holds of the rectangles of a tree, and of its children, where it holds of each leaf's area
abbrev IsLarge : Rect → Type 0
IsLarge r = (1 ≤ r.width) × (2 ≤ r.height)

all_areas : (P : Rect → Type 0) (ps qs : List Placed) → All P (areas ps) → All P (areas qs) → All P (areas (ps ++ qs))
all_areas P ps qs h k = subst (All P) (sym (areas-append ps qs)) (All-append P (areas ps) (areas qs) h k)

mutual
  large : (t : Shape) (area : Rect) → NoneEmpty t → IsRoomy t area → All IsLarge (areas (rects t area))
  large (leaf l) area whole roomy = All-cons IsLarge area [] (omega arith, omega arith) (All-nil IsLarge)
  large (group Across ts) area whole roomy = large_across ts (child_sizes Across ts area) area (fill_group Across ts area whole roomy.wide) roomy.high
  large (group Down ts) area whole roomy = large_down ts (child_sizes Down ts area) area (fill_group Down ts area whole roomy.high) roomy.wide

  large_across : (ts : Shapes) (sizes : List ℕ) (area : Rect) → Fill Across ts sizes area → least_max Down ts ≤ area.height → All IsLarge (areas (rects_along Across ts sizes area))
  large_across no_shapes sizes area fill cross = All-nil IsLarge
  large_across (more_shapes t ts) sizes area fill cross =
      all_areas IsLarge (rects t (part Across (first sizes) area)) (rects_along Across ts (behind sizes) (beyond Across (first sizes + gap Across ts) area))
      (large t (part Across (first sizes) area) fill.each.0 (record { wide = fill_first Across t ts sizes area fill; high = omega arith }))
      (large_across ts (behind sizes) (beyond Across (first sizes + gap Across ts) area) (fill_behind Across t ts sizes area fill) (omega arith))

  large_down : (ts : Shapes) (sizes : List ℕ) (area : Rect) → Fill Down ts sizes area → least_max Across ts ≤ area.width → All IsLarge (areas (rects_along Down ts sizes area))
  large_down no_shapes sizes area fill cross = All-nil IsLarge
  large_down (more_shapes t ts) sizes area fill cross =
      all_areas IsLarge (rects t (part Down (first sizes) area)) (rects_along Down ts (behind sizes) (beyond Down (first sizes + gap Down ts) area))
      (large t (part Down (first sizes) area) fill.each.0 (record { wide = omega arith; high = fill_first Down t ts sizes area fill }))
      (large_down ts (behind sizes) (beyond Down (first sizes + gap Down ts) area) (fill_behind Down t ts sizes area fill) (omega arith))

pub rects_have_least_size : RectsHaveLeastSize
rects_have_least_size = large

-- what lies in a part lies in the whole
lies_wider : (outer area inner : Rect) → LiesIn outer area → LiesIn area inner → LiesIn outer inner
lies_wider outer area inner h k = record { top = omega arith; bottom = omega arith; left = omega arith; right = omega arith }

all_wider : (outer area : Rect) (rs : List Rect) → LiesIn outer area → All (LiesIn area) rs → All (LiesIn outer) rs
all_wider outer area rs h k i d lt = lies_wider outer area _ h (k i d lt)

lies_itself : (area : Rect) → LiesIn area area
lies_itself area = record { top = omega arith; bottom = omega arith; left = omega arith; right = omega arith }

lies_part : (a : Axis) (n : ℕ) (area : Rect) → n ≤ extent a area → LiesIn area (part a n area)
lies_part Across n area h = record { top = omega arith; bottom = omega arith; left = omega arith; right = omega arith }
lies_part Down n area h = record { top = omega arith; bottom = omega arith; left = omega arith; right = omega arith }

lies_beyond : (a : Axis) (n : ℕ) (area : Rect) → n ≤ extent a area → LiesIn area (beyond a n area)
lies_beyond Across n area h = record { top = omega arith; bottom = omega arith; left = omega arith; right = omega arith }
lies_beyond Down n area h = record { top = omega arith; bottom = omega arith; left = omega arith; right = omega arith }

mutual
  lie : (t : Shape) (area : Rect) → NoneEmpty t → IsRoomy t area → All (LiesIn area) (areas (rects t area))
  lie (leaf l) area whole roomy = All-cons (LiesIn area) area [] (lies_itself area) (All-nil (LiesIn area))
  lie (group Across ts) area whole roomy = lie_across ts (child_sizes Across ts area) area (fill_group Across ts area whole roomy.wide) roomy.high
  lie (group Down ts) area whole roomy = lie_down ts (child_sizes Down ts area) area (fill_group Down ts area whole roomy.high) roomy.wide

  lie_across : (ts : Shapes) (sizes : List ℕ) (area : Rect) → Fill Across ts sizes area → least_max Down ts ≤ area.height → All (LiesIn area) (areas (rects_along Across ts sizes area))
  lie_across no_shapes sizes area fill cross = All-nil (LiesIn area)
  lie_across (more_shapes t ts) sizes area fill cross =
      let here = part Across (first sizes) area in
      let next = beyond Across (first sizes + gap Across ts) area in
      all_areas (LiesIn area) (rects t here) (rects_along Across ts (behind sizes) next)
      (all_wider area here (areas (rects t here)) (lies_part Across (first sizes) area (omega (arith, fill_all Across t ts sizes area fill)))
      (lie t (part Across (first sizes) area) fill.each.0 (record { wide = fill_first Across t ts sizes area fill; high = omega arith })))
      (all_wider area next (areas (rects_along Across ts (behind sizes) next)) (lies_beyond Across (first sizes + gap Across ts) area (omega (arith, fill_all Across t ts sizes area fill)))
      (lie_across ts (behind sizes) (beyond Across (first sizes + gap Across ts) area) (fill_behind Across t ts sizes area fill) (omega arith)))

  lie_down : (ts : Shapes) (sizes : List ℕ) (area : Rect) → Fill Down ts sizes area → least_max Across ts ≤ area.width → All (LiesIn area) (areas (rects_along Down ts sizes area))
  lie_down no_shapes sizes area fill cross = All-nil (LiesIn area)
  lie_down (more_shapes t ts) sizes area fill cross =
      let here = part Down (first sizes) area in
      let next = beyond Down (first sizes + gap Down ts) area in
      all_areas (LiesIn area) (rects t here) (rects_along Down ts (behind sizes) next)
      (all_wider area here (areas (rects t here)) (lies_part Down (first sizes) area (omega (arith, fill_all Down t ts sizes area fill)))
      (lie t (part Down (first sizes) area) fill.each.0 (record { wide = omega arith; high = fill_first Down t ts sizes area fill })))
      (all_wider area next (areas (rects_along Down ts (behind sizes) next)) (lies_beyond Down (first sizes + gap Down ts) area (omega (arith, fill_all Down t ts sizes area fill)))
      (lie_down ts (behind sizes) (beyond Down (first sizes + gap Down ts) area) (fill_behind Down t ts sizes area fill) (omega arith)))

pub rects_lie_in_area : RectsLieInArea
rects_lie_in_area = lie

-- a cell is counted once at most
in_span-most : (from size x : ℕ) → in_span from size x ≤ 1
in_span-most from size x = grind (arith, nat_tests)

product_most : (m n : ℕ) → m ≤ 1 → n ≤ 1 → m * n ≤ 1
product_most m n h k = grind arith

in_rect-most : (row col : ℕ) (r : Rect) → in_rect row col r ≤ 1
in_rect-most row col r = product_most (in_span r.row r.height row) (in_span r.col r.width col) (in_span-most r.row r.height row) (in_span-most r.col r.width col)

-- rectangles that cover no cell twice are apart
abbrev CoverOnce : List Rect → Type 0
CoverOnce rs = (row col : ℕ) → times_in row col rs ≤ 1

apart_first : (r : Rect) (rs : List Rect) → CoverOnce (r ∷ rs) → All (AreApart r) rs
apart_first r [] once = All-nil (AreApart r)
apart_first r (s ∷ rs) once = All-cons (AreApart r) s rs (λ row col e f. omega (arith, once row col)) (apart_first r rs (λ row col. omega (arith, once row col)))

apart_all : (rs : List Rect) → CoverOnce rs → AllPairs AreApart rs
apart_all [] once = λ i j d lt below. absurd (omega arith)
apart_all (r ∷ rs) once = AllPairs-cons AreApart r rs (apart_first r rs once) (apart_all rs (λ row col. omega (arith, once row col)))

pub rects_are_apart : RectsAreApart
rects_are_apart t area whole roomy = apart_all (areas (rects t area)) (λ row col. omega (arith, rects_tile t area whole roomy row col, in_rect-most row col area))
