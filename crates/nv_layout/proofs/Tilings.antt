-- The rectangles and separators of a tree tile its area.
use Rattle.std.proofs.Common.{◌≡◌, ℕ, ◌+◌, ◌-◌, ◌≤◌, List, ◌++◌, length, refl, ap, sym, arith}
use Rattle.nv_layout.specs.Content.{Shape, leaf, group, Shapes, no_shapes, more_shapes}
use Rattle.nv_layout.specs.Division.{first, behind, need, total}
use Rattle.nv_layout.specs.Shares.{Suffices}
use Rattle.nv_layout.specs.Least.{least, least_sum, least_max, gap, gaps, child, child_list, child_count, HasChild, EachGroupIn, NoneEmpty}
use Rattle.nv_layout.specs.Places.{extent, part, beyond, separator, rects, rects_along, separators, separators_along, child_sizes, IsRoomy}
use Rattle.nv_layout.specs.Tiling.{in_rect, times_in, areas, RectsTile}
use Rattle.nv_layout.specs.declared.nodes.Axis.{Axis}
use Rattle.nv_layout.specs.declared.nodes.Axis.TheVariants.{Across, Down}
use Rattle.nv_layout.specs.declared.nodes.Rect.{Rect}
use Rattle.nv_layout.proofs.Divisions.{suffices_first, suffices_behind, suffices_total, none_suffice, division_is_whole}
use Rattle.nv_layout.proofs.Spans.{in_rect-none, separator_cut, times_in-append, areas-append}

pub need-child_list : (a : Axis) (ts : Shapes) → need (child_list a ts) + gaps a ts ≡ least_sum a ts
need-child_list a no_shapes = refl
need-child_list a (more_shapes t ts) = omega (arith, need-child_list a ts)

pub length-child_list : (a : Axis) (ts : Shapes) → length (child_list a ts) ≡ child_count ts
length-child_list a no_shapes = refl
length-child_list a (more_shapes t ts) = omega (arith, length-child_list a ts)

-- children of these sizes that fill an area along an axis, in a tree without an empty group
pub record Fill (a : Axis) (ts : Shapes) (sizes : List ℕ) (area : Rect) : Type 0 where
  pub each : EachGroupIn HasChild ts
  pub enough : Suffices (child_list a ts) sizes
  pub all : total sizes + gaps a ts ≡ extent a area

pub fill_group : (a : Axis) (ts : Shapes) (area : Rect) → NoneEmpty (group a ts) → least_sum a ts ≤ extent a area → Fill a ts (child_sizes a ts area) area
fill_group a ts area whole roomy =
    let room : ℕ = extent a area - gaps a ts in
    let parts = division_is_whole room (child_list a ts) (omega (arith, length-child_list a ts, whole.0)) (omega (arith, need-child_list a ts)) in
    record { each = whole.1; enough = parts.1; all = omega (arith, parts.0, need-child_list a ts) }

module _ (a : Axis) (t : Shape) (ts : Shapes) (sizes : List ℕ) (area : Rect) (fill : Fill a (more_shapes t ts) sizes area) where
  pub fill_first : least a t ≤ first sizes
  fill_first = suffices_first (child a t) (child_list a ts) sizes fill.enough

  pub fill_all : first sizes + total (behind sizes) + (gap a ts + gaps a ts) ≡ extent a area
  fill_all = omega (arith, suffices_total (child a t) (child_list a ts) sizes fill.enough, fill.all)

pub fill_behind : (a : Axis) (t : Shape) (ts : Shapes) (sizes : List ℕ) (area : Rect) → Fill a (more_shapes t ts) sizes area → Fill a ts (behind sizes) (beyond a (first sizes + gap a ts) area)
fill_behind Across t ts sizes area fill = record { each = fill.each.1; enough = suffices_behind (child Across t) (child_list Across ts) sizes fill.enough; all = omega (arith, fill_all Across t ts sizes area fill) }
fill_behind Down t ts sizes area fill = record { each = fill.each.1; enough = suffices_behind (child Down t) (child_list Down ts) sizes fill.enough; all = omega (arith, fill_all Down t ts sizes area fill) }

-- how often a cell is covered by a tree, and by children of these sizes
abbrev tree_covers : ℕ → ℕ → Shape → Rect → ℕ
tree_covers row col t area = times_in row col (areas (rects t area)) + times_in row col (separators t area)

abbrev children_cover : ℕ → ℕ → Axis → Shapes → List ℕ → Rect → ℕ
children_cover row col a ts sizes area = times_in row col (areas (rects_along a ts sizes area)) + times_in row col (separators_along a ts sizes area)

module _ (row col : ℕ) (a : Axis) (t : Shape) (ts : Shapes) (sizes : List ℕ) (area : Rect) where
  cover_one : children_cover row col a (more_shapes t ts) sizes area ≡ tree_covers row col t (part a (first sizes) area) + (times_in row col (separator a ts (beyond a (first sizes) area)) + children_cover row col a ts (behind sizes) (beyond a (first sizes + gap a ts) area))
  cover_one =
      let here = part a (first sizes) area in
      let next = beyond a (first sizes + gap a ts) area in
      omega (
        arith,
        ap (times_in row col) (areas-append (rects t here) (rects_along a ts (behind sizes) next)),
        times_in-append row col (areas (rects t here)) (areas (rects_along a ts (behind sizes) next)),
        times_in-append row col (separators t here ++ separator a ts (beyond a (first sizes) area)) (separators_along a ts (behind sizes) next),
        times_in-append row col (separators t here) (separator a ts (beyond a (first sizes) area)),
      )

joined : (all front apart rest here next area : ℕ) → all ≡ front + (apart + rest) → front ≡ here → rest ≡ next → area ≡ here + (apart + next) → all ≡ area
joined all front apart rest here next area e f g h = omega arith

mutual
  tiles : (t : Shape) (area : Rect) → NoneEmpty t → IsRoomy t area → (row col : ℕ) → tree_covers row col t area ≡ in_rect row col area
  tiles (leaf l) area whole roomy row col = omega arith
  tiles (group Across ts) area whole roomy row col = tiles_across ts (child_sizes Across ts area) area (fill_group Across ts area whole roomy.wide) roomy.high row col
  tiles (group Down ts) area whole roomy row col = tiles_down ts (child_sizes Down ts area) area (fill_group Down ts area whole roomy.high) roomy.wide row col

  tiles_across : (ts : Shapes) (sizes : List ℕ) (area : Rect) → Fill Across ts sizes area → least_max Down ts ≤ area.height → (row col : ℕ) → children_cover row col Across ts sizes area ≡ in_rect row col area
  tiles_across no_shapes sizes area fill cross row col = sym (in_rect-none Across area row col (omega (arith, none_suffice sizes fill.enough, fill.all)))
  tiles_across (more_shapes t ts) sizes area fill cross row col =
      joined _ _ _ _ _ _ _ (cover_one row col Across t ts sizes area)
      (tiles t (part Across (first sizes) area) fill.each.0 (record { wide = fill_first Across t ts sizes area fill; high = omega arith }) row col)
      (tiles_across ts (behind sizes) (beyond Across (first sizes + gap Across ts) area) (fill_behind Across t ts sizes area fill) (omega arith) row col)
      (separator_cut Across ts (first sizes) area row col (omega (arith, fill_all Across t ts sizes area fill)))

  tiles_down : (ts : Shapes) (sizes : List ℕ) (area : Rect) → Fill Down ts sizes area → least_max Across ts ≤ area.width → (row col : ℕ) → children_cover row col Down ts sizes area ≡ in_rect row col area
  tiles_down no_shapes sizes area fill cross row col = sym (in_rect-none Down area row col (omega (arith, none_suffice sizes fill.enough, fill.all)))
  tiles_down (more_shapes t ts) sizes area fill cross row col =
      joined _ _ _ _ _ _ _ (cover_one row col Down t ts sizes area)
      (tiles t (part Down (first sizes) area) fill.each.0 (record { wide = omega arith; high = fill_first Down t ts sizes area fill }) row col)
      (tiles_down ts (behind sizes) (beyond Down (first sizes + gap Down ts) area) (fill_behind Down t ts sizes area fill) (omega arith) row col)
      (separator_cut Down ts (first sizes) area row col (omega (arith, fill_all Down t ts sizes area fill)))

pub rects_tile : RectsTile
rects_tile = tiles
