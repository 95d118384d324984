-- Moves of small places.
use Rattle.std.proofs.Common.{◌≤◌, ◌<◌, ◌*◌, ◌^◌, ℕ, List, ◌∷◌, map, All, not, arith, Bool, true, false, cond, Option, Some, None}
use Rattle.std.specs.Prelude.{IfSome, option_map}
use Rattle.std.proofs.lemmas.Bool.Decides.{nat_tests}
use Rattle.std.proofs.lemmas.List.Elements.{All-cons, All-weaker, All-filter, All-map}
use Rattle.std.proofs.lemmas.List.Sorted.{All-permutation}
use Rattle.nv_marks.specs.Marks.{is_named, without}
use Rattle.nv_marks.specs.Order.{IsInOrder}
use Rattle.nv_places.specs.declared.place.Pos.{Pos}
use Rattle.nv_places.specs.declared.place.Extent.{Extent}
use Rattle.nv_places.specs.Places.{IsNarrow, further, is_before}
use Rattle.nv_places.specs.Moves.{moved_place, carried_place}
use Rattle.nv_marks.specs.Moves.{moved_mark, moved_far, MovesNarrowly}
use Rattle.nv_marks.specs.Bounds.{IsPosBelow, IsBelow, IsSpliceBelow}
use Rattle.nv_marks.specs.declared.extmark.Mark.{Mark}
use Rattle.nv_marks.specs.declared.extmark.Far.{Far}

further_below : (bound : ℕ) (p : Pos) (e : Extent) → p.row < bound → p.col < bound → e.rows < bound → e.cols < bound
    → IsPosBelow (2 * bound) (further p e)
further_below bound p e row col rows cols = (grind (arith, nat_tests), grind (arith, nat_tests))

carried_below : (bound : ℕ) (old new p : Pos) → IsPosBelow bound p → IsPosBelow (2 * bound) new → IsPosBelow (3 * bound) (carried_place old new p)
carried_below bound old new p small there = (grind (arith, nat_tests), grind (arith, nat_tests))

moved_below : (bound : ℕ) (right : Bool) (start : Pos) (old new : Extent) (p : Pos) → IsSpliceBelow bound start old new
    → IsPosBelow bound p → IsPosBelow (3 * bound) (moved_place right start old new p)
moved_below bound right start old new p within small =
    by_cases (is_before p start) (is_before (further start old) p) right
  where
    new_end : IsPosBelow (2 * bound) (further start new)
    new_end = further_below bound start new within.start_row within.start_col within.new_rows within.new_cols

    behind : IsPosBelow (3 * bound) (carried_place (further start old) (further start new) p)
    behind = carried_below bound (further start old) (further start new) p small new_end

    by_cases : (before after right : Bool)
        → IsPosBelow (3 * bound)
        (cond before p (cond after (carried_place (further start old) (further start new) p) (cond right (further start new) start)))
    by_cases true after right = (omega arith, omega arith)
    by_cases false true right = behind
    by_cases false false true = (omega (arith, new_end.0), omega (arith, new_end.1))
    by_cases false false false = (omega (arith, within.start_row), omega (arith, within.start_col))

narrow : (bound : ℕ) (p : Pos) → 3 * bound ≤ 2 ^ 32 → IsPosBelow (3 * bound) p → IsNarrow p
narrow bound p few small = (omega arith, omega arith)

pub bounded_moves : (bound : ℕ) (start : Pos) (old new : Extent) (m : Mark) → IsSpliceBelow bound start old new → IsBelow bound m
    → 3 * bound ≤ 2 ^ 32
    → IsNarrow (further start old) × IsNarrow (further start new) × MovesNarrowly start old new m
    × IsBelow (3 * bound) (moved_mark start old new m)
bounded_moves bound start old new m within small few = (
  (omega (arith, old_end.0), omega (arith, old_end.1)),
  (omega (arith, new_end.0), omega (arith, new_end.1)),
  (narrow bound (moved_place m.right start old new m.start) few start_moves, stop_narrow m.stop small.1),
  (start_moves, stop_moves m.stop small.1),
)
  where
    old_end : IsPosBelow (2 * bound) (further start old)
    old_end = further_below bound start old within.start_row within.start_col within.old_rows within.old_cols

    new_end : IsPosBelow (2 * bound) (further start new)
    new_end = further_below bound start new within.start_row within.start_col within.new_rows within.new_cols

    start_moves : IsPosBelow (3 * bound) (moved_place m.right start old new m.start)
    start_moves = moved_below bound m.right start old new m.start within small.0

    stop_narrow : (stop : Option Far) → IfSome stop (λ far. IsPosBelow bound far.pos)
        → IfSome stop (λ far. IsNarrow (moved_place far.right start old new far.pos))
    stop_narrow None _ = tt
    stop_narrow (Some far) far_small = narrow bound (moved_place far.right start old new far.pos) few (moved_below bound far.right start old new far.pos within far_small)

    stop_moves : (stop : Option Far) → IfSome stop (λ far. IsPosBelow bound far.pos)
        → IfSome (option_map (moved_far start old new) stop) (λ far. IsPosBelow (3 * bound) far.pos)
    stop_moves None _ = tt
    stop_moves (Some far) far_small = moved_below bound far.right start old new far.pos within far_small

-- a set of marks below a bound, with one more, and moved
pub All-with : (bound : ℕ) (mark : Mark) (marks sorted : List Mark) → IsBelow bound mark → All (IsBelow bound) marks
    → IsInOrder (mark ∷ without mark.ns mark.id marks) sorted → All (IsBelow bound) sorted
All-with bound mark marks sorted this small ordered =
    All-permutation (IsBelow bound) (mark ∷ without mark.ns mark.id marks) sorted ordered.same_marks
    (All-cons (IsBelow bound) mark (without mark.ns mark.id marks) this
    (All-filter (λ m. not (is_named mark.ns mark.id m)) (IsBelow bound) marks small))

pub All-narrow : (bound : ℕ) (start : Pos) (old new : Extent) (marks : List Mark) → IsSpliceBelow bound start old new
    → 3 * bound ≤ 2 ^ 32 → All (IsBelow bound) marks → All (MovesNarrowly start old new) marks
All-narrow bound start old new marks within few small =
    All-weaker (IsBelow bound) (MovesNarrowly start old new) (λ m is. (bounded_moves bound start old new m within is few).2) marks small

pub All-moved : (bound : ℕ) (start : Pos) (old new : Extent) (marks sorted : List Mark) → IsSpliceBelow bound start old new
    → 3 * bound ≤ 2 ^ 32 → All (IsBelow bound) marks → IsInOrder (map (moved_mark start old new) marks) sorted
    → All (IsBelow (3 * bound)) sorted
All-moved bound start old new marks sorted within few small ordered =
    All-permutation (IsBelow (3 * bound)) (map (moved_mark start old new) marks) sorted ordered.same_marks
    (All-map (IsBelow (3 * bound)) (moved_mark start old new) marks
    (All-weaker (IsBelow bound) (λ m. IsBelow (3 * bound) (moved_mark start old new m))
    (λ m is. (bounded_moves bound start old new m within is few).3) marks small))
