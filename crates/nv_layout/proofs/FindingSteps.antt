-- The rectangle of one window is looked for child by child.
use Rattle.std.proofs.Common.{◌≡◌, ℕ, ℤ, ◌+◌, ◌-◌, ◌≤◌, ◌<◌, Bool, true, false, List, [], ◌∷◌, ◌++◌, length, drop, get_or, Option, Some, None, if◌then◌else◌, refl, ap, sym, ◌∙◌, subst}
use Rattle.std.specs.Prelude.{find, option_map, is_some}
use Rattle.std.specs.List.{list_all}
use Rattle.std.specs.Ordering.{int_eq}
use Rattle.nv_layout.specs.Content.{group, more_shapes, shape_of, shapes_of}
use Rattle.nv_layout.specs.Division.{Child, wishes, counted_children}
use Rattle.nv_layout.specs.Least.{least, gap, gaps, child_list, NoneEmpty}
use Rattle.nv_layout.specs.Sizing.{child_at, next_size, rooms_behind, rooms_of}
use Rattle.nv_layout.specs.Places.{extent, part, beyond, rects, rects_along, rect_among, IsRoomy, IsOnScreen}
use Rattle.nv_layout.specs.declared.division.Rooms.{Rooms}
use Rattle.nv_layout.specs.declared.nodes.Axis.{Axis}
use Rattle.nv_layout.specs.declared.nodes.Placed.{Placed}
use Rattle.nv_layout.specs.declared.nodes.Rect.{Rect}
use Rattle.nv_layout.specs.declared.nodes.Tree.{Tree}
use Rattle.nv_layout.proofs.Contents.{shapes_of-end}
use Rattle.nv_layout.proofs.Ahead.{sizes_by, Ahead, Next, next_ahead}
use Rattle.nv_layout.proofs.PlacingSteps.{counting, ahead_start, rects_start, shapes_here, children_here}

-- a window among rectangles, where some come first
among_none : (w : ℤ) (ps qs : List Placed) → rect_among w ps ≡ None → rect_among w (ps ++ qs) ≡ rect_among w qs
among_none w [] qs e = refl
among_none w (p ∷ ps) qs e = by_name (among_none w ps qs) (int_eq p.window w) e
  where
    by_name : (rect_among w ps ≡ None → rect_among w (ps ++ qs) ≡ rect_among w qs) → (b : Bool) → option_map (λ (q : Placed). q.rect) (if b then Some p else find (λ q. int_eq q.window w) ps) ≡ None
        → option_map (λ (q : Placed). q.rect) (if b then Some p else find (λ q. int_eq q.window w) (ps ++ qs)) ≡ rect_among w qs
    by_name rest true e = cc
    by_name rest false e = rest e

among_some : (w : ℤ) (ps qs : List Placed) (r : Rect) → rect_among w ps ≡ Some r → rect_among w (ps ++ qs) ≡ Some r
among_some w [] qs r e = cc
among_some w (p ∷ ps) qs r e = by_name (among_some w ps qs r) (int_eq p.window w) e
  where
    by_name : (rect_among w ps ≡ Some r → rect_among w (ps ++ qs) ≡ Some r) → (b : Bool) → option_map (λ (q : Placed). q.rect) (if b then Some p else find (λ q. int_eq q.window w) ps) ≡ Some r
        → option_map (λ (q : Placed). q.rect) (if b then Some p else find (λ q. int_eq q.window w) (ps ++ qs)) ≡ Some r
    by_name rest true e = e
    by_name rest false e = rest e

-- where a window's rectangle is looked for among the children that are left
pub record Finding (a : Axis) (ts : List Tree) (all : Bool) (i : ℕ) (r : Rooms) (rest : Rect) (w : ℤ) (area : Rect) : Type 0 where
  pub ahead : Ahead a (shapes_of (drop i ts)) (drop i (counting all a ts)) r rest
  pub found : rect_among w (rects_along a (shapes_of (drop i ts)) (sizes_by r (drop i (counting all a ts))) rest) ≡ rect_among w (rects (group a (shapes_of ts)) area)

pub finding_start : (a : Axis) (ts : List Tree) (all : Bool) (r : Rooms) (w : ℤ) (area : Rect)
    → NoneEmpty (group a (shapes_of ts)) → IsRoomy (group a (shapes_of ts)) area → IsOnScreen area → all ≡ list_all wishes (child_list a (shapes_of ts))
    → r ≡ rooms_of (extent a area - gaps a (shapes_of ts)) (counted_children (child_list a (shapes_of ts))) → Finding a ts all 0 r area w area
finding_start a ts all r w area whole roomy screen e f = record {
  ahead = ahead_start a ts all r area whole roomy screen e f;
  found = ap (rect_among w) (rects_start a ts all r area e f);
}

module _ (a : Axis) (ts : List Tree) (all : Bool) (i : ℕ) (t : Tree) (h : i < length ts) (is : t ≡ get_or ts i t)
    (low wished : ℕ) (low_is : low ≡ least a (shape_of t)) (wished_is : wished ≡ (child_at (counting all a ts) i).wish)
    (r : Rooms) (rest : Rect) (w : ℤ) (area : Rect) (p : Finding a ts all i r rest w area) where
  abbrev here : Child
  here = record { least = low; wish = wished }

  pub next_found : Next a (shape_of t) (shapes_of (drop (i + 1) ts)) here (drop (i + 1) (counting all a ts)) r rest
  next_found =
      next_ahead a (shape_of t) (shapes_of (drop (i + 1) ts)) here (drop (i + 1) (counting all a ts)) r rest
      (subst (λ cs. Ahead a (more_shapes (shape_of t) (shapes_of (drop (i + 1) ts))) cs r rest) (children_here a ts all i t h is low wished low_is wished_is)
      (subst (λ ss. Ahead a ss (drop i (counting all a ts)) r rest) (shapes_here a ts all i t h is low wished low_is wished_is) p.ahead))

  abbrev rest_rects : List Placed
  rest_rects = rects_along a (shapes_of (drop (i + 1) ts)) (sizes_by (rooms_behind r here) (drop (i + 1) (counting all a ts))) (beyond a (next_size r here + gap a (shapes_of (drop (i + 1) ts))) rest)

  rects_now : rects_along a (shapes_of (drop i ts)) (sizes_by r (drop i (counting all a ts))) rest ≡ rects (shape_of t) (part a (next_size r here) rest) ++ rest_rects
  rects_now =
      ap (λ ss. rects_along a ss (sizes_by r (drop i (counting all a ts))) rest) (shapes_here a ts all i t h is low wished low_is wished_is)
      ∙ ap (λ cs. rects_along a (more_shapes (shape_of t) (shapes_of (drop (i + 1) ts))) (sizes_by r cs) rest) (children_here a ts all i t h is low wished low_is wished_is)
      ∙ next_found.placed

  module _ (size : ℕ) (here_area : Rect) (size_is : size ≡ next_size r here) (area_is : here_area ≡ part a size rest) where
    area_now : rects (shape_of t) here_area ≡ rects (shape_of t) (part a (next_size r here) rest)
    area_now = ap (rects (shape_of t)) (area_is ∙ ap (λ n. part a n rest) size_is)

    pub found_here : (q : Rect) (o : Option Rect) → o ≡ rect_among w (rects (shape_of t) here_area) → o ≡ Some q → o ≡ rect_among w (rects (group a (shapes_of ts)) area)
    found_here q o is_o some =
        some ∙ sym (among_some w (rects (shape_of t) (part a (next_size r here) rest)) rest_rects q (sym (ap (rect_among w) area_now) ∙ sym is_o ∙ some))
        ∙ sym (ap (rect_among w) rects_now) ∙ p.found

    pub finding_step : (behind_gap : ℕ) (r' : Rooms) (rest' : Rect) (o : Option Rect)
        → r' ≡ rooms_behind r here → behind_gap ≡ gap a (shapes_of (drop (i + 1) ts)) → rest' ≡ beyond a (size + behind_gap) rest
        → o ≡ rect_among w (rects (shape_of t) here_area) → o ≡ None → Finding a ts all (i + 1) r' rest' w area
    finding_step behind_gap r' rest' o r_is gap_is rest_is is_o none =
        let rest_now : rest' ≡ beyond a (next_size r here + gap a (shapes_of (drop (i + 1) ts))) rest = rest_is ∙ ap (λ n. beyond a (n + behind_gap) rest) size_is ∙ ap (λ n. beyond a (next_size r here + n) rest) gap_is in
        subst (λ s. Finding a ts all (i + 1) s rest' w area) (sym r_is)
        (subst (λ s. Finding a ts all (i + 1) (rooms_behind r here) s w area) (sym rest_now) (record {
          ahead = next_found.ahead;
          found =
              sym (among_none w (rects (shape_of t) (part a (next_size r here) rest)) rest_rects (sym (ap (rect_among w) area_now) ∙ sym is_o ∙ none))
              ∙ sym (ap (rect_among w) rects_now) ∙ p.found;
        }))

pub finding_end : (a : Axis) (ts : List Tree) (all : Bool) (i : ℕ) (r : Rooms) (rest : Rect) (w : ℤ) (area : Rect) → length ts ≤ i → Finding a ts all i r rest w area
    → None ≡ rect_among w (rects (group a (shapes_of ts)) area)
finding_end a ts all i r rest w area h p =
    sym (ap (λ ss. rect_among w (rects_along a ss (sizes_by r (drop i (counting all a ts))) rest)) (shapes_of-end ts i h)) ∙ p.found

-- what a test of an answer says
pub none_is : (o : Option Rect) → is_some o ≡ false → o ≡ None
none_is None e = refl
none_is (Some q) e = cc

pub some_is : (o p : Option Rect) → is_some o ≡ true → ((q : Rect) → o ≡ Some q → o ≡ p) → o ≡ p
some_is None p e f = cc
some_is (Some q) p e f = f q refl
