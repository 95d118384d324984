-- One child of a group is placed.
use Rattle.std.proofs.Common.{◌≡◌, ℕ, zero, suc, ◌+◌, ◌-◌, ◌≤◌, ◌<◌, ◌^◌, Bool, List, [], ◌∷◌, ◌++◌, append_assoc, append-nil, length, length-append, take, drop, get_or, refl, ap, sym, ◌∙◌, subst, arith}
use Rattle.std.specs.List.{list_all}
use Rattle.nv_layout.specs.Content.{Shape, Shapes, group, no_shapes, more_shapes, shape_of, shapes_of}
use Rattle.nv_layout.specs.Division.{Child, wishes, counted_children, counted_children_where, need, sizes, division}
use Rattle.nv_layout.specs.Least.{least, gap, gaps, child_list, NoneEmpty}
use Rattle.nv_layout.specs.Sizing.{child_at, next_size, rooms_behind, rooms_of}
use Rattle.nv_layout.specs.inside.Measured.{leasts, leasts_below, leasts_below_all, IsLed, AreLeasts}
use Rattle.nv_layout.specs.Places.{extent, part, beyond, rects, rects_along, child_sizes, IsRoomy, IsOnScreen}
use Rattle.nv_layout.specs.declared.division.Rooms.{Rooms}
use Rattle.nv_layout.specs.declared.nodes.Axis.{Axis}
use Rattle.nv_layout.specs.declared.nodes.Axis.TheVariants.{Across, Down}
use Rattle.nv_layout.specs.declared.nodes.Placed.{Placed}
use Rattle.nv_layout.specs.declared.nodes.Rect.{Rect}
use Rattle.nv_layout.specs.declared.nodes.Tree.{Tree}
use Rattle.nv_layout.proofs.Divisions.{need-counted_more}
use Rattle.nv_layout.proofs.Contents.{shapes_of-at, shapes_of-end}
use Rattle.nv_layout.proofs.Children.{child_within, least_of_child, drop-child}
use Rattle.nv_layout.proofs.Tilings.{need-child_list, Fill, fill_group}
use Rattle.nv_layout.proofs.Ahead.{IsReady, ready_start, sizes_by, Ahead, Next, next_ahead, roomy_along}

-- the children of a list of trees as they count
abbrev pub counting : Bool → Axis → List Tree → List Child
counting all a ts = counted_children_where all (child_list a (shapes_of ts))

abbrev child_of : ℕ → ℕ → Child
child_of least wish = record { least = least; wish = wish }

-- where a group's children are about to be placed
pub record Placing (a : Axis) (ts : List Tree) (all : Bool) (i : ℕ) (r : Rooms) (rest : Rect) (left known : List ℕ) (into first_into : List Placed) (area : Rect) : Type 0 where
  pub ahead : Ahead a (shapes_of (drop i ts)) (drop i (counting all a ts)) r rest
  pub placed : into ++ rects_along a (shapes_of (drop i ts)) (sizes_by r (drop i (counting all a ts))) rest ≡ first_into ++ rects (group a (shapes_of ts)) area
  pub over : List ℕ
  pub left_is : left ≡ leasts_below_all (shapes_of (drop i ts)) ++ over
  pub known_is : known ≡ leasts_below (group a (shapes_of ts)) ++ over

pub room_enough : (a : Axis) (ts : Shapes) (area : Rect) → IsRoomy (group a ts) area → (gaps a ts ≤ extent a area) × (need (child_list a ts) ≤ extent a area - gaps a ts)
room_enough a ts area h = (omega (arith, need-child_list a ts, (roomy_along a ts area h).0), omega (arith, need-child_list a ts, (roomy_along a ts area h).0))

sizes_are : (a : Axis) (ts : Shapes) (all : Bool) (area : Rect) → all ≡ list_all wishes (child_list a ts) → sizes (extent a area - gaps a ts) (counted_children_where all (child_list a ts)) ≡ child_sizes a ts area
unfolding division
sizes_are a ts all area e = ap (λ b. sizes (extent a area - gaps a ts) (counted_children_where b (child_list a ts))) e

pub rects_start : (a : Axis) (ts : List Tree) (all : Bool) (r : Rooms) (area : Rect) → all ≡ list_all wishes (child_list a (shapes_of ts))
    → r ≡ rooms_of (extent a area - gaps a (shapes_of ts)) (counted_children (child_list a (shapes_of ts)))
    → rects_along a (shapes_of ts) (sizes_by r (counting all a ts)) area ≡ rects (group a (shapes_of ts)) area
rects_start a ts all r area e f =
    let room : ℕ = extent a area - gaps a (shapes_of ts) in
    let is : r ≡ rooms_of room (counting all a ts) = f ∙ ap (λ b. rooms_of room (counted_children_where b (child_list a (shapes_of ts)))) (sym e) in
    let same : sizes_by r (counting all a ts) ≡ child_sizes a (shapes_of ts) area = ap (λ s. sizes_by s (counting all a ts)) is ∙ sizes_are a (shapes_of ts) all area e in
    ap (λ ns. rects_along a (shapes_of ts) ns area) same

pub ahead_start : (a : Axis) (ts : List Tree) (all : Bool) (r : Rooms) (area : Rect) →
    NoneEmpty (group a (shapes_of ts)) → IsRoomy (group a (shapes_of ts)) area → IsOnScreen area → all ≡ list_all wishes (child_list a (shapes_of ts)) →
    r ≡ rooms_of (extent a area - gaps a (shapes_of ts)) (counted_children (child_list a (shapes_of ts))) → Ahead a (shapes_of ts) (counting all a ts) r area
ahead_start a ts all r area whole roomy screen e f =
    let room : ℕ = extent a area - gaps a (shapes_of ts) in
    let is : r ≡ rooms_of room (counting all a ts) = f ∙ ap (λ b. rooms_of room (counted_children_where b (child_list a (shapes_of ts)))) (sym e) in
    let same : sizes_by r (counting all a ts) ≡ child_sizes a (shapes_of ts) area = ap (λ s. sizes_by s (counting all a ts)) is ∙ sizes_are a (shapes_of ts) all area e in
    record {
      ready = subst (λ s. IsReady s (counting all a ts)) (sym is) (ready_start room (counting all a ts) (omega (arith, need-counted_more (child_list a (shapes_of ts)) all, (room_enough a (shapes_of ts) area roomy).1)));
      fill = subst (λ ns. Fill a (shapes_of ts) ns area) (sym same) (fill_group a (shapes_of ts) area whole (roomy_along a (shapes_of ts) area roomy).0);
      cross = (roomy_along a (shapes_of ts) area roomy).1;
      on_screen = screen;
    }

-- what is known of a group: its children's least sizes, and then what is below them
pub length-leasts : (a : Axis) (ts : List Tree) → length (leasts a (shapes_of ts)) ≡ length ts
length-leasts a [] = refl
length-leasts a (t ∷ ts) = omega (arith, length-leasts a ts)

leasts_at : (a : Axis) (ts : List Tree) (i : ℕ) → get_or (leasts a (shapes_of ts)) i 0 ≡ (child_at (child_list a (shapes_of ts)) i).least
leasts_at a [] i = refl
leasts_at a (t ∷ ts) zero = refl
leasts_at a (t ∷ ts) (suc i) = leasts_at a ts i

take_front : (xs ys : List ℕ) → take (length xs) (xs ++ ys) ≡ xs
take_front [] ys = refl
take_front (x ∷ xs) ys = ap (λ l. x ∷ l) (take_front xs ys)

drop_front : (xs ys : List ℕ) → drop (length xs) (xs ++ ys) ≡ ys
drop_front [] ys = refl
drop_front (x ∷ xs) ys = drop_front xs ys

module _ (a : Axis) (ts : List Tree) (known : List ℕ) (h : IsLed (leasts_below (group a (shapes_of ts))) known) where
  known_parts : known ≡ leasts a (shapes_of ts) ++ (leasts_below_all (shapes_of ts) ++ h.rest)
  known_parts = h.is ∙ append_assoc (leasts a (shapes_of ts)) (leasts_below_all (shapes_of ts)) h.rest

  pub known_enough : length ts ≤ length known
  known_enough = omega (arith, ap length known_parts, length-append (leasts a (shapes_of ts)) (leasts_below_all (shapes_of ts) ++ h.rest), length-leasts a ts)

  pub front_is : take (length ts) known ≡ leasts a (shapes_of ts)
  front_is =
      ap (λ n. take n known) (sym (length-leasts a ts)) ∙ ap (take (length (leasts a (shapes_of ts)))) known_parts
      ∙ take_front (leasts a (shapes_of ts)) (leasts_below_all (shapes_of ts) ++ h.rest)

  pub back_is : drop (length ts) known ≡ leasts_below_all (shapes_of ts) ++ h.rest
  back_is =
      ap (λ n. drop n known) (sym (length-leasts a ts)) ∙ ap (drop (length (leasts a (shapes_of ts)))) known_parts
      ∙ drop_front (leasts a (shapes_of ts)) (leasts_below_all (shapes_of ts) ++ h.rest)

pub front_leasts : (a : Axis) (ts : List Tree) (front : List ℕ) → front ≡ leasts a (shapes_of ts) → AreLeasts a ts front
front_leasts a ts front e i h = ap (λ l. get_or l i 0) e ∙ leasts_at a ts i

pub placing_start : (a : Axis) (ts : List Tree) (all : Bool) (r : Rooms) (area : Rect) (left known : List ℕ) (into : List Placed) →
    NoneEmpty (group a (shapes_of ts)) → IsRoomy (group a (shapes_of ts)) area → IsOnScreen area → all ≡ list_all wishes (child_list a (shapes_of ts)) →
    r ≡ rooms_of (extent a area - gaps a (shapes_of ts)) (counted_children (child_list a (shapes_of ts))) →
    (h : IsLed (leasts_below (group a (shapes_of ts))) known) → left ≡ drop (length ts) known → Placing a ts all 0 r area left known into into area
placing_start a ts all r area left known into whole roomy screen e f h g = record {
  ahead = ahead_start a ts all r area whole roomy screen e f;
  placed = ap (λ ps. into ++ ps) (rects_start a ts all r area e f);
  over = h.rest;
  left_is = g ∙ back_is a ts known h;
  known_is = h.is;
}

module _ (a : Axis) (ts : List Tree) (all : Bool) (i : ℕ) (t : Tree) (h : i < length ts) (is : t ≡ get_or ts i t)
    (low wished : ℕ) (low_is : low ≡ least a (shape_of t)) (wished_is : wished ≡ (child_at (counting all a ts) i).wish) where
  abbrev here : Child
  here = record { least = low; wish = wished }

  child_here : child_at (counting all a ts) i ≡ here
  child_here =
      ap (λ n. child_of n (child_at (counting all a ts) i).wish) (sym (least_of_child a ts all i t h is) ∙ sym low_is)
      ∙ ap (child_of low) (sym wished_is)

  pub shapes_here : shapes_of (drop i ts) ≡ more_shapes (shape_of t) (shapes_of (drop (i + 1) ts))
  shapes_here = shapes_of-at ts i t h ∙ ap (λ u. more_shapes (shape_of u) (shapes_of (drop (i + 1) ts))) (sym is)

  pub children_here : drop i (counting all a ts) ≡ here ∷ drop (i + 1) (counting all a ts)
  children_here = drop-child (counting all a ts) i (child_within a ts all i t h is) ∙ ap (λ c. c ∷ drop (i + 1) (counting all a ts)) child_here

  module _ (r : Rooms) (rest : Rect) (left known : List ℕ) (into first_into : List Placed) (area : Rect) (p : Placing a ts all i r rest left known into first_into area) where
    pub next_child : Next a (shape_of t) (shapes_of (drop (i + 1) ts)) here (drop (i + 1) (counting all a ts)) r rest
    next_child =
        next_ahead a (shape_of t) (shapes_of (drop (i + 1) ts)) here (drop (i + 1) (counting all a ts)) r rest
        (subst (λ cs. Ahead a (more_shapes (shape_of t) (shapes_of (drop (i + 1) ts))) cs r rest) children_here
        (subst (λ ss. Ahead a ss (drop i (counting all a ts)) r rest) shapes_here p.ahead))

    pub rects_here : rects_along a (shapes_of (drop i ts)) (sizes_by r (drop i (counting all a ts))) rest ≡ rects (shape_of t) (part a (next_size r here) rest) ++ rects_along a (shapes_of (drop (i + 1) ts)) (sizes_by (rooms_behind r here) (drop (i + 1) (counting all a ts))) (beyond a (next_size r here + gap a (shapes_of (drop (i + 1) ts))) rest)
    rects_here =
        ap (λ ss. rects_along a ss (sizes_by r (drop i (counting all a ts))) rest) shapes_here
        ∙ ap (λ cs. rects_along a (more_shapes (shape_of t) (shapes_of (drop (i + 1) ts))) (sizes_by r cs) rest) children_here
        ∙ next_child.placed

    abbrev left_over : List ℕ
    left_over = leasts_below_all (shapes_of (drop (i + 1) ts)) ++ p.over

    left_here : left ≡ leasts_below (shape_of t) ++ left_over
    left_here =
        p.left_is ∙ ap (λ ss. leasts_below_all ss ++ p.over) shapes_here
        ∙ append_assoc (leasts_below (shape_of t)) (leasts_below_all (shapes_of (drop (i + 1) ts))) p.over

    pub led_here : IsLed (leasts_below (shape_of t)) left
    led_here = record { rest = left_over; is = left_here }

    pub placing_step : (size behind_gap : ℕ) (r' : Rooms) (here_area rest' : Rect) (left' : List ℕ) (into' : List Placed) →
        size ≡ next_size r here → r' ≡ rooms_behind r here → here_area ≡ part a size rest → behind_gap ≡ gap a (shapes_of (drop (i + 1) ts)) →
        rest' ≡ beyond a (size + behind_gap) rest → left ≡ leasts_below (shape_of t) ++ left' → into' ≡ into ++ rects (shape_of t) here_area →
        Placing a ts all (i + 1) r' rest' left' known into' first_into area
    placing_step size behind_gap r' here_area rest' left' into' size_is r_is area_is gap_is rest_is left_is into_is =
        let rest_now : rest' ≡ beyond a (next_size r here + gap a (shapes_of (drop (i + 1) ts))) rest = rest_is ∙ ap (λ n. beyond a (n + behind_gap) rest) size_is ∙ ap (λ n. beyond a (next_size r here + n) rest) gap_is in
        let into_now : into' ≡ into ++ rects (shape_of t) (part a (next_size r here) rest) = into_is ∙ ap (λ q. into ++ rects (shape_of t) q) (area_is ∙ ap (λ n. part a n rest) size_is) in
        let others : List Placed = rects_along a (shapes_of (drop (i + 1) ts)) (sizes_by (rooms_behind r here) (drop (i + 1) (counting all a ts))) (beyond a (next_size r here + gap a (shapes_of (drop (i + 1) ts))) rest) in
        subst (λ s. Placing a ts all (i + 1) s rest' left' known into' first_into area) (sym r_is)
        (subst (λ s. Placing a ts all (i + 1) (rooms_behind r here) s left' known into' first_into area) (sym rest_now) (record {
          ahead = next_child.ahead;
          placed =
              ap (λ ps. ps ++ others) into_now
              ∙ append_assoc into (rects (shape_of t) (part a (next_size r here) rest)) others
              ∙ ap (λ ps. into ++ ps) (sym rects_here)
              ∙ p.placed;
          over = p.over;
          left_is = sym (drop_front (leasts_below (shape_of t)) left') ∙ ap (drop (length (leasts_below (shape_of t)))) (sym left_is ∙ left_here) ∙ drop_front (leasts_below (shape_of t)) left_over;
          known_is = p.known_is;
        }))

pub placing_end : (a : Axis) (ts : List Tree) (all : Bool) (i : ℕ) (r : Rooms) (rest : Rect) (left known : List ℕ) (into first_into : List Placed) (area : Rect) → length ts ≤ i → Placing a ts all i r rest left known into first_into area →
    (known ≡ leasts_below (group a (shapes_of ts)) ++ left) × (into ≡ first_into ++ rects (group a (shapes_of ts)) area)
placing_end a ts all i r rest left known into first_into area h p =
    let none : shapes_of (drop i ts) ≡ no_shapes = shapes_of-end ts i h in (
      p.known_is ∙ ap (λ l. leasts_below (group a (shapes_of ts)) ++ l) (sym (p.left_is ∙ ap (λ ss. leasts_below_all ss ++ p.over) none)),
      sym (append-nil into) ∙ sym (ap (λ ss. into ++ rects_along a ss (sizes_by r (drop i (counting all a ts))) rest) none) ∙ p.placed,
    )

-- numbers of an area on the screen
pub extent_small : (a : Axis) (area : Rect) → IsOnScreen area → extent a area < 2 ^ 32
extent_small Across area h = omega (arith, h.right)
extent_small Down area h = omega (arith, h.bottom)

pub next_least : (a : Axis) (t : Shape) (ts : Shapes) (c : Child) (cs : List Child) (r : Rooms) (rest : Rect) → Next a t ts c cs r rest → least a t ≤ next_size r c
next_least Across t ts c cs r rest n = n.roomy.wide
next_least Down t ts c cs r rest n = n.roomy.high
