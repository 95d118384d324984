-- Children that are still to be sized and placed.
use Rattle.std.proofs.Common.{◌≡◌, ℕ, suc, ◌+◌, ◌-◌, ◌≤◌, ◌<◌, Bool, true, false, not, nat_lt, List, ◌∷◌, ◌++◌, length, filter, if◌then◌else◌, refl, ap, sym, subst, arith}
use Rattle.std.specs.Int.{div_ceil}
use Rattle.std.proofs.lemmas.Bool.Decides.{nat_tests}
use Rattle.nv_layout.specs.Content.{Shape, group, Shapes, more_shapes}
use Rattle.nv_layout.specs.Division.{Child, wishes, is_modest, need, within, wishes_granted, even_shares, first, behind, sizes_in_order}
use Rattle.nv_layout.specs.Least.{least, least_sum, least_max, gap, NoneEmpty}
use Rattle.nv_layout.specs.Sizing.{rooms_of, wish_size, share_size, next_size, behind_wish, behind_share, rooms_behind, CanTake}
use Rattle.nv_layout.specs.Places.{extent, part, beyond, rects, rects_along, IsRoomy, IsOnScreen}
use Rattle.nv_layout.specs.inside.Measured.{other}
use Rattle.nv_layout.specs.declared.division.Rooms.{Rooms}
use Rattle.nv_layout.specs.declared.nodes.Axis.{Axis}
use Rattle.nv_layout.specs.declared.nodes.Axis.TheVariants.{Across, Down}
use Rattle.nv_layout.specs.declared.nodes.Rect.{Rect}
use Rattle.nv_layout.proofs.Divisions.{need_parts, granted_leave}
use Rattle.nv_layout.proofs.Granting.{same_within}
use Rattle.nv_layout.proofs.Tilings.{Fill, fill_first, fill_all, fill_behind}

-- rooms that fit children
pub record IsReady (r : Rooms) (cs : List Child) : Type 0 where
  pub wish_need : r.wish_need ≡ need (filter wishes cs)
  pub wish_enough : r.other_need + r.wish_need ≤ r.wish_room
  pub share_need : r.share_need ≡ need (filter is_modest cs)
  pub share_enough : r.share_need ≤ r.share_room
  pub sharers : r.sharers ≡ length (filter is_modest cs)

-- the sizes that rooms give to children
abbrev pub sizes_by : Rooms → List Child → List ℕ
sizes_by r cs = sizes_in_order cs (wishes_granted r.other_need r.wish_room (filter wishes cs)) (even_shares r.share_room (filter is_modest cs))

pub ready_start : (room : ℕ) (cs : List Child) → need cs ≤ room → IsReady (rooms_of room cs) cs
ready_start room cs h = record {
  wish_need = refl;
  wish_enough = omega (arith, need_parts cs);
  share_need = refl;
  share_enough = omega (arith, granted_leave (need (filter is_modest cs)) (filter wishes cs) room (omega (arith, need_parts cs)));
  sharers = refl;
}

-- the same where it is known whether the first child wishes
record IsReadyWhere (b : Bool) (r : Rooms) (c : Child) (cs : List Child) : Type 0 where
  wish_need : r.wish_need ≡ need (if b then (c ∷ filter wishes cs) else filter wishes cs)
  wish_enough : r.other_need + r.wish_need ≤ r.wish_room
  share_need : r.share_need ≡ need (if not b then (c ∷ filter is_modest cs) else filter is_modest cs)
  share_enough : r.share_need ≤ r.share_room
  sharers : r.sharers ≡ length (if not b then (c ∷ filter is_modest cs) else filter is_modest cs)

ready_where : (r : Rooms) (c : Child) (cs : List Child) → IsReady r (c ∷ cs) → IsReadyWhere (wishes c) r c cs
ready_where r c cs h = record { wish_need = h.wish_need; wish_enough = h.wish_enough; share_need = h.share_need; share_enough = h.share_enough; sharers = h.sharers }

can_take_where : (b : Bool) (r : Rooms) (c : Child) (cs : List Child) → wishes c ≡ b → IsReadyWhere b r c cs → CanTake r c
can_take_where true r c cs e h = record {
  wish = λ k. (omega (arith, h.wish_need), h.wish_enough);
  share = λ z. absurd (not_both c.wish e z);
}
  where
    not_both : (n : ℕ) → nat_lt 0 n ≡ true → n ≡ 0 → ⊥
    not_both n e z = grind (arith, nat_tests)
can_take_where false r c cs e h = record {
  wish = λ k. absurd (not_both c.wish e k);
  share = λ z. (omega (arith, h.share_need), h.share_enough, omega (arith, h.sharers));
}
  where
    not_both : (n : ℕ) → nat_lt 0 n ≡ false → 0 < n → ⊥
    not_both n e k = grind (arith, nat_tests)

pub can_take : (r : Rooms) (c : Child) (cs : List Child) → IsReady r (c ∷ cs) → CanTake r c
can_take r c cs h = can_take_where (wishes c) r c cs refl (ready_where r c cs h)

size_most : (least room need_ size : ℕ) → least ≤ need_ → need_ ≤ room → within least (room - (need_ - least)) size + (need_ - least) ≤ room
size_most least room need_ size h k = omega arith

ready_behind_where : (b : Bool) (r : Rooms) (c : Child) (cs : List Child) → IsReadyWhere b r c cs → IsReady (if b then behind_wish r c else behind_share r c) cs
ready_behind_where true r c cs h = record {
  wish_need = omega (arith, h.wish_need);
  wish_enough = omega (arith, h.wish_need, h.wish_enough, size_most c.least r.wish_room (r.other_need + r.wish_need) c.wish (omega (arith, h.wish_need)) h.wish_enough);
  share_need = h.share_need;
  share_enough = h.share_enough;
  sharers = h.sharers;
}
ready_behind_where false r c cs h = record {
  wish_need = h.wish_need;
  wish_enough = h.wish_enough;
  share_need = omega (arith, h.share_need);
  share_enough = omega (arith, h.share_need, size_most c.least r.share_room r.share_need (div_ceil r.share_room r.sharers) (omega (arith, h.share_need)) h.share_enough);
  sharers = omega (arith, h.sharers);
}

pub ready_behind : (r : Rooms) (c : Child) (cs : List Child) → IsReady r (c ∷ cs) → IsReady (rooms_behind r c) cs
ready_behind r c cs h = ready_behind_where (wishes c) r c cs (ready_where r c cs h)

-- the next size, in the words of the definition
less_need : (room all least rest : ℕ) → all ≡ least + rest → room - rest ≡ room - (all - least)
less_need room all least rest e = ap (λ n. room - n) (omega arith)

sizes_next_where : (b : Bool) (r : Rooms) (c : Child) (cs : List Child) → IsReadyWhere b r c cs →
    (if b
    then (first (wishes_granted r.other_need r.wish_room (if b then (c ∷ filter wishes cs) else filter wishes cs))
    ∷ sizes_in_order cs (behind (wishes_granted r.other_need r.wish_room (if b then (c ∷ filter wishes cs) else filter wishes cs))) (even_shares r.share_room (if not b then (c ∷ filter is_modest cs) else filter is_modest cs)))
    else (first (even_shares r.share_room (if not b then (c ∷ filter is_modest cs) else filter is_modest cs))
    ∷ sizes_in_order cs (wishes_granted r.other_need r.wish_room (if b then (c ∷ filter wishes cs) else filter wishes cs)) (behind (even_shares r.share_room (if not b then (c ∷ filter is_modest cs) else filter is_modest cs)))))
    ≡ (if b then wish_size r c else share_size r c) ∷ sizes_by (if b then behind_wish r c else behind_share r c) cs
sizes_next_where true r c cs h =
    ap (λ n. n ∷ sizes_in_order cs (wishes_granted r.other_need (r.wish_room - n) (filter wishes cs)) (even_shares r.share_room (filter is_modest cs)))
    (same_within c.least c.least (r.wish_room - (r.other_need + need (filter wishes cs))) (r.wish_room - ((r.other_need + r.wish_need) - c.least)) c.wish c.wish refl
    (less_need r.wish_room (r.other_need + r.wish_need) c.least (r.other_need + need (filter wishes cs)) (omega (arith, h.wish_need))) refl)
sizes_next_where false r c cs h =
    ap (λ n. n ∷ sizes_in_order cs (wishes_granted r.other_need r.wish_room (filter wishes cs)) (even_shares (r.share_room - n) (filter is_modest cs)))
    (same_within c.least c.least (r.share_room - need (filter is_modest cs)) (r.share_room - (r.share_need - c.least)) (div_ceil r.share_room (suc (length (filter is_modest cs)))) (div_ceil r.share_room r.sharers) refl
    (less_need r.share_room r.share_need c.least (need (filter is_modest cs)) h.share_need)
    (ap (div_ceil r.share_room) (sym h.sharers)))

pub sizes_next : (r : Rooms) (c : Child) (cs : List Child) → IsReady r (c ∷ cs) → sizes_by r (c ∷ cs) ≡ next_size r c ∷ sizes_by (rooms_behind r c) cs
sizes_next r c cs h = sizes_next_where (wishes c) r c cs (ready_where r c cs h)

-- children that fill what is left of an area
pub record Ahead (a : Axis) (ts : Shapes) (cs : List Child) (r : Rooms) (rest : Rect) : Type 0 where
  pub ready : IsReady r cs
  pub fill : Fill a ts (sizes_by r cs) rest
  pub cross : least_max (other a) ts ≤ extent (other a) rest
  pub on_screen : IsOnScreen rest

pub roomy_along : (a : Axis) (ts : Shapes) (area : Rect) → IsRoomy (group a ts) area → (least_sum a ts ≤ extent a area) × (least_max (other a) ts ≤ extent (other a) area)
roomy_along Across ts area h = (h.wide, h.high)
roomy_along Down ts area h = (h.high, h.wide)

roomy_from : (a : Axis) (t : Shape) (area : Rect) → least a t ≤ extent a area → least (other a) t ≤ extent (other a) area → IsRoomy t area
roomy_from Across t area h k = record { wide = h; high = k }
roomy_from Down t area h k = record { wide = k; high = h }

extent-part : (a : Axis) (n : ℕ) (area : Rect) → (extent a (part a n area) ≡ n) × (extent (other a) (part a n area) ≡ extent (other a) area)
extent-part Across n area = (refl, refl)
extent-part Down n area = (refl, refl)

extent-beyond : (a : Axis) (n : ℕ) (area : Rect) → extent (other a) (beyond a n area) ≡ extent (other a) area
extent-beyond Across n area = refl
extent-beyond Down n area = refl

on_screen-part : (a : Axis) (n : ℕ) (area : Rect) → n ≤ extent a area → IsOnScreen area → IsOnScreen (part a n area)
on_screen-part Across n area h k = record { right = omega (arith, k.right); bottom = k.bottom }
on_screen-part Down n area h k = record { right = k.right; bottom = omega (arith, k.bottom) }

on_screen-beyond : (a : Axis) (n : ℕ) (area : Rect) → n ≤ extent a area → IsOnScreen area → IsOnScreen (beyond a n area)
on_screen-beyond Across n area h k = record { right = omega (arith, k.right); bottom = k.bottom }
on_screen-beyond Down n area h k = record { right = k.right; bottom = omega (arith, k.bottom) }

-- what the next child is given, and what is ahead behind it
pub record Next (a : Axis) (t : Shape) (ts : Shapes) (c : Child) (cs : List Child) (r : Rooms) (rest : Rect) : Type 0 where
  pub taken : CanTake r c
  pub filled : NoneEmpty t
  pub roomy : IsRoomy t (part a (next_size r c) rest)
  pub on_screen : IsOnScreen (part a (next_size r c) rest)
  pub within_rest : next_size r c + gap a ts ≤ extent a rest
  pub ahead : Ahead a ts cs (rooms_behind r c) (beyond a (next_size r c + gap a ts) rest)
  pub placed : rects_along a (more_shapes t ts) (sizes_by r (c ∷ cs)) rest ≡ rects t (part a (next_size r c) rest) ++ rects_along a ts (sizes_by (rooms_behind r c) cs) (beyond a (next_size r c + gap a ts) rest)

module _ (a : Axis) (t : Shape) (ts : Shapes) (c : Child) (cs : List Child) (r : Rooms) (rest : Rect) where
  pub next_ahead : Ahead a (more_shapes t ts) (c ∷ cs) r rest → Next a t ts c cs r rest
  next_ahead h =
      let fill : Fill a (more_shapes t ts) (next_size r c ∷ sizes_by (rooms_behind r c) cs) rest = subst (λ ms. Fill a (more_shapes t ts) ms rest) (sizes_next r c cs h.ready) h.fill in
      let all = fill_all a t ts (next_size r c ∷ sizes_by (rooms_behind r c) cs) rest fill in
      record {
        taken = can_take r c cs h.ready;
        filled = fill.each.0;
        roomy = roomy_from a t (part a (next_size r c) rest)
            (omega (arith, fill_first a t ts (next_size r c ∷ sizes_by (rooms_behind r c) cs) rest fill, (extent-part a (next_size r c) rest).0))
            (omega (arith, h.cross, (extent-part a (next_size r c) rest).1));
        on_screen = on_screen-part a (next_size r c) rest (omega (arith, all)) h.on_screen;
        within_rest = omega (arith, all);
        ahead = record {
          ready = ready_behind r c cs h.ready;
          fill = fill_behind a t ts (next_size r c ∷ sizes_by (rooms_behind r c) cs) rest fill;
          cross = omega (arith, h.cross, extent-beyond a (next_size r c + gap a ts) rest);
          on_screen = on_screen-beyond a (next_size r c + gap a ts) rest (omega (arith, all)) h.on_screen;
        };
        placed = ap (λ ms. rects_along a (more_shapes t ts) ms rest) (sizes_next r c cs h.ready);
      }
