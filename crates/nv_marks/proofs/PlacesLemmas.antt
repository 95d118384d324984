-- Places relative to a base, and how moves keep the order of places and of records.
use Rattle.std.proofs.Common.{◌≡◌, ◌≢◌, ◌<◌, ◌+◌, ◌-◌, refl, ap, sym, ◌∙◌, arith, Bool, true, false, cond, eqb, inl, inr, subst, ◌⊎◌}
use Rattle.std.specs.Ordering.{is_lt, ordering_then, nat_cmp, bool_cmp}
use Rattle.std.specs.declared.cmp.Ordering.{Ordering}
use Rattle.std.specs.Cmp.{IsTotalOrder, IsStrictWeakOrder, then_total, on_total, nat_cmp_total, bool_cmp_total}
use Rattle.std.proofs.lemmas.Bool.Decides.{nat_tests, eqb_tells}
use Rattle.std.proofs.lemmas.Bool.{both_ways}
use Rattle.std.proofs.lemmas.List.Sorted.{ranks_by}
use Rattle.nv_places.specs.declared.place.Pos.{Pos}
use Rattle.nv_places.specs.declared.place.Extent.{Extent}
use Rattle.nv_places.specs.Places.{further, is_before}
use Rattle.nv_places.specs.Moves.{moved_place, carried_place}
use Rattle.nv_marks.specs.declared.record.Record.{Record}
use Rattle.nv_marks.specs.declared.record.Info.{Info}
use Rattle.nv_marks.specs.inside.Records.{record_order, precedes, moved_record}
use Rattle.nv_marks.specs.inside.Chunks.{reach}

-- ---- the order of records
pub record_order_total : IsTotalOrder record_order
record_order_total =
    then_total (then_total (then_total (then_total (then_total
    (on_total (λ (r : Record). r.pos.row) nat_cmp_total)
    (on_total (λ (r : Record). r.pos.col) nat_cmp_total))
    (on_total (λ (r : Record). r.info.right) bool_cmp_total))
    (on_total (λ (r : Record). r.info.ns) nat_cmp_total))
    (on_total (λ (r : Record). r.info.id) nat_cmp_total))
    (on_total (λ (r : Record). r.info.is_end) bool_cmp_total)

pub record_ranks : IsStrictWeakOrder precedes
record_ranks = ranks_by record_order_total (λ (r : Record). r)

-- not before in order, so not before in place
pub follows : (r q : Record) → precedes r q ≡ false → is_before r.pos q.pos ≡ false
follows r q not_before = grind (arith, nat_tests)

-- earlier in place, so not behind in order
pub earlier : (r q : Record) → is_before r.pos q.pos ≡ true → precedes q r ≡ false
earlier r q before = grind (arith, nat_tests)

-- what comes before a record comes before what isn't before it
pub through : (a b c : Record) → precedes a b ≡ true → precedes c b ≡ false → precedes c a ≡ false
through a b c before not_before =
    by_case (precedes c a) refl
  where
    by_case : (t : Bool) → precedes c a ≡ t → precedes c a ≡ false
    by_case false is = is
    by_case true is =
        absurd (both_ways (precedes c b) not_before (by_other (precedes c b) refl))
      where
        by_other : (t : Bool) → precedes c b ≡ t → precedes c b ≡ true
        by_other true it = it
        by_other false it =
            absurd (both_ways (precedes a b) (record_ranks.chain a c b (record_ranks.one_way c a is) it) before)

-- ---- places behind a base
pub before_itself : (p : Pos) → is_before p p ≡ false
before_itself p = grind (arith, nat_tests)

pub not_after : (p q : Pos) → is_before p q ≡ true → is_before q p ≡ false
not_after p q before = grind (arith, nat_tests)

-- what is before a place is before what isn't before that place
pub before_trans : (p q r : Pos) → is_before p q ≡ true → is_before r q ≡ false → is_before p r ≡ true
before_trans p q r before not_before = grind (arith, nat_tests)

pub before_far : (p q r : Pos) → is_before q p ≡ false → is_before q r ≡ true → is_before p r ≡ true
before_far p q r not_after before = grind (arith, nat_tests)

pub at_least : (p q r : Pos) → is_before q p ≡ false → is_before r q ≡ false → is_before r p ≡ false
at_least p q r first second = grind (arith, nat_tests)

pub reached : (base p : Pos) → is_before p base ≡ false → further base (reach base p) ≡ p
reached base p from = elim (eqb_tells p.row base.row) [
  | inl one_row ↦
      let cols : base.col + (p.col - base.col) ≡ p.col = grind (arith, nat_tests) in
      rw one_row.0 (λ i. record { row = sym one_row.1 i; col = cols i })
  | inr later ↦
      let some : eqb (p.row - base.row) 0 ≡ false = grind (arith, nat_tests) in
      let rows : base.row + (p.row - base.row) ≡ p.row = grind (arith, nat_tests) in
      rw (later.0, some) (λ i. record { row = rows i; col = p.col })
]

-- ---- moves
pub start_not_after : (start : Pos) (old : Extent) → is_before (further start old) start ≡ false
start_not_after start old = grind (arith, nat_tests)

pub behind_start : (start : Pos) (old : Extent) (p : Pos) → is_before (further start old) p ≡ true → is_before p start ≡ false
behind_start start old p behind = grind (arith, nat_tests, start_not_after start old)

pub moved-before : (right : Bool) (start : Pos) (old new : Extent) (p : Pos) → is_before p start ≡ true
    → moved_place right start old new p ≡ p
moved-before right start old new p before = rw before refl

pub moved-behind : (right : Bool) (start : Pos) (old new : Extent) (p : Pos) → is_before (further start old) p ≡ true
    → moved_place right start old new p ≡ carried_place (further start old) (further start new) p
moved-behind right start old new p behind =
    let not_yet : is_before p start ≡ false = behind_start start old p behind in
    rw (not_yet, behind) refl

pub moved-inside : (right : Bool) (start : Pos) (old new : Extent) (p : Pos) → is_before p start ≡ false
    → is_before (further start old) p ≡ false
    → moved_place right start old new p ≡ cond right (further start new) start
moved-inside right start old new p not_yet still = rw (not_yet, still) refl

-- what lies in a later row than the old end moves by rows alone
pub later_row : (end p : Pos) → end.row < p.row → is_before end p ≡ true
later_row end p later = grind (arith, nat_tests)

pub carried-rows : (old new p : Pos) → old.row < p.row
    → carried_place old new p ≡ (let q : Pos = record { row = p.row - old.row + new.row; col = p.col } in q)
carried-rows old new p later =
    let other : eqb p.row old.row ≡ false = grind (arith, nat_tests) in
    rw other refl

pub moved-rows : (start : Pos) (old new : Extent) (p : Pos) → (further start old).row < p.row
    → moved_place true start old new p
    ≡ (let q : Pos = record { row = p.row - (further start old).row + (further start new).row; col = p.col } in q)
moved-rows start old new p later =
    moved-behind true start old new p (later_row (further start old) p later) ∙ carried-rows (further start old) (further start new) p later

-- the same of places that are equal to these
pub rows-moved : (start : Pos) (old new : Extent) (p base old_end new_end : Pos) → base ≡ p → old_end ≡ further start old → new_end ≡ further start new
    → (further start old).row < p.row
    → (let q : Pos = record { row = base.row - old_end.row + new_end.row; col = base.col } in q) ≡ moved_place true start old new p
rows-moved start old new p base old_end new_end base_is old_is new_is later =
    ap (λ (b : Pos). (let q : Pos = record { row = b.row - old_end.row + new_end.row; col = b.col } in q)) base_is
    ∙ ap (λ (e : Pos). (let q : Pos = record { row = p.row - e.row + new_end.row; col = p.col } in q)) old_is
    ∙ ap (λ (e : Pos). (let q : Pos = record { row = p.row - (further start old).row + e.row; col = p.col } in q)) new_is
    ∙ sym (moved-rows start old new p later)

pub further-row : (start : Pos) (by : Extent) → (further start by).row ≡ start.row + by.rows
further-row start by = grind (arith, nat_tests)

-- and stays where the number of rows does
pub moved-same_rows : (start : Pos) (old new : Extent) (p : Pos) → (further start old).row < p.row → old.rows ≡ new.rows
    → moved_place true start old new p ≡ p
moved-same_rows start old new p later same =
    let back : p.row - (further start old).row + (further start new).row ≡ p.row = omega (arith, further-row start old, further-row start new) in
    moved-rows start old new p later ∙ (λ i. record { row = back i; col = p.col })

-- what lies behind a base that lies behind the old end lies behind the old end
pub behind_base : (old base : Pos) (by : Extent) → is_before old base ≡ true → is_before old (further base by) ≡ true
behind_base old base by behind = grind (arith, nat_tests)

-- to go further and then be carried is to be carried and then go further
carried-further : (old new base : Pos) (by : Extent) → is_before old base ≡ true
    → further (carried_place old new base) by ≡ carried_place old new (further base by)
carried-further old new base by behind = elim (eqb_tells by.rows 0) [
  | inl one_row ↦ in_row (eqb_tells base.row old.row) one_row.0
  | inr more ↦
      let rows : (carried_place old new base).row + by.rows ≡ base.row + by.rows - old.row + new.row = grind (arith, nat_tests) in
      let later : eqb (base.row + by.rows) old.row ≡ false = grind (arith, nat_tests) in
      rw (more.0, later) (λ i. record { row = rows i; col = by.cols })
]
  where
    in_row : ((eqb base.row old.row ≡ true) × (base.row ≡ old.row)) ⊎ ((eqb base.row old.row ≡ false) × (base.row ≢ old.row))
        → eqb by.rows 0 ≡ true → further (carried_place old new base) by ≡ carried_place old new (further base by)
    in_row (inl same) none =
        let cols : base.col - old.col + new.col + by.cols ≡ base.col + by.cols - old.col + new.col = grind (arith, nat_tests) in
        rw (none, same.0) (λ i. record { row = new.row; col = cols i })
    in_row (inr other) none = rw (none, other.0) refl

pub carried_with : (right : Bool) (start : Pos) (old new : Extent) (base : Pos) (by : Extent)
    → is_before (further start old) base ≡ true
    → further (moved_place true start old new base) by ≡ moved_place right start old new (further base by)
carried_with right start old new base by behind =
    ap (λ (p : Pos). further p by) (moved-behind true start old new base behind)
    ∙ carried-further (further start old) (further start new) base by behind
    ∙ sym (moved-behind right start old new (further base by) (behind_base (further start old) base by behind))

-- what isn't behind the old end doesn't come behind the new one, and what is does
pub moved_front : (right : Bool) (start : Pos) (old new : Extent) (p : Pos) → is_before (further start old) p ≡ false
    → is_before (further start new) (moved_place right start old new p) ≡ false
moved_front right start old new p still = by_case (is_before p start) refl right
  where
    by_case : (b : Bool) → is_before p start ≡ b → (right : Bool) → is_before (further start new) (moved_place right start old new p) ≡ false
    by_case true before right =
        subst (λ (q : Pos). is_before (further start new) q ≡ false) (sym (moved-before right start old new p before))
        (grind (arith, nat_tests, start_not_after start new))
    by_case false not_yet true =
        subst (λ (q : Pos). is_before (further start new) q ≡ false) (sym (moved-inside true start old new p not_yet still))
        (before_itself (further start new))
    by_case false not_yet false =
        subst (λ (q : Pos). is_before (further start new) q ≡ false) (sym (moved-inside false start old new p not_yet still))
        (start_not_after start new)

carried_back : (old new p : Pos) → is_before old p ≡ true → is_before new (carried_place old new p) ≡ true
carried_back old new p behind = grind (arith, nat_tests)

pub moved_back : (right : Bool) (start : Pos) (old new : Extent) (p : Pos) → is_before (further start old) p ≡ true
    → is_before (further start new) (moved_place right start old new p) ≡ true
moved_back right start old new p behind =
    subst (λ (q : Pos). is_before (further start new) q ≡ true) (sym (moved-behind right start old new p behind))
    (carried_back (further start old) (further start new) p behind)

-- what isn't before the start doesn't come before it
pub moved_from : (right : Bool) (start : Pos) (old new : Extent) (p : Pos) → is_before p start ≡ false
    → is_before (moved_place right start old new p) start ≡ false
moved_from right start old new p not_yet = by_case (is_before (further start old) p) refl right
  where
    by_case : (b : Bool) → is_before (further start old) p ≡ b → (right : Bool) → is_before (moved_place right start old new p) start ≡ false
    by_case true behind right =
        at_least start (further start new) (moved_place right start old new p) (start_not_after start new)
        (not_after (further start new) (moved_place right start old new p) (moved_back right start old new p behind))
    by_case false still true =
        subst (λ (q : Pos). is_before q start ≡ false) (sym (moved-inside true start old new p not_yet still)) (start_not_after start new)
    by_case false still false =
        subst (λ (q : Pos). is_before q start ≡ false) (sym (moved-inside false start old new p not_yet still)) (before_itself start)

-- ---- records behind the old end keep their order
place_order : Pos → Pos → Ordering
place_order p q = ordering_then (nat_cmp p.row q.row) (nat_cmp p.col q.col)

carried_order : (old new p q : Pos) → is_before old p ≡ true → is_before old q ≡ true
    → ordering_then (nat_cmp (carried_place old new p).row (carried_place old new q).row) (nat_cmp (carried_place old new p).col (carried_place old new q).col)
    ≡ ordering_then (nat_cmp p.row q.row) (nat_cmp p.col q.col)
carried_order old new p q behind_p behind_q = grind (arith, nat_tests)

-- the order of records by the order of their places
rest_of_order : Info → Info → Ordering → Ordering
rest_of_order i j o =
    ordering_then (ordering_then (ordering_then (ordering_then o (bool_cmp i.right j.right)) (nat_cmp i.ns j.ns)) (nat_cmp i.id j.id)) (bool_cmp i.is_end j.is_end)

pub behind_order : (start : Pos) (old new : Extent) (r q : Record) → is_before (further start old) r.pos ≡ true
    → is_before (further start old) q.pos ≡ true
    → precedes (moved_record start old new r) (moved_record start old new q) ≡ precedes r q
behind_order start old new r q behind_r behind_q =
    let E : Pos = further start old in
    let N : Pos = further start new in
    ap (λ (p : Pos). precedes (record { pos = p; info = r.info }) (moved_record start old new q)) (moved-behind r.info.right start old new r.pos behind_r)
    ∙ ap (λ (p : Pos). precedes (record { pos = carried_place E N r.pos; info = r.info }) (record { pos = p; info = q.info }))
    (moved-behind q.info.right start old new q.pos behind_q)
    ∙ ap (λ (o : Ordering). is_lt (ordering_then (ordering_then (ordering_then (ordering_then o (bool_cmp r.info.right q.info.right)) (nat_cmp r.info.ns q.info.ns)) (nat_cmp r.info.id q.info.id)) (bool_cmp r.info.is_end q.info.is_end)))
    (carried_order E N r.pos q.pos behind_r behind_q)

-- what comes behind the replaced part stays behind the rest
pub cross_behind : (start : Pos) (old new : Extent) (m b : Record) → is_before (further start old) b.pos ≡ true → precedes b m ≡ false
    → precedes (moved_record start old new b) (moved_record start old new m) ≡ false
cross_behind start old new m b behind not_before = by_case (is_before (further start old) m.pos) refl
  where
    by_case : (t : Bool) → is_before (further start old) m.pos ≡ t
        → precedes (moved_record start old new b) (moved_record start old new m) ≡ false
    by_case true too = behind_order start old new b m behind too ∙ not_before
    by_case false still =
        earlier (moved_record start old new m) (moved_record start old new b)
        (before_far (moved_record start old new m).pos (further start new) (moved_record start old new b).pos
        (moved_front m.info.right start old new m.pos still) (moved_back b.info.right start old new b.pos behind))

-- what comes before the start stays before the rest
pub cross_front : (start : Pos) (old new : Extent) (f m : Record) → is_before f.pos start ≡ true → precedes m f ≡ false
    → precedes (moved_record start old new m) f ≡ false
cross_front start old new f m before not_before = by_case (is_before m.pos start) refl
  where
    by_case : (t : Bool) → is_before m.pos start ≡ t → precedes (moved_record start old new m) f ≡ false
    by_case true too =
        ap (λ (p : Pos). precedes (record { pos = p; info = m.info }) f) (moved-before m.info.right start old new m.pos too) ∙ not_before
    by_case false not_yet =
        earlier f (moved_record start old new m)
        (before_trans f.pos start (moved_record start old new m).pos before (moved_from m.info.right start old new m.pos not_yet))
