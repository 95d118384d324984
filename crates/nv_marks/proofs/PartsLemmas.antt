-- Marks and their records.
use Rattle.std.proofs.Common.{◌≡◌, ◌≤◌, ◌<◌, ◌+◌, ◌-◌, ◌*◌, inl, inr, List, [], ◌∷◌, ◌++◌, ℕ, zero, suc, refl, ap, sym, ◌∙◌, append_assoc, length, length-append, get_or, map, arith, Bool, true, false, not, ◌&&◌, ◌||◌, cond, eqb, subst, Option, Some, None}
use Rattle.std.specs.Prelude.{IsPermutation, take, drop, filter, find, position, option_map, option_to_list, is_some, IfSome}
use Rattle.std.specs.List.{IsDistinct}
use Rattle.std.specs.Ordering.{is_lt}
use Rattle.std.proofs.lemmas.Bool.Decides.{nat_tests}
use Rattle.std.proofs.lemmas.Bool.{both_ways, cases_lt}
use Rattle.std.proofs.lemmas.List.{map-append, length-map, get_or-map, append-nil, length-take-le, take_all, take-append-le}
use Rattle.std.proofs.Math.Seq.{take-append-add}
use Rattle.std.proofs.lemmas.List.Elements.{filter-append}
use Rattle.std.proofs.lemmas.List.Elements.{recursion_from_All, All-from_recursion}
use Rattle.std.proofs.lemmas.Map.Keys.{IsDistinct-head, IsDistinct-tail, IsDistinct-cons, IsDistinct-IsPermutation, IsDistinct-from_apart, apart_from_distinct}
use Rattle.std.proofs.lemmas.List.Sorted.{IsPermutation-refl, IsPermutation-trans, IsPermutation-sym, IsPermutation-map, IsPermutation-cons, IsPermutation-append_comm, IsPermutation-append_right}
use Rattle.nv_places.specs.declared.place.Pos.{Pos}
use Rattle.nv_places.specs.declared.place.Extent.{Extent}
use Rattle.nv_places.specs.Places.{IsNarrow, is_before}
use Rattle.nv_places.specs.Moves.{moved_place}
use Rattle.nv_marks.specs.Marks.{is_named, mark_at, without}
use Rattle.nv_marks.specs.Order.{mark_order, IsInOrder, is_within, starts_within}
use Rattle.nv_marks.specs.Cost.{places_of}
use Rattle.nv_marks.specs.Sound.{same_name}
use Rattle.nv_marks.specs.Moves.{moved_far, moved_mark, MovesNarrowly}
use Rattle.nv_marks.specs.declared.extmark.Far.{Far}
use Rattle.nv_marks.specs.declared.extmark.Mark.{Mark}
use Rattle.nv_marks.specs.declared.record.Record.{Record}
use Rattle.nv_marks.specs.inside.Records.{ForEach, Rises, Sort, place, precedes, moved_record, MovesInRange, has_key, is_key, same_key, belongs_to, is_start, far_in, end_among, mark_among, marks_among, start_record, end_record, records_of_mark, records_of_marks}
use Rattle.nv_marks.specs.declared.query.Query.{Query}
use Rattle.nv_marks.specs.Queries.{is_meant, is_selected, stops_from}
use Rattle.nv_marks.specs.inside.Stored.{IsEndKnown, extended_list, first_start, listed_marks}
use Rattle.nv_marks.proofs.NameLemmas.{find-All, find-map, find-permutation, find-none, filter-all, none_passes, others_fail, named_once}
use Rattle.nv_marks.proofs.EachLemmas.{Each-append, Each-weaker, Each-always, Each-map, Each-permutation, Each-filter, All-from_each, Each-from_all, sorted_from_rises}
use Rattle.nv_marks.proofs.SwapLemmas.{IsPermutation-flat, IsPermutation-filter}
use Rattle.nv_marks.specs.declared.record.Relative.{Relative}
use Rattle.nv_marks.specs.inside.Chunks.{Piece, records_of, spread_records, held_records, text_start, IsFoundAt}
use Rattle.nv_marks.proofs.SpreadLemmas.{spread-append}
use Rattle.nv_marks.proofs.EditLemmas.{at_split, held_one}
use Rattle.nv_marks.proofs.FindLemmas.{find-behind, find-front, is_among}

-- ---- keys
pub key_once : (ns id : ℕ) (end : Bool) (x y : Record) → has_key ns id end x ≡ true → has_key ns id end y ≡ true → same_key x y ≡ true
key_once ns id true x y first second = by_case x.info.is_end refl
  where
    by_case : (b : Bool) → x.info.is_end ≡ b → same_key x y ≡ true
    by_case true is = grind (arith, nat_tests)
    by_case false is = absurd (grind (arith, nat_tests))
key_once ns id false x y first second = by_case x.info.is_end refl
  where
    by_case : (b : Bool) → x.info.is_end ≡ b → same_key x y ≡ true
    by_case true is = absurd (grind (arith, nat_tests))
    by_case false is = grind (arith, nat_tests)

pub key_flips : (x y : Record) → same_key x y ≡ same_key y x
key_flips x y = by_case x.info.is_end refl y.info.is_end refl
  where
    by_case : (a : Bool) → x.info.is_end ≡ a → (b : Bool) → y.info.is_end ≡ b → same_key x y ≡ same_key y x
    by_case true is_a true is_b = grind (arith, nat_tests)
    by_case true is_a false is_b = grind (arith, nat_tests)
    by_case false is_a true is_b = grind (arith, nat_tests)
    by_case false is_a false is_b = grind (arith, nat_tests)

pub distinct_map : (f : Record → Record) → ((x y : Record) → same_key (f x) (f y) ≡ same_key x y) → (rs : List Record)
    → IsDistinct same_key rs → IsDistinct same_key (map f rs)
distinct_map f keeps rs apart =
    IsDistinct-from_apart same_key (map f rs) (λ i j d before within.
    let len = length-map rs f in
    let at_i : get_or (map f rs) i d ≡ f (get_or rs i d) = get_or-map f rs i d d (omega arith) in
    let at_j : get_or (map f rs) j d ≡ f (get_or rs j d) = get_or-map f rs j d d (omega arith) in
    rw (at_i, at_j) (keeps (get_or rs i d) (get_or rs j d) ∙ apart_from_distinct same_key rs i j d apart before (omega arith)))

-- ---- the order of starts is that of marks
order_of_marks : (rs : List Record) (r q : Record) → r.info.is_end ≡ false → q.info.is_end ≡ false → precedes q r ≡ false
    → is_lt (mark_order (mark_among rs q) (mark_among rs r)) ≡ false
order_of_marks rs r q start_r start_q not_before = grind (arith, nat_tests)

marks_rise : (rs0 rs : List Record) → Sort rs → Rises (λ m k. is_lt (mark_order m k)) (map (mark_among rs0) (filter is_start rs))
marks_rise rs0 [] up = tt
marks_rise rs0 (r ∷ rs) up = by_case (marks_rise rs0 rs up.1) r.info.is_end refl
  where
    others : (qs : List Record) → r.info.is_end ≡ false → ForEach (λ q. precedes q r ≡ false) qs
        → ForEach (λ m. is_lt (mark_order m (mark_among rs0 r)) ≡ false) (map (mark_among rs0) (filter is_start qs))
    others [] start each = tt
    others (q ∷ qs) start each = one (others qs start each.1) q.info.is_end refl
      where
        one : ForEach (λ m. is_lt (mark_order m (mark_among rs0 r)) ≡ false) (map (mark_among rs0) (filter is_start qs)) → (b : Bool) → q.info.is_end ≡ b
            → ForEach (λ m. is_lt (mark_order m (mark_among rs0 r)) ≡ false) (map (mark_among rs0) (cond (not b) (q ∷ filter is_start qs) (filter is_start qs)))
        one rest true is = rest
        one rest false is = (order_of_marks rs0 r q start is each.0, rest)

    by_case : Rises (λ m k. is_lt (mark_order m k)) (map (mark_among rs0) (filter is_start rs)) → (b : Bool) → r.info.is_end ≡ b
        → Rises (λ m k. is_lt (mark_order m k)) (map (mark_among rs0) (cond (not b) (r ∷ filter is_start rs) (filter is_start rs)))
    by_case rest true is = rest
    by_case rest false is = (others rs is up.0, rest)

-- ---- records in another order stand for the same marks
same_far : (xs ys : List Record) → IsPermutation xs ys → IsDistinct same_key xs → (ns id : ℕ) → end_among ys ns id ≡ end_among xs ns id
same_far xs ys same apart ns id =
    ap (option_map far_in) (find-permutation same_key (has_key ns id true) (key_once ns id true) xs ys same apart)

same_marks : (xs ys rs : List Record) → ((ns id : ℕ) → end_among ys ns id ≡ end_among xs ns id) → map (mark_among xs) rs ≡ map (mark_among ys) rs
same_marks xs ys [] far = refl
same_marks xs ys (r ∷ rs) far =
    ap (λ (o : Option Far). (let m : Mark = record (mark_among xs r) { stop = o } in m) ∷ map (mark_among xs) rs) (sym (far r.info.ns r.info.id))
    ∙ ap (λ (l : List Mark). mark_among ys r ∷ l) (same_marks xs ys rs far)

pub marks_in_order : (xs ys : List Record) → IsPermutation xs ys → IsDistinct same_key xs → Sort ys → IsInOrder (marks_among xs) (marks_among ys)
marks_in_order xs ys same apart up = record {
  same_marks = subst (λ (l : List Mark). IsPermutation (marks_among xs) l) (same_marks xs ys (filter is_start ys) (same_far xs ys same apart))
      (IsPermutation-map (mark_among xs) (filter is_start xs) (filter is_start ys) (IsPermutation-filter is_start xs ys same));
  in_order = sorted_from_rises (λ m k. is_lt (mark_order m k)) (marks_among ys) (marks_rise ys ys up);
}

-- ---- what starts know of their ends
ends_of_mark : (rs : List Record) (m : Mark) (o : Option Far) → m.stop ≡ o → m.stop ≡ end_among rs m.ns m.id → ForEach (IsEndKnown rs) (records_of_mark (record m { stop = o }))
ends_of_mark rs m None is far = (λ start. ap is_some (sym is ∙ far), tt)
ends_of_mark rs m (Some e) is far = (λ start. ap is_some (sym is ∙ far), (λ start. absurd (cc), tt))

ends_of_marks : (rs : List Record) (ms : List Mark) → ForEach (λ m. m.stop ≡ end_among rs m.ns m.id) ms → ForEach (IsEndKnown rs) (records_of_marks ms)
ends_of_marks rs [] each = tt
ends_of_marks rs (m ∷ ms) each =
    Each-append (IsEndKnown rs) (records_of_mark m) (records_of_marks ms) (ends_of_mark rs m m.stop refl each.0) (ends_of_marks rs ms each.1)

pub ends_known : (rs : List Record) → IsPermutation (records_of_marks (marks_among rs)) rs → ForEach (IsEndKnown rs) rs
ends_known rs all =
    Each-permutation (IsEndKnown rs) (records_of_marks (marks_among rs)) rs all
    (ends_of_marks rs (marks_among rs) (Each-map (λ m. m.stop ≡ end_among rs m.ns m.id) (mark_among rs) (filter is_start rs)
    (Each-always (λ r. end_among rs r.info.ns r.info.id ≡ end_among rs r.info.ns r.info.id) (λ r. refl) (filter is_start rs))))

-- ---- a mark is found by its start
pub mark_by_start : (rs xs : List Record) (ns id : ℕ)
    → mark_at (map (mark_among rs) (filter is_start xs)) ns id ≡ option_map (mark_among rs) (find (has_key ns id false) xs)
mark_by_start rs [] ns id = refl
mark_by_start rs (x ∷ xs) ns id = by_case (mark_by_start rs xs ns id) x.info.is_end
  where
    by_case : mark_at (map (mark_among rs) (filter is_start xs)) ns id ≡ option_map (mark_among rs) (find (has_key ns id false) xs) → (b : Bool)
        → mark_at (map (mark_among rs) (cond (not b) (x ∷ filter is_start xs) (filter is_start xs))) ns id
        ≡ option_map (mark_among rs) (cond (not b && (eqb x.info.ns ns && eqb x.info.id id)) (Some x) (find (has_key ns id false) xs))
    by_case rest true = rest
    by_case rest false = by_name (eqb x.info.ns ns && eqb x.info.id id)
      where
        by_name : (c : Bool)
            → cond c (Some (mark_among rs x)) (mark_at (map (mark_among rs) (filter is_start xs)) ns id)
            ≡ option_map (mark_among rs) (cond c (Some x) (find (has_key ns id false) xs))
        by_name true = refl
        by_name false = rest

-- ---- a splice
far_moved : (start : Pos) (old new : Extent) (rs : List Record) (ns id : ℕ)
    → end_among (map (moved_record start old new) rs) ns id ≡ option_map (moved_far start old new) (end_among rs ns id)
far_moved start old new rs ns id =
    ap (option_map far_in) (find-map (has_key ns id true) (moved_record start old new) (λ r. refl) rs) ∙ by_case (find (has_key ns id true) rs)
  where
    by_case : (o : Option Record) → option_map far_in (option_map (moved_record start old new) o) ≡ option_map (moved_far start old new) (option_map far_in o)
    by_case None = refl
    by_case (Some r) = refl

marks_moved : (start : Pos) (old new : Extent) (rs xs : List Record)
    → map (mark_among (map (moved_record start old new) rs)) (filter is_start (map (moved_record start old new) xs))
    ≡ map (moved_mark start old new) (map (mark_among rs) (filter is_start xs))
marks_moved start old new rs [] = refl
marks_moved start old new rs (x ∷ xs) = by_case (marks_moved start old new rs xs) x.info.is_end
  where
    by_case : map (mark_among (map (moved_record start old new) rs)) (filter is_start (map (moved_record start old new) xs))
        ≡ map (moved_mark start old new) (map (mark_among rs) (filter is_start xs)) → (b : Bool)
        → map (mark_among (map (moved_record start old new) rs)) (cond (not b) (moved_record start old new x ∷ filter is_start (map (moved_record start old new) xs)) (filter is_start (map (moved_record start old new) xs)))
        ≡ map (moved_mark start old new) (map (mark_among rs) (cond (not b) (x ∷ filter is_start xs) (filter is_start xs)))
    by_case rest true = rest
    by_case rest false =
        ap (λ (o : Option Far). (let m : Mark = record (mark_among rs (moved_record start old new x)) { stop = o } in m)
        ∷ map (mark_among (map (moved_record start old new) rs)) (filter is_start (map (moved_record start old new) xs)))
        (far_moved start old new rs x.info.ns x.info.id)
        ∙ ap (λ (l : List Mark). moved_mark start old new (mark_among rs x) ∷ l) rest

records_moved : (start : Pos) (old new : Extent) (ms : List Mark)
    → records_of_marks (map (moved_mark start old new) ms) ≡ map (moved_record start old new) (records_of_marks ms)
records_moved start old new [] = refl
records_moved start old new (m ∷ ms) =
    ap (λ (l : List Record). l ++ records_of_marks (map (moved_mark start old new) ms)) (of_mark m.stop)
    ∙ ap (λ (l : List Record). map (moved_record start old new) (records_of_mark m) ++ l) (records_moved start old new ms)
    ∙ sym (map-append (moved_record start old new) (records_of_mark m) (records_of_marks ms))
  where
    of_mark : (o : Option Far) → records_of_mark (moved_mark start old new (record m { stop = o })) ≡ map (moved_record start old new) (records_of_mark (record m { stop = o }))
    of_mark None = refl
    of_mark (Some far) = refl

module _ (start : Pos) (old new : Extent) (rs after : List Record) (apart : IsDistinct same_key rs)
    (all : IsPermutation (records_of_marks (marks_among rs)) rs) (same : IsPermutation (map (moved_record start old new) rs) after) (up : Sort after) where
  moved_apart : IsDistinct same_key (map (moved_record start old new) rs)
  moved_apart = distinct_map (moved_record start old new) (λ x y. refl) rs apart

  pub seen_moved : IsInOrder (map (moved_mark start old new) (marks_among rs)) (marks_among after)
  seen_moved =
      subst (λ (l : List Mark). IsInOrder l (marks_among after)) (marks_moved start old new rs rs)
      (marks_in_order (map (moved_record start old new) rs) after same moved_apart up)

  pub once_moved : IsDistinct same_key after
  once_moved = IsDistinct-IsPermutation same_key key_flips (map (moved_record start old new) rs) after same moved_apart

  pub all_moved : IsPermutation (records_of_marks (marks_among after)) after
  all_moved =
      IsPermutation-trans (records_of_marks (marks_among after)) (map (moved_record start old new) rs) after
      (IsPermutation-trans (records_of_marks (marks_among after)) (records_of_marks (map (moved_mark start old new) (marks_among rs))) (map (moved_record start old new) rs)
      (IsPermutation-sym (records_of_marks (map (moved_mark start old new) (marks_among rs))) (records_of_marks (marks_among after))
      (IsPermutation-flat records_of_mark (map (moved_mark start old new) (marks_among rs)) (marks_among after) seen_moved.same_marks))
      (subst (λ (l : List Record). IsPermutation l (map (moved_record start old new) rs)) (sym (records_moved start old new (marks_among rs)))
      (IsPermutation-map (moved_record start old new) (records_of_marks (marks_among rs)) rs all)))
      same

-- ---- what holds of all marks holds of their records
pub narrow_records : (start : Pos) (old new : Extent) (ms : List Mark) → ForEach (MovesNarrowly start old new) ms → ForEach (MovesInRange start old new) (records_of_marks ms)
narrow_records start old new [] each = tt
narrow_records start old new (m ∷ ms) each =
    Each-append (MovesInRange start old new) (records_of_mark m) (records_of_marks ms) (of_mark m.stop each.0.0 each.0.1) (narrow_records start old new ms each.1)
  where
    of_mark : (o : Option Far) → IsNarrow (moved_place m.right start old new m.start) → IfSome o (λ far. IsNarrow (moved_place far.right start old new far.pos))
        → ForEach (MovesInRange start old new) (records_of_mark (record m { stop = o }))
    of_mark None first second = (first, tt)
    of_mark (Some far) first second = (first, (second, tt))

pub places_are : (ms : List Mark) → map place (records_of_marks ms) ≡ places_of ms
places_are [] = refl
places_are (m ∷ ms) =
    map-append place (records_of_mark m) (records_of_marks ms)
    ∙ ap (λ (l : List Pos). l ++ map place (records_of_marks ms)) (of_mark m.stop)
    ∙ ap (λ (l : List Pos). (m.start ∷ option_to_list (option_map (λ (far : Far). far.pos) m.stop)) ++ l) (places_are ms)
  where
    of_mark : (o : Option Far) → map place (records_of_mark (record m { stop = o })) ≡ m.start ∷ option_to_list (option_map (λ (far : Far). far.pos) o)
    of_mark None = refl
    of_mark (Some far) = refl

pub twice_at_most : (ms : List Mark) → length (records_of_marks ms) ≤ 2 * length ms
twice_at_most [] = omega arith
twice_at_most (m ∷ ms) = omega (arith, twice_at_most ms, length-append (records_of_mark m) (records_of_marks ms), of_mark m.stop)
  where
    of_mark : (o : Option Far) → length (records_of_mark (record m { stop = o })) ≤ 2
    of_mark None = omega arith
    of_mark (Some far) = omega arith

-- ---- a mark goes
pub find-kept : (u t : Record → Bool) → ((x : Record) → t x ≡ true → u x ≡ true) → (rs : List Record) → find t (filter u rs) ≡ find t rs
find-kept u t passes [] = refl
find-kept u t passes (r ∷ rs) = by_case (find-kept u t passes rs) (u r) refl (t r) refl
  where
    by_case : find t (filter u rs) ≡ find t rs → (b : Bool) → u r ≡ b → (c : Bool) → t r ≡ c → find t (cond b (r ∷ filter u rs) (filter u rs)) ≡ cond c (Some r) (find t rs)
    by_case rest true is_b true is_c = rw is_c refl
    by_case rest true is_b false is_c = rw is_c rest
    by_case rest false is_b true is_c = absurd (both_ways (u r) is_b (passes r is_c))
    by_case rest false is_b false is_c = rest

others_key : (ns id : ℕ) (r x : Record) → belongs_to ns id r ≡ false → has_key r.info.ns r.info.id true x ≡ true → not (belongs_to ns id x) ≡ true
others_key ns id r x other key = grind (arith, nat_tests)

module _ (ns id : ℕ) (rs : List Record) where
  marks_less_of : (xs : List Record)
      → map (mark_among (filter (λ r. not (belongs_to ns id r)) rs)) (filter is_start (filter (λ r. not (belongs_to ns id r)) xs))
      ≡ filter (λ m. not (is_named ns id m)) (map (mark_among rs) (filter is_start xs))
  marks_less_of [] = refl
  marks_less_of (x ∷ xs) = by_case (marks_less_of xs) x.info.is_end refl (belongs_to ns id x) refl
    where
      by_case : map (mark_among (filter (λ r. not (belongs_to ns id r)) rs)) (filter is_start (filter (λ r. not (belongs_to ns id r)) xs))
          ≡ filter (λ m. not (is_named ns id m)) (map (mark_among rs) (filter is_start xs))
          → (b : Bool) → x.info.is_end ≡ b → (c : Bool) → belongs_to ns id x ≡ c
          → map (mark_among (filter (λ r. not (belongs_to ns id r)) rs)) (filter is_start (cond (not c) (x ∷ filter (λ r. not (belongs_to ns id r)) xs) (filter (λ r. not (belongs_to ns id r)) xs)))
          ≡ filter (λ m. not (is_named ns id m)) (map (mark_among rs) (cond (not b) (x ∷ filter is_start xs) (filter is_start xs)))
      by_case rest true is_b true is_c = rest
      by_case rest true is_b false is_c = rw is_b rest
      by_case rest false is_b true is_c = rw is_c rest
      by_case rest false is_b false is_c =
          rw (is_b, is_c)
          (ap (λ (o : Option Far). (let m : Mark = record (mark_among rs x) { stop = o } in m)
          ∷ map (mark_among (filter (λ r. not (belongs_to ns id r)) rs)) (filter is_start (filter (λ r. not (belongs_to ns id r)) xs)))
          (ap (option_map far_in) (find-kept (λ r. not (belongs_to ns id r)) (has_key x.info.ns x.info.id true) (λ y key. others_key ns id x y is_c key) rs))
          ∙ ap (λ (l : List Mark). mark_among rs x ∷ l) rest)

  pub marks_less : marks_among (filter (λ r. not (belongs_to ns id r)) rs) ≡ without ns id (marks_among rs)
  marks_less = marks_less_of rs

records_less : (ns id : ℕ) (ms : List Mark) → records_of_marks (without ns id ms) ≡ filter (λ r. not (belongs_to ns id r)) (records_of_marks ms)
records_less ns id [] = refl
records_less ns id (m ∷ ms) = by_case (is_named ns id m) refl m.stop (records_less ns id ms)
  where
    by_case : (b : Bool) → is_named ns id m ≡ b → (o : Option Far)
        → records_of_marks (without ns id ms) ≡ filter (λ r. not (belongs_to ns id r)) (records_of_marks ms)
        → records_of_marks (cond (not b) (record m { stop = o } ∷ without ns id ms) (without ns id ms))
        ≡ filter (λ r. not (belongs_to ns id r)) (records_of_mark (record m { stop = o }) ++ records_of_marks ms)
    by_case true is None rest = rw is rest
    by_case true is (Some far) rest = rw is rest
    by_case false is None rest = rw is (ap (λ (l : List Record). start_record (record m { stop = None }) ∷ l) rest)
    by_case false is (Some far) rest =
        rw is (ap (λ (l : List Record). start_record (record m { stop = Some far }) ∷ end_record (record m { stop = Some far }) far ∷ l) rest)

pub distinct_filter : (p : Record → Bool) (rs : List Record) → IsDistinct same_key rs → IsDistinct same_key (filter p rs)
distinct_filter p [] apart = apart
distinct_filter p (r ∷ rs) apart = by_case (p r) (distinct_filter p rs (IsDistinct-tail same_key r rs apart))
  where
    by_case : (b : Bool) → IsDistinct same_key (filter p rs) → IsDistinct same_key (cond b (r ∷ filter p rs) (filter p rs))
    by_case true rest =
        IsDistinct-cons same_key r (filter p rs)
        (recursion_from_All (λ y. same_key r y ≡ false) (filter p rs) (All-from_each (λ y. same_key r y ≡ false) (filter p rs)
        (Each-filter (λ y. same_key r y ≡ false) p rs (Each-from_all (λ y. same_key r y ≡ false) rs
        (All-from_recursion (λ y. same_key r y ≡ false) rs (IsDistinct-head same_key r rs apart)))))) rest
    by_case false rest = rest

module _ (ns id : ℕ) (rs left : List Record) (apart : IsDistinct same_key rs) (all : IsPermutation (records_of_marks (marks_among rs)) rs)
    (same : IsPermutation (filter (λ r. not (belongs_to ns id r)) rs) left) (up : Sort left) where
  pub seen_less : IsInOrder (without ns id (marks_among rs)) (marks_among left)
  seen_less =
      subst (λ (l : List Mark). IsInOrder l (marks_among left)) (marks_less ns id rs)
      (marks_in_order (filter (λ r. not (belongs_to ns id r)) rs) left same (distinct_filter (λ r. not (belongs_to ns id r)) rs apart) up)

  pub once_less : IsDistinct same_key left
  once_less =
      IsDistinct-IsPermutation same_key key_flips (filter (λ r. not (belongs_to ns id r)) rs) left same
      (distinct_filter (λ r. not (belongs_to ns id r)) rs apart)

  pub kept_less : IsPermutation (records_of_marks (without ns id (marks_among rs))) left
  kept_less =
      IsPermutation-trans (records_of_marks (without ns id (marks_among rs))) (filter (λ r. not (belongs_to ns id r)) rs) left
      (subst (λ (l : List Record). IsPermutation l (filter (λ r. not (belongs_to ns id r)) rs)) (sym (records_less ns id (marks_among rs)))
      (IsPermutation-filter (λ r. not (belongs_to ns id r)) (records_of_marks (marks_among rs)) rs all)) same

  pub all_less : IsPermutation (records_of_marks (marks_among left)) left
  all_less =
      IsPermutation-trans (records_of_marks (marks_among left)) (records_of_marks (without ns id (marks_among rs))) left
      (IsPermutation-sym (records_of_marks (without ns id (marks_among rs))) (records_of_marks (marks_among left))
      (IsPermutation-flat records_of_mark (without ns id (marks_among rs)) (marks_among left) seen_less.same_marks)) kept_less

-- ---- a mark comes
named_records : (n i : ℕ) (m : Mark) (o : Option Far) → is_named n i m ≡ false
    → ForEach (λ x. has_key n i true x ≡ false) (records_of_mark (record m { stop = o }))
named_records n i m None other = (refl, tt)
named_records n i m (Some far) other = (refl, (grind (arith, nat_tests), tt))

far_with : (m : Mark) (q : List Record) (o : Option Far) → ForEach (λ x. has_key m.ns m.id true x ≡ false) q
    → end_among (records_of_mark (record m { stop = o }) ++ q) m.ns m.id ≡ o
far_with m q None none = ap (option_map far_in) (find-none (has_key m.ns m.id true) q (All-from_each (λ x. has_key m.ns m.id true x ≡ false) q none))
far_with m q (Some far) none =
    let here : eqb m.ns m.ns && eqb m.id m.id ≡ true = grind (arith, nat_tests) in
    rw here refl

module _ (m : Mark) (q : List Record) (unnamed : ForEach (λ r. belongs_to m.ns m.id r ≡ false) q) where
  no_end : ForEach (λ x. has_key m.ns m.id true x ≡ false) q
  no_end = Each-weaker (λ r. belongs_to m.ns m.id r ≡ false) (λ x. has_key m.ns m.id true x ≡ false) (λ x other. grind (arith, nat_tests)) q unnamed

  marks_with_of : (xs : List Record) → ForEach (λ r. belongs_to m.ns m.id r ≡ false) xs
      → map (mark_among (records_of_mark m ++ q)) (filter is_start xs) ≡ map (mark_among q) (filter is_start xs)
  marks_with_of [] each = refl
  marks_with_of (x ∷ xs) each = by_case (marks_with_of xs each.1) x.info.is_end
    where
      other : is_named x.info.ns x.info.id m ≡ false
      other = let away = each.0 in grind (arith, nat_tests)

      by_case : map (mark_among (records_of_mark m ++ q)) (filter is_start xs) ≡ map (mark_among q) (filter is_start xs) → (b : Bool)
          → map (mark_among (records_of_mark m ++ q)) (cond (not b) (x ∷ filter is_start xs) (filter is_start xs))
          ≡ map (mark_among q) (cond (not b) (x ∷ filter is_start xs) (filter is_start xs))
      by_case rest true = rest
      by_case rest false =
          ap (λ (o : Option Far). (let k : Mark = record (mark_among q x) { stop = o } in k) ∷ map (mark_among (records_of_mark m ++ q)) (filter is_start xs))
          (ap (option_map far_in) (find-behind (has_key x.info.ns x.info.id true) (records_of_mark m) q (named_records x.info.ns x.info.id m m.stop other)))
          ∙ ap (λ (l : List Mark). mark_among q x ∷ l) rest

  starts_with : (o : Option Far) → filter is_start (records_of_mark (record m { stop = o }) ++ q) ≡ start_record (record m { stop = o }) ∷ filter is_start q
  starts_with None = refl
  starts_with (Some far) = refl

  pub marks_with : marks_among (records_of_mark m ++ q) ≡ m ∷ marks_among q
  marks_with =
      ap (map (mark_among (records_of_mark m ++ q))) (starts_with m.stop)
      ∙ ap (λ (o : Option Far). (let k : Mark = record m { stop = o } in k) ∷ map (mark_among (records_of_mark m ++ q)) (filter is_start q)) (far_with m q m.stop no_end)
      ∙ ap (λ (l : List Mark). m ∷ l) (marks_with_of q unnamed)

  distinct_with_of : (o : Option Far) → IsDistinct same_key q → IsDistinct same_key (records_of_mark (record m { stop = o }) ++ q)
  distinct_with_of None apart =
      IsDistinct-cons same_key (start_record (record m { stop = None })) q (recursion_from_All (λ y. same_key (start_record (record m { stop = None })) y ≡ false) q
      (All-from_each (λ y. same_key (start_record (record m { stop = None })) y ≡ false) q
      (Each-weaker (λ r. belongs_to m.ns m.id r ≡ false) (λ y. same_key (start_record (record m { stop = None })) y ≡ false) (λ x other. grind (arith, nat_tests)) q unnamed))) apart
  distinct_with_of (Some far) apart =
      IsDistinct-cons same_key (start_record (record m { stop = Some far })) (end_record (record m { stop = Some far }) far ∷ q)
      (recursion_from_All (λ y. same_key (start_record (record m { stop = Some far })) y ≡ false) (end_record (record m { stop = Some far }) far ∷ q)
      (All-from_each (λ y. same_key (start_record (record m { stop = Some far })) y ≡ false) (end_record (record m { stop = Some far }) far ∷ q)
      (refl, Each-weaker (λ r. belongs_to m.ns m.id r ≡ false) (λ y. same_key (start_record (record m { stop = Some far })) y ≡ false) (λ x other. grind (arith, nat_tests)) q unnamed)))
      (IsDistinct-cons same_key (end_record (record m { stop = Some far }) far) q (recursion_from_All (λ y. same_key (end_record (record m { stop = Some far }) far) y ≡ false) q
      (All-from_each (λ y. same_key (end_record (record m { stop = Some far }) far) y ≡ false) q
      (Each-weaker (λ r. belongs_to m.ns m.id r ≡ false) (λ y. same_key (end_record (record m { stop = Some far }) far) y ≡ false) (λ x other. grind (arith, nat_tests)) q unnamed))) apart)

  pub distinct_with : IsDistinct same_key q → IsDistinct same_key (records_of_mark m ++ q)
  distinct_with apart = distinct_with_of m.stop apart

passes_unnamed : (ns id : ℕ) (rs : List Record) → ForEach (λ r. belongs_to ns id r ≡ false) (filter (λ r. not (belongs_to ns id r)) rs)
passes_unnamed ns id [] = tt
passes_unnamed ns id (r ∷ rs) = by_case (passes_unnamed ns id rs) (belongs_to ns id r) refl
  where
    by_case : ForEach (λ r. belongs_to ns id r ≡ false) (filter (λ r. not (belongs_to ns id r)) rs) → (b : Bool) → belongs_to ns id r ≡ b
        → ForEach (λ r. belongs_to ns id r ≡ false) (cond (not b) (r ∷ filter (λ r. not (belongs_to ns id r)) rs) (filter (λ r. not (belongs_to ns id r)) rs))
    by_case rest true is = rest
    by_case rest false is = (is, rest)

module _ (m : Mark) (rs left after : List Record) (apart : IsDistinct same_key rs) (all : IsPermutation (records_of_marks (marks_among rs)) rs)
    (rest : IsPermutation (filter (λ r. not (belongs_to m.ns m.id r)) rs) left) (up_left : Sort left)
    (same : IsPermutation (records_of_mark m ++ left) after) (up : Sort after) where
  left_unnamed : ForEach (λ r. belongs_to m.ns m.id r ≡ false) left
  left_unnamed =
      Each-permutation (λ r. belongs_to m.ns m.id r ≡ false) (filter (λ r. not (belongs_to m.ns m.id r)) rs) left rest (passes_unnamed m.ns m.id rs)

  left_apart : IsDistinct same_key left
  left_apart = once_less m.ns m.id rs left apart all rest up_left

  pub seen_with : IsInOrder (m ∷ without m.ns m.id (marks_among rs)) (marks_among after)
  seen_with =
      let ordered : IsInOrder (marks_among (records_of_mark m ++ left)) (marks_among after) =
      marks_in_order (records_of_mark m ++ left) after same (distinct_with m left left_unnamed left_apart) up in
      let less : IsInOrder (without m.ns m.id (marks_among rs)) (marks_among left) = seen_less m.ns m.id rs left apart all rest up_left in
      record {
        same_marks = IsPermutation-trans (m ∷ without m.ns m.id (marks_among rs)) (m ∷ marks_among left) (marks_among after)
            (IsPermutation-cons m (without m.ns m.id (marks_among rs)) (marks_among left) less.same_marks)
            (subst (λ (l : List Mark). IsPermutation l (marks_among after)) (marks_with m left left_unnamed) ordered.same_marks);
        in_order = ordered.in_order;
      }

  pub once_with : IsDistinct same_key after
  once_with = IsDistinct-IsPermutation same_key key_flips (records_of_mark m ++ left) after same (distinct_with m left left_unnamed left_apart)

  pub all_with : IsPermutation (records_of_marks (marks_among after)) after
  all_with =
      IsPermutation-trans (records_of_marks (marks_among after)) (records_of_mark m ++ records_of_marks (without m.ns m.id (marks_among rs))) after
      (IsPermutation-sym (records_of_mark m ++ records_of_marks (without m.ns m.id (marks_among rs))) (records_of_marks (marks_among after))
      (IsPermutation-flat records_of_mark (m ∷ without m.ns m.id (marks_among rs)) (marks_among after) seen_with.same_marks))
      (IsPermutation-trans (records_of_mark m ++ records_of_marks (without m.ns m.id (marks_among rs))) (records_of_mark m ++ left) after
      (IsPermutation-append_right (records_of_mark m) (records_of_marks (without m.ns m.id (marks_among rs))) left
      (kept_less m.ns m.id rs left apart all rest up_left)) same)

-- ---- where no mark has a name no record has it
unnamed_of : (ns id : ℕ) (ms : List Mark) → mark_at ms ns id ≡ None → ForEach (λ r. belongs_to ns id r ≡ false) (records_of_marks ms)
unnamed_of ns id [] none = tt
unnamed_of ns id (m ∷ ms) none = by_case (unnamed_of ns id ms) (is_named ns id m) refl none m.stop
  where
    by_case : (mark_at ms ns id ≡ None → ForEach (λ r. belongs_to ns id r ≡ false) (records_of_marks ms)) → (b : Bool) → is_named ns id m ≡ b
        → cond b (Some m) (mark_at ms ns id) ≡ None → (o : Option Far)
        → ForEach (λ r. belongs_to ns id r ≡ false) (records_of_mark (record m { stop = o }) ++ records_of_marks ms)
    by_case rest true is none o = absurd (cc)
    by_case rest false is none None = (is, rest none)
    by_case rest false is none (Some far) = (is, (is, rest none))

pub unnamed : (ns id : ℕ) (rs : List Record) → IsPermutation (records_of_marks (marks_among rs)) rs → mark_at (marks_among rs) ns id ≡ None
    → filter (λ r. not (belongs_to ns id r)) rs ≡ rs
unnamed ns id rs all none =
    filter-all (belongs_to ns id) rs (All-from_each (λ r. belongs_to ns id r ≡ false) rs
    (Each-permutation (λ r. belongs_to ns id r ≡ false) (records_of_marks (marks_among rs)) rs all (unnamed_of ns id (marks_among rs) none)))

-- ---- how many marks there are then
pub fewer_by_one : (ns id : ℕ) (ms : List Mark) (m : Mark) → IsDistinct same_name ms → mark_at ms ns id ≡ Some m → length (without ns id ms) + 1 ≡ length ms
fewer_by_one ns id [] m apart found = absurd (cc)
fewer_by_one ns id (k ∷ ms) m apart found = by_case (fewer_by_one ns id ms m (IsDistinct-tail same_name k ms apart)) (is_named ns id k) refl found
  where
    by_case : (mark_at ms ns id ≡ Some m → length (without ns id ms) + 1 ≡ length ms) → (b : Bool) → is_named ns id k ≡ b
        → cond b (Some k) (mark_at ms ns id) ≡ Some m → length (cond (not b) (k ∷ without ns id ms) (without ns id ms)) + 1 ≡ suc (length ms)
    by_case rest true is found =
        omega (arith, ap length (filter-all (is_named ns id) ms (others_fail same_name (is_named ns id) (named_once ns id) k ms is apart)))
    by_case rest false is found = omega (arith, rest found)

pub as_many_without : (ns id : ℕ) (ms : List Mark) → mark_at ms ns id ≡ None → without ns id ms ≡ ms
as_many_without ns id ms none = filter-all (is_named ns id) ms (none_passes (is_named ns id) ms none)

-- ---- a key taken out
pub taken_rest : (t : Record → Bool) → ((x y : Record) → t x ≡ true → t y ≡ true → same_key x y ≡ true) → (rs qs : List Record) (x : Record)
    → IsDistinct same_key rs → IsPermutation rs (x ∷ qs) → t x ≡ true → IsPermutation (filter (λ r. not (t r)) rs) qs
taken_rest t once rs qs x apart same passes =
    subst (λ (l : List Record). IsPermutation (filter (λ r. not (t r)) rs) l)
    (front passes ∙ filter-all t qs (others_fail same_key t once x qs passes (IsDistinct-IsPermutation same_key key_flips rs (x ∷ qs) same apart)))
    (IsPermutation-filter (λ r. not (t r)) rs (x ∷ qs) same)
  where
    front : t x ≡ true → filter (λ r. not (t r)) (x ∷ qs) ≡ filter (λ r. not (t r)) qs
    front is = rw is refl

pub none_taken : (t : Record → Bool) (rs : List Record) → find t rs ≡ None → IsPermutation (filter (λ r. not (t r)) rs) rs
none_taken t rs none =
    subst (λ (l : List Record). IsPermutation l rs) (sym (filter-all t rs (none_passes t rs none))) (IsPermutation-refl rs)

pub found_passes : (t : Record → Bool) (rs : List Record) (x : Record) → find t rs ≡ Some x → t x ≡ true
found_passes t rs x found = (find-All t (λ r. Unit {0}) rs x (All-from_each (λ r. Unit {0}) rs (Each-always (λ r. Unit {0}) (λ r. tt) rs)) found).1

and_false : (b : Bool) → b && false ≡ false
and_false true = refl
and_false false = refl

both_keys : (ns id : ℕ) (rs : List Record)
    → filter (λ r. not (has_key ns id true r)) (filter (λ r. not (has_key ns id false r)) rs) ≡ filter (λ r. not (belongs_to ns id r)) rs
both_keys ns id [] = refl
both_keys ns id (r ∷ rs) = by_case (both_keys ns id rs) r.info.is_end refl (belongs_to ns id r) refl
  where
    by_case : filter (λ r. not (has_key ns id true r)) (filter (λ r. not (has_key ns id false r)) rs) ≡ filter (λ r. not (belongs_to ns id r)) rs
        → (b : Bool) → r.info.is_end ≡ b → (c : Bool) → belongs_to ns id r ≡ c
        → filter (λ r. not (has_key ns id true r)) (cond (not (not b && c)) (r ∷ filter (λ r. not (has_key ns id false r)) rs) (filter (λ r. not (has_key ns id false r)) rs))
        ≡ cond (not c) (r ∷ filter (λ r. not (belongs_to ns id r)) rs) (filter (λ r. not (belongs_to ns id r)) rs)
    by_case rest true is_b true is_c = rw (is_b, is_c) rest
    by_case rest true is_b false is_c =
        let other : has_key ns id true r ≡ false = ap (λ (b : Bool). r.info.is_end && b) is_c ∙ and_false r.info.is_end in
        rw other (ap (λ (l : List Record). r ∷ l) rest)
    by_case rest false is_b true is_c = rest
    by_case rest false is_b false is_c =
        let no_end : has_key ns id true r ≡ false = ap (λ (b : Bool). b && (eqb r.info.ns ns && eqb r.info.id id)) is_b in
        rw no_end (ap (λ (l : List Record). r ∷ l) rest)

pub both_taken : (ns id : ℕ) (rs one two : List Record) → IsPermutation (filter (λ r. not (has_key ns id false r)) rs) one
    → IsPermutation (filter (λ r. not (has_key ns id true r)) one) two → IsPermutation (filter (λ r. not (belongs_to ns id r)) rs) two
both_taken ns id rs one two first second =
    subst (λ (l : List Record). IsPermutation l two) (both_keys ns id rs)
    (IsPermutation-trans (filter (λ r. not (has_key ns id true r)) (filter (λ r. not (has_key ns id false r)) rs)) (filter (λ r. not (has_key ns id true r)) one) two
    (IsPermutation-filter (λ r. not (has_key ns id true r)) (filter (λ r. not (has_key ns id false r)) rs) one first) second)

pub once_left : (t : Record → Bool) (rs one : List Record) → IsDistinct same_key rs → IsPermutation (filter (λ r. not (t r)) rs) one → IsDistinct same_key one
once_left t rs one apart same =
    IsDistinct-IsPermutation same_key key_flips (filter (λ r. not (t r)) rs) one same (distinct_filter (λ r. not (t r)) rs apart)

start_alone : (ns id : ℕ) (rs : List Record) → ForEach (λ r. has_key ns id true r ≡ false) rs
    → filter (λ r. not (has_key ns id false r)) rs ≡ filter (λ r. not (belongs_to ns id r)) rs
start_alone ns id [] none = refl
start_alone ns id (r ∷ rs) none = by_case (start_alone ns id rs none.1) r.info.is_end refl (belongs_to ns id r) refl none.0
  where
    by_case : filter (λ r. not (has_key ns id false r)) rs ≡ filter (λ r. not (belongs_to ns id r)) rs
        → (b : Bool) → r.info.is_end ≡ b → (c : Bool) → belongs_to ns id r ≡ c → b && c ≡ false
        → cond (not (not b && c)) (r ∷ filter (λ r. not (has_key ns id false r)) rs) (filter (λ r. not (has_key ns id false r)) rs)
        ≡ cond (not c) (r ∷ filter (λ r. not (belongs_to ns id r)) rs) (filter (λ r. not (belongs_to ns id r)) rs)
    by_case rest true is_b true is_c none = absurd (cc)
    by_case rest true is_b false is_c none = ap (λ (l : List Record). r ∷ l) rest
    by_case rest false is_b true is_c none = rest
    by_case rest false is_b false is_c none = ap (λ (l : List Record). r ∷ l) rest

pub no_far : (rs : List Record) (ns id : ℕ) → end_among rs ns id ≡ None → ForEach (λ r. has_key ns id true r ≡ false) rs
no_far rs ns id none = Each-from_all (λ r. has_key ns id true r ≡ false) rs (none_passes (has_key ns id true) rs (by_case (find (has_key ns id true) rs) none))
  where
    by_case : (o : Option Record) → option_map far_in o ≡ None → o ≡ None
    by_case None is = refl
    by_case (Some r) is = absurd (cc)

pub start_taken : (ns id : ℕ) (rs one : List Record) → end_among rs ns id ≡ None → IsPermutation (filter (λ r. not (has_key ns id false r)) rs) one
    → IsPermutation (filter (λ r. not (belongs_to ns id r)) rs) one
start_taken ns id rs one none same =
    subst (λ (l : List Record). IsPermutation l one) (start_alone ns id rs (no_far rs ns id none)) same

-- ---- a mark that was found
named_pair : (ns id : ℕ) (m : Mark) → is_named ns id m ≡ true → (m.ns ≡ ns) × (m.id ≡ id)
named_pair ns id m named = (grind (arith, nat_tests), grind (arith, nat_tests))

pub stop_is : (rs : List Record) (ns id : ℕ) (m : Mark) → mark_at (marks_among rs) ns id ≡ Some m → m.stop ≡ end_among rs ns id
stop_is rs ns id m found =
    let known = find-All (is_named ns id) (λ (k : Mark). k.stop ≡ end_among rs k.ns k.id) (marks_among rs) m
    (All-from_each (λ (k : Mark). k.stop ≡ end_among rs k.ns k.id) (marks_among rs) (Each-map (λ (k : Mark). k.stop ≡ end_among rs k.ns k.id) (mark_among rs) (filter is_start rs)
    (Each-always (λ r. end_among rs r.info.ns r.info.id ≡ end_among rs r.info.ns r.info.id) (λ r. refl) (filter is_start rs)))) found in
    let names = named_pair ns id m known.1 in
    known.0 ∙ ap (λ (n : ℕ). end_among rs n m.id) names.0 ∙ ap (λ (n : ℕ). end_among rs ns n) names.1

pub no_stop : (rs : List Record) (ns id : ℕ) (m : Mark) (b : Bool) → mark_at (marks_among rs) ns id ≡ Some m → b ≡ is_some m.stop → b ≡ false → end_among rs ns id ≡ None
no_stop rs ns id m b found tells is = sym (stop_is rs ns id m found) ∙ by_case m.stop (sym tells ∙ is)
  where
    by_case : (o : Option Far) → is_some o ≡ false → o ≡ None
    by_case None is = refl
    by_case (Some far) is = absurd (cc)

-- ---- a start that was found knows its end
pub end_known : (rs : List Record) (ns id : ℕ) (x : Record) → ForEach (IsEndKnown rs) rs → find (has_key ns id false) rs ≡ Some x
    → x.info.has_end ≡ is_some (end_among rs x.info.ns x.info.id)
end_known rs ns id x known found =
    let it = find-All (has_key ns id false) (IsEndKnown rs) rs x (All-from_each (IsEndKnown rs) rs known) found in
    it.0 (start x.info.is_end refl it.1)
  where
    start : (b : Bool) → x.info.is_end ≡ b → has_key ns id false x ≡ true → x.info.is_end ≡ false
    start true is key = absurd (grind (arith, nat_tests))
    start false is key = is

pub far_none : (rs : List Record) (ns id : ℕ) (b : Bool) → b ≡ is_some (end_among rs ns id) → b ≡ false → end_among rs ns id ≡ None
far_none rs ns id b tells is = by_case (end_among rs ns id) (sym tells ∙ is)
  where
    by_case : (o : Option Far) → is_some o ≡ false → o ≡ None
    by_case None is = refl
    by_case (Some far) is = absurd (cc)

-- ---- marks listed_marks
pub filled-filled : (n : ℕ) (had ys zs : List Mark) → extended_list n (extended_list n had ys) zs ≡ extended_list n had (ys ++ zs)
filled-filled n had ys zs = elim (cases_lt (n - length had) (length ys)) [
  | inl short ↦
      let none : n - length (had ++ take (n - length had) ys) ≡ 0 =
      omega (arith, length-append had (take (n - length had) ys), length-take-le (n - length had) ys (omega arith)) in
      ap (λ (k : ℕ). (had ++ take (n - length had) ys) ++ take k zs) none ∙ append-nil (had ++ take (n - length had) ys)
      ∙ sym (ap (λ (l : List Mark). had ++ l) (take-append-le (n - length had) ys zs (omega arith)))
  | inr fits ↦
      let all : take (n - length had) ys ≡ ys = take_all (n - length had) ys fits in
      let rest : n - length (had ++ take (n - length had) ys) ≡ n - length had - length ys =
      omega (arith, length-append had (take (n - length had) ys), ap length all) in
      let sum : n - length had ≡ length ys + (n - length had - length ys) = omega arith in
      ap (λ (k : ℕ). (had ++ take (n - length had) ys) ++ take k zs) rest
      ∙ append_assoc had (take (n - length had) ys) (take (n - length had - length ys) zs)
      ∙ ap (λ (l : List Mark). had ++ (l ++ take (n - length had - length ys) zs)) all
      ∙ sym (ap (λ (l : List Mark). had ++ l) (ap (λ (k : ℕ). take k (ys ++ zs)) sum ∙ take-append-add ys zs (n - length had - length ys)))
]

-- what is listed of two lists of records, one after the other
listed-append : (rs : List Record) (q : Query) (xs ys : List Record) → listed_marks rs q (xs ++ ys) ≡ listed_marks rs q xs ++ listed_marks rs q ys
listed-append rs q xs ys =
    let t : Record → Bool = λ r. is_start r && is_within (first_start q) q.to r.pos in
    ap (λ (l : List Record). filter (is_selected q) (map (mark_among rs) l)) (filter-append t xs ys)
    ∙ ap (filter (is_selected q)) (map-append (mark_among rs) (filter t xs) (filter t ys))
    ∙ filter-append (is_selected q) (map (mark_among rs) (filter t xs)) (map (mark_among rs) (filter t ys))

-- a loop's step: what is listed_marks of some records and then of more
pub list_more : (n : ℕ) (rs : List Record) (q : Query) (had now next : List Mark) (xs ys both : List Record)
    → now ≡ extended_list n had (listed_marks rs q xs) → next ≡ extended_list n now (listed_marks rs q ys) → both ≡ xs ++ ys
    → next ≡ extended_list n had (listed_marks rs q both)
list_more n rs q had now next xs ys both so_far more is =
    more ∙ ap (λ (l : List Mark). extended_list n l (listed_marks rs q ys)) so_far
    ∙ filled-filled n had (listed_marks rs q xs) (listed_marks rs q ys)
    ∙ sym (ap (λ (l : List Record). extended_list n had (listed_marks rs q l)) is ∙ ap (extended_list n had) (listed-append rs q xs ys))

pub list_none : (n : ℕ) (had : List Mark) → had ≡ extended_list n had []
list_none n had = by_case (n - length had)
  where
    by_case : (k : ℕ) → had ≡ had ++ take {A = Mark} k []
    by_case zero = sym (append-nil had)
    by_case (suc k) = sym (append-nil had)

pub list_full : (n : ℕ) (had more : List Mark) → n ≤ length had → had ≡ extended_list n had more
list_full n had more full =
    let none : n - length had ≡ 0 = omega arith in
    sym (ap (λ (k : ℕ). had ++ take k more) none ∙ append-nil had)

pub list_stop : (n : ℕ) (rs : List Record) (q : Query) (had now : List Mark) (xs ys all : List Record) → now ≡ extended_list n had (listed_marks rs q xs)
    → n ≤ length now → all ≡ xs ++ ys → now ≡ extended_list n had (listed_marks rs q all)
list_stop n rs q had now xs ys all is full parts =
    list_full n now (listed_marks rs q ys) full
    ∙ ap (λ (l : List Mark). extended_list n l (listed_marks rs q ys)) is
    ∙ filled-filled n had (listed_marks rs q xs) (listed_marks rs q ys)
    ∙ ap (λ (l : List Mark). extended_list n had l) (sym (listed-append rs q xs ys) ∙ ap (listed_marks rs q) (sym parts))

pub list_push : (n : ℕ) (had : List Mark) (m : Mark) → length had < n → had ++ m ∷ [] ≡ extended_list n had (m ∷ [])
list_push n had m room =
    let some : n - length had ≡ suc (n - length had - 1) = omega arith in
    sym (ap (λ (k : ℕ). had ++ take k (m ∷ [])) some ∙ ap (λ (l : List Mark). had ++ m ∷ l) (of_none (n - length had - 1)))
  where
    of_none : (k : ℕ) → take {A = Mark} k [] ≡ []
    of_none zero = refl
    of_none (suc k) = refl

-- the marks within two places are the starts within them
starts_listed : (rs : List Record) (from to : Pos) (xs : List Record)
    → filter (starts_within from to) (map (mark_among rs) (filter is_start xs)) ≡ map (mark_among rs) (filter (λ r. is_start r && is_within from to r.pos) xs)
starts_listed rs from to [] = refl
starts_listed rs from to (x ∷ xs) = by_case (starts_listed rs from to xs) x.info.is_end (is_within from to x.pos) refl
  where
    by_case : filter (starts_within from to) (map (mark_among rs) (filter is_start xs)) ≡ map (mark_among rs) (filter (λ r. is_start r && is_within from to r.pos) xs) → (b c : Bool) → is_within from to x.pos ≡ c
        → filter (starts_within from to) (map (mark_among rs) (cond (not b) (x ∷ filter is_start xs) (filter is_start xs)))
        ≡ map (mark_among rs) (cond (not b && c) (x ∷ filter (λ r. is_start r && is_within from to r.pos) xs) (filter (λ r. is_start r && is_within from to r.pos) xs))
    by_case rest true c is = rest
    by_case rest false true is = rw is (ap (λ (l : List Mark). mark_among rs x ∷ l) rest)
    by_case rest false false is = rw is rest

two_tests : (from to : Pos) (xs : List Record)
    → filter (λ r. is_start r && is_within from to r.pos) xs ≡ filter is_start (filter (λ r. is_within from to r.pos) xs)
two_tests from to [] = refl
two_tests from to (x ∷ xs) = by_case (two_tests from to xs) x.info.is_end refl (is_within from to x.pos)
  where
    by_case : filter (λ r. is_start r && is_within from to r.pos) xs ≡ filter is_start (filter (λ r. is_within from to r.pos) xs) → (b : Bool) → x.info.is_end ≡ b → (c : Bool)
        → cond (not b && c) (x ∷ filter (λ r. is_start r && is_within from to r.pos) xs) (filter (λ r. is_start r && is_within from to r.pos) xs)
        ≡ filter is_start (cond c (x ∷ filter (λ r. is_within from to r.pos) xs) (filter (λ r. is_within from to r.pos) xs))
    by_case rest true is true = rw is rest
    by_case rest true is false = rest
    by_case rest false is true =
        let start : is_start x ≡ true = ap not is in
        rw start (ap (λ (l : List Record). x ∷ l) rest)
    by_case rest false is false = rest

-- a mark that is asked for starts where it may
selected_within : (q : Query) (m : Mark) → is_selected q m ≡ true → starts_within (first_start q) q.to m ≡ true
selected_within q m is = by_case q.reaching is
  where
    none_before : (p : Pos) → is_before p text_start ≡ false
    none_before p = grind (arith, nat_tests)

    up_to : (a b c : Bool) → (a && (not b && c)) ≡ true → not b ≡ true
    up_to true true c holds = absurd cc
    up_to true false c holds = refl
    up_to false b c holds = absurd cc

    from_up_to : (a b c : Bool) → (a && (not b && (not c || false))) ≡ true → (not c && not b) ≡ true
    from_up_to true true c holds = absurd cc
    from_up_to true false true holds = absurd cc
    from_up_to true false false holds = refl
    from_up_to false b c holds = absurd cc

    by_case : (g : Bool)
        → (is_meant q.ns m.ns && (not (is_before q.to m.start) && (not (is_before m.start q.from) || (g && stops_from q.from m.stop)))) ≡ true
        → is_within (cond g text_start q.from) q.to m.start ≡ true
    by_case true holds =
        ap (λ (b : Bool). not b && not (is_before q.to m.start)) (none_before m.start)
        ∙ up_to (is_meant q.ns m.ns) (is_before q.to m.start) (not (is_before m.start q.from) || stops_from q.from m.stop) holds
    by_case false holds = from_up_to (is_meant q.ns m.ns) (is_before q.to m.start) (is_before m.start q.from) holds

filter_implied : {X : Type 0} (p t : X → Bool) → ((x : X) → p x ≡ true → t x ≡ true) → (xs : List X) → filter p (filter t xs) ≡ filter p xs
filter_implied p t implies [] = refl
filter_implied p t implies (x ∷ xs) = by_case (filter_implied p t implies xs) (t x) refl (p x) refl
  where
    by_case : filter p (filter t xs) ≡ filter p xs → (b : Bool) → t x ≡ b → (c : Bool) → p x ≡ c
        → filter p (cond b (x ∷ filter t xs) (filter t xs)) ≡ cond c (x ∷ filter p xs) (filter p xs)
    by_case rest true is_b true is_c = rw is_c (ap (λ l. x ∷ l) rest)
    by_case rest true is_b false is_c = rw is_c rest
    by_case rest false is_b true is_c = absurd (both_ways (t x) is_b (implies x is_c))
    by_case rest false is_b false is_c = rest

pub list_all : (rs : List Record) (q : Query) (from : Pos) (xs ys : List Record) → from ≡ first_start q
    → filter (λ r. is_within from q.to r.pos) xs ≡ filter (λ r. is_within from q.to r.pos) ys
    → listed_marks rs q xs ≡ filter (is_selected q) (map (mark_among rs) (filter is_start ys))
list_all rs q from xs ys is same =
    let low : Pos = first_start q in
    let alike : filter (λ r. is_within low q.to r.pos) xs ≡ filter (λ r. is_within low q.to r.pos) ys =
    subst (λ (p : Pos). filter (λ (r : Record). is_within p q.to r.pos) xs ≡ filter (λ (r : Record). is_within p q.to r.pos) ys) is same in
    ap (filter (is_selected q))
    (ap (map (mark_among rs)) (two_tests low q.to xs ∙ ap (filter is_start) alike ∙ sym (two_tests low q.to ys)) ∙ sym (starts_listed rs low q.to ys))
    ∙ filter_implied (is_selected q) (starts_within low q.to) (selected_within q) (map (mark_among rs) (filter is_start ys))

pub list_same : (rs : List Record) (q : Query) (from : Pos) (xs ys : List Record) → from ≡ first_start q
    → filter (λ r. is_within from q.to r.pos) xs ≡ filter (λ r. is_within from q.to r.pos) ys → listed_marks rs q xs ≡ listed_marks rs q ys
list_same rs q from xs ys is same = list_all rs q from xs ys is same ∙ sym (list_all rs q from ys ys is refl)

-- what is listed of one record
module _ (n : ℕ) (rs : List Record) (q : Query) (had : List Mark) (r : Record) where
  pub list_end : r.info.is_end ≡ true → had ≡ extended_list n had (listed_marks rs q (r ∷ []))
  list_end is =
      list_none n had
      ∙ ap (λ (b : Bool). extended_list n had (filter (is_selected q) (map (mark_among rs) (cond (not b && is_within (first_start q) q.to r.pos) (r ∷ []) [])))) (sym is)

  pub list_other : is_meant q.ns r.info.ns ≡ false → had ≡ extended_list n had (listed_marks rs q (r ∷ []))
  list_other other = list_none n had ∙ ap (extended_list n had) (sym (by_case (is_start r && is_within (first_start q) q.to r.pos)))
    where
      unasked : is_selected q (mark_among rs r) ≡ false
      unasked = ap (λ (b : Bool). b && (not (is_before q.to r.pos) && (not (is_before r.pos q.from) || (q.reaching && stops_from q.from (end_among rs r.info.ns r.info.id))))) other

      by_case : (b : Bool) → filter (is_selected q) (map (mark_among rs) (cond b (r ∷ []) [])) ≡ []
      by_case true = rw unasked refl
      by_case false = refl

  pub list_start : r.info.is_end ≡ false → is_within (first_start q) q.to r.pos ≡ true → (m : Mark) → m ≡ mark_among rs r → length had < n → (now : List Mark)
      → now ≡ had ++ filter (is_selected q) (m ∷ []) → now ≡ extended_list n had (listed_marks rs q (r ∷ []))
  list_start start within m is room now put =
      put ∙ by_case (is_selected q m)
      ∙ ap (λ (k : Mark). extended_list n had (filter (is_selected q) (k ∷ []))) is
      ∙ ap (λ (b : Bool). extended_list n had (filter (is_selected q) (map (mark_among rs) (cond b (r ∷ []) [])))) (sym tests)
    where
      tests : is_start r && is_within (first_start q) q.to r.pos ≡ true
      tests = ap (λ (b : Bool). not b && is_within (first_start q) q.to r.pos) start ∙ within

      by_case : (b : Bool) → had ++ cond b (m ∷ []) [] ≡ extended_list n had (cond b (m ∷ []) [])
      by_case true = list_push n had m room
      by_case false = append-nil had ∙ list_none n had

pub list_limit : (held limit : ℕ) (had more : List Mark) → held ≡ length had → extended_list (held + limit) had more ≡ had ++ take limit more
list_limit held limit had more is =
    let left : held + limit - length had ≡ limit = omega arith in
    ap (λ (k : ℕ). had ++ take k more) left

pub filled_begun : (n held : ℕ) (had more now : List Mark) → held ≤ length had → now ≡ extended_list n had more → take held now ≡ take held had
filled_begun n held had more now within is = ap (take held) is ∙ take-append-le held had (take (n - length had) more) within

pub filled_longer : (n : ℕ) (had more now : List Mark) → now ≡ extended_list n had more → length had ≤ length now
filled_longer n had more now is = omega (arith, ap length is, length-append had (take (n - length had) more))

-- ---- a record looked for in one chunk
pub found_here : (ns id : ℕ) (end : Bool) (ps : List Piece) (n : ℕ) (p : Piece) → n < length ps → p ≡ get_or ps n p → IsDistinct same_key (spread_records ps)
    → (o : Option ℕ) → o ≡ position (λ (k : Relative). is_key ns id end k.info) p.kept → IfSome o (λ i. IsFoundAt (has_key ns id end) ps n i)
found_here ns id end ps n p within here apart None is = tt
found_here ns id end ps n p within here apart (Some i) is =
    let t : Record → Bool = has_key ns id end in
    let front : List Record = spread_records (take n ps) in
    let back : List Record = spread_records (drop (n + 1) ps) in
    let one : held_records n 1 ps ≡ records_of p = held_one ps n p within ∙ ap records_of (sym here) in
    let parts : spread_records ps ≡ front ++ (records_of p ++ back) =
    ap spread_records (at_split ps n p within) ∙ spread-append (take n ps) (get_or ps n p ∷ drop (n + 1) ps)
    ∙ ap (λ (q : Piece). front ++ (records_of q ++ back)) (sym here) in
    let apart_parts : IsDistinct same_key (front ++ (records_of p ++ back)) = subst (λ (l : List Record). IsDistinct same_key l) parts apart in
    record {
      chunk = within;
      place = subst (λ (l : List Record). i < length l) (sym one) (is_among ns id end p i no_record (sym is)).0;
      found = λ d.
          ap (find t) parts
          ∙ sym (find-permutation same_key t (key_once ns id end) (front ++ (records_of p ++ back)) ((records_of p ++ back) ++ front)
          (IsPermutation-append_comm front (records_of p ++ back)) apart_parts)
          ∙ find-front t (records_of p ++ back) front (get_or (records_of p) i d)
          (find-front t (records_of p) back (get_or (records_of p) i d) (is_among ns id end p i d (sym is)).1)
          ∙ ap (λ (l : List Record). Some (get_or l i d)) (sym one);
    }
  where
    no_record : Record
    no_record = record { pos = record { row = 0; col = 0 }; info = record { ns = 0; id = 0; right = false; is_end = false; has_end = false; paint = None; priority = 0; restore = false; invalidate = false; hidden = false; set = 0 } }
