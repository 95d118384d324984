-- Records found in a chunk as it keeps them, and put in and taken out in place.
use Rattle.std.proofs.Common.{◌≡◌, ◌≤◌, ◌<◌, ◌+◌, List, [], ◌∷◌, ◌++◌, ℕ, zero, suc, refl, ap, sym, ◌∙◌, length, take, drop, get_or, set, map, not, ◌&&◌, arith, Bool, true, false, ltb, subst, None}
use Rattle.std.specs.Prelude.{IsPermutation, filter, insert, remove}
use Rattle.std.specs.List.{AllWithin}
use Rattle.std.specs.List.Sorted.{IsPartitionPoint, IsPartitionedBy}
use Rattle.std.proofs.lemmas.Bool.{both_ways}
use Rattle.std.proofs.lemmas.Bool.Decides.{nat_tests}
use Rattle.std.proofs.lemmas.List.{length-map, drop_more, take-append-drop, take-map, drop-map, map-append, append-nil, get_or-map, get_or_default}
use Rattle.std.proofs.lemmas.List.Elements.{filter-append}
use Rattle.std.proofs.lemmas.List.Edits.{length-insert}
use Rattle.std.proofs.lemmas.List.Sorted.{IsPermutation-insert, sorted_far}
use Rattle.nv_places.specs.declared.place.Pos.{Pos}
use Rattle.nv_places.specs.Places.{IsNarrow, further, is_before}
use Rattle.nv_marks.specs.Order.{is_within}
use Rattle.nv_marks.specs.declared.record.Record.{Record}
use Rattle.nv_marks.specs.declared.record.Relative.{Relative}
use Rattle.nv_marks.specs.inside.Records.{ForEach, Sort, precedes}
use Rattle.nv_marks.specs.inside.Chunks.{Piece, placed_record, kept_from, reach, rebased_from, text_start, records_of, spread_records, base_of, refilled_piece, IsBased, IsLaid, held_records, pieces_edited_at, starts_before, with_inserted, with_removed, has_place}
use Rattle.nv_marks.proofs.EachLemmas.{Each-get_or, Each-weaker, Each-take, Each-drop, Each-unmap, Each-map, Rises-left, Rises-right, lower_parts, sorted_from_rises, Rises-from_sorted, point_front, point_rest}
use Rattle.nv_marks.proofs.OrderLemmas.{IsSortedBy-insert}
use Rattle.nv_marks.proofs.PlacesLemmas.{record_ranks, follows}
use Rattle.nv_marks.proofs.SpreadLemmas.{length-records}
use Rattle.nv_marks.proofs.WordLemmas.{put_is}
use Rattle.nv_marks.proofs.EditLemmas.{no_piece, held_one, held_up, held_each, rewritten_one, order_with, narrow_with, same_with}
use Rattle.nv_marks.proofs.RemoveLemmas.{length_without, order_without, narrow_without, left_over, shrunk}
use Rattle.nv_marks.proofs.WithinLemmas.{filter_skips, not_from, not_to}

-- ---- records in order, tested as they are kept
-- a test that, passed by a record, is passed by those before it
pub parts_of : (t : Record → Bool) → ((r q : Record) → precedes q r ≡ false → t q ≡ true → t r ≡ true) → (rs : List Record) → Sort rs → IsPartitionedBy t rs
parts_of t down rs up i j d in_order within passes =
    down (get_or rs i d) (get_or rs j d) (sorted_far precedes record_ranks rs (sorted_from_rises precedes rs up) i j d in_order within) passes

pub parts_kept : (f : Relative → Record) (t : Record → Bool) (ks : List Relative) → IsPartitionedBy t (map f ks) → IsPartitionedBy (λ k. t (f k)) ks
parts_kept f t ks parted i j d in_order within passes =
    let here : get_or (map f ks) i (f d) ≡ f (get_or ks i d) = get_or-map f ks i d (f d) (omega arith) in
    let there : get_or (map f ks) j (f d) ≡ f (get_or ks j d) = get_or-map f ks j d (f d) within in
    subst (λ (r : Record). t r ≡ true) here
    (parted i j (f d) in_order (omega (arith, length-map ks f)) (subst (λ (r : Record). t r ≡ true) (sym there) passes))

-- the records before a place, or up to it, come first
pub kept_before : (base at : Pos) (ks : List Relative) → Sort (map (placed_record base) ks) → IsPartitionedBy (λ k. is_before (further base k.by) at) ks
kept_before base at ks up = parts_kept (placed_record base) (λ r. is_before r.pos at) ks (parts_of (λ r. is_before r.pos at) down (map (placed_record base) ks) up)
  where
    earlier_too : (p q : Pos) → is_before q p ≡ false → is_before q at ≡ true → is_before p at ≡ true
    earlier_too p q later before = grind (arith, nat_tests)

    down : (r q : Record) → precedes q r ≡ false → is_before q.pos at ≡ true → is_before r.pos at ≡ true
    down r q later before = earlier_too r.pos q.pos (follows q r later) before

pub kept_up_to : (base at : Pos) (ks : List Relative) → Sort (map (placed_record base) ks) → IsPartitionedBy (λ k. not (is_before at (further base k.by))) ks
kept_up_to base at ks up = parts_kept (placed_record base) (λ r. not (is_before at r.pos)) ks (parts_of (λ r. not (is_before at r.pos)) down (map (placed_record base) ks) up)
  where
    earlier_too : (p q : Pos) → is_before q p ≡ false → not (is_before at q) ≡ true → not (is_before at p) ≡ true
    earlier_too p q later before = grind (arith, nat_tests)

    down : (r q : Record) → precedes q r ≡ false → not (is_before at q.pos) ≡ true → not (is_before at r.pos) ≡ true
    down r q later before = earlier_too r.pos q.pos (follows q r later) before

pub kept_below : (base : Pos) (r : Record) (ks : List Relative) → Sort (map (placed_record base) ks) → IsPartitionedBy (λ k. precedes (placed_record base k) r) ks
kept_below base r ks up =
    parts_kept (placed_record base) (λ q. precedes q r) ks
    (lower_parts precedes record_ranks r (map (placed_record base) ks) (sorted_from_rises precedes (map (placed_record base) ks) up))

-- where one that stands before a place was looked at, those before it do too
pub front_from : (base at : Pos) (ks : List Relative) (n m : ℕ) (e : Relative) → Sort (map (placed_record base) ks) → n < length ks → m ≤ n + 1
    → is_before (further base (get_or ks n e).by) at ≡ true → AllWithin (λ k. is_before (further base k.by) at ≡ true) ks 0 m
front_from base at ks n m e up within fits before = λ k d low high.
    kept_before base at ks up k n d (omega arith) within (subst (λ (x : Relative). is_before (further base x.by) at ≡ true) (get_or_default ks n e d within) before)

-- where they come first up to one that doesn't, or up to the end, that is all of them
pub point_at : (base at : Pos) (ks : List Relative) (n : ℕ) (e : Relative) → Sort (map (placed_record base) ks)
    → AllWithin (λ k. is_before (further base k.by) at ≡ true) ks 0 n
    → (n < length ks → is_before (further base (get_or ks n e).by) at ≡ false)
    → IsPartitionPoint (λ k. is_before (further base k.by) at ≡ true) (λ k. is_before (further base k.by) at ≡ false) ks n
point_at base at ks n e up front stops = (front, λ k d low high. by_case k low high (is_before (further base (get_or ks k d).by) at) d refl)
  where
    by_case : (k : ℕ) → n ≤ k → k < length ks → (b : Bool) (d : Relative) → is_before (further base (get_or ks k d).by) at ≡ b
        → is_before (further base (get_or ks k d).by) at ≡ false
    by_case k low high true d is =
        let here : is_before (further base (get_or ks n d).by) at ≡ true = kept_before base at ks up n k d low high is in
        absurd (both_ways (is_before (further base (get_or ks n d).by) at)
        (subst (λ (x : Relative). is_before (further base x.by) at ≡ false) (get_or_default ks n e d (omega arith)) (stops (omega arith))) here)
    by_case k low high false d is = is

-- ---- the part of a chunk within two places
pub Sort-rest : (base : Pos) (ks rest : List Relative) (n : ℕ) → rest ≡ drop n ks → Sort (map (placed_record base) ks) → Sort (map (placed_record base) rest)
Sort-rest base ks rest n is up =
    subst (λ (l : List Relative). Sort (map (placed_record base) l)) (sym is)
    (Rises-right precedes (map (placed_record base) (take n ks)) (map (placed_record base) (drop n ks))
    (subst (λ (l : List Record). Sort l) (sym (ap (map (placed_record base)) (take-append-drop n ks)) ∙ map-append (placed_record base) (take n ks) (drop n ks)) up))

-- the records of a chunk that don't stand before a place
module _ (from base : Pos) (ks rest : List Relative) (n : ℕ) (rest_is : rest ≡ drop n ks)
    (front : IsPartitionPoint (λ k. is_before (further base k.by) from ≡ true) (λ k. is_before (further base k.by) from ≡ false) ks n) where
  pub rest_not_before : ForEach (λ r. is_before r.pos from ≡ false) (map (placed_record base) rest)
  rest_not_before =
      subst (λ (l : List Relative). ForEach (λ r. is_before r.pos from ≡ false) (map (placed_record base) l)) (sym rest_is)
      (Each-map (λ r. is_before r.pos from ≡ false) (placed_record base) (drop n ks) (point_rest (λ k. is_before (further base k.by) from) ks n front))

  pub rest_within : (to : Pos) → filter (λ r. is_within from to r.pos) (map (placed_record base) rest) ≡ filter (λ r. is_within from to r.pos) (map (placed_record base) ks)
  rest_within to =
      let t : Record → Bool = λ r. is_within from to r.pos in
      let fs : List Record = map (placed_record base) (take n ks) in
      let bs : List Record = map (placed_record base) (drop n ks) in
      ap (λ (l : List Relative). filter (λ (r : Record). is_within from to r.pos) (map (placed_record base) l)) rest_is
      ∙ sym (ap (filter t) (sym (ap (map (placed_record base)) (take-append-drop n ks)) ∙ map-append (placed_record base) (take n ks) (drop n ks))
      ∙ filter-append t fs bs
      ∙ ap (λ (l : List Record). l ++ filter t bs)
      (filter_skips t fs (not_from from to fs (Each-map (λ r. is_before r.pos from ≡ true) (placed_record base) (take n ks)
      (point_front (λ k. is_before (further base k.by) from) ks n front)))))

  pub rest_each : (P : Record → Type 0) → ForEach P (map (placed_record base) ks) → ForEach P (map (placed_record base) rest)
  rest_each P each =
      subst (λ (l : List Relative). ForEach P (map (placed_record base) l)) (sym rest_is)
      (Each-map P (placed_record base) (drop n ks) (Each-drop (λ k. P (placed_record base k)) n ks (Each-unmap P (placed_record base) ks each)))

pub is_inside : (from to p : Pos) → is_before p from ≡ false → is_before to p ≡ false → is_within from to p ≡ true
is_inside from to p after before = grind (arith, nat_tests)

-- behind a record that stands behind a place none is within
later_too : (to p q : Pos) → is_before q p ≡ false → is_before to p ≡ true → is_before to q ≡ true
later_too to p q later before = grind (arith, nat_tests)

pub behind_too : (to base : Pos) (ks : List Relative) (i : ℕ) (d : Relative) → i < length ks → Sort (map (placed_record base) ks)
    → is_before to (further base (get_or ks i d).by) ≡ true → ForEach (λ r. is_before to r.pos ≡ true) (map (placed_record base) (drop i ks))
behind_too to base ks i d within up behind =
    let k : Relative = get_or ks i d in
    let next : drop i ks ≡ k ∷ drop (i + 1) ks = drop_more ks i d within in
    let rises : Sort (placed_record base k ∷ map (placed_record base) (drop (i + 1) ks)) =
    subst (λ (l : List Relative). Sort (map (placed_record base) l)) next (Sort-rest base ks (drop i ks) i refl up) in
    subst (λ (l : List Relative). ForEach (λ r. is_before to r.pos ≡ true) (map (placed_record base) l)) (sym next) (
      behind,
      Each-weaker (λ r. precedes r (placed_record base k) ≡ false) (λ r. is_before to r.pos ≡ true)
          (λ r later. later_too to (further base k.by) r.pos (follows r (placed_record base k) later) behind) (map (placed_record base) (drop (i + 1) ks)) rises.0,
    )

pub none_within_behind : (from to base : Pos) (ks : List Relative) (i : ℕ) → ForEach (λ r. is_before to r.pos ≡ true) (map (placed_record base) (drop i ks))
    → filter (λ r. is_within from to r.pos) (map (placed_record base) ks) ≡ filter (λ r. is_within from to r.pos) (map (placed_record base) (take i ks))
none_within_behind from to base ks i behind =
    let t : Record → Bool = λ r. is_within from to r.pos in
    let fs : List Record = map (placed_record base) (take i ks) in
    let bs : List Record = map (placed_record base) (drop i ks) in
    ap (filter t) (sym (ap (map (placed_record base)) (take-append-drop i ks)) ∙ map-append (placed_record base) (take i ks) (drop i ks))
    ∙ filter-append t fs bs
    ∙ ap (λ (l : List Record). filter t fs ++ l) (filter_skips t bs (not_to from to bs behind))
    ∙ append-nil (filter t fs)

pub part_each : (P : Record → Type 0) (base : Pos) (ks rest lent : List Relative) (n m : ℕ) → rest ≡ drop n ks → lent ≡ take m rest
    → ForEach P (map (placed_record base) ks) → ForEach P (map (placed_record base) lent)
part_each P base ks rest lent n m rest_is lent_is each =
    subst (λ (l : List Relative). ForEach P (map (placed_record base) l)) (sym (lent_is ∙ ap (take m) rest_is))
    (Each-map P (placed_record base) (take m (drop n ks))
    (Each-take (λ k. P (placed_record base k)) m (drop n ks) (Each-drop (λ k. P (placed_record base k)) n ks (Each-unmap P (placed_record base) ks each))))

-- each chunk's records are in order
pub each_sorted : (ps : List Piece) → Sort (spread_records ps) → ForEach (λ p. Sort (records_of p)) ps
each_sorted [] up = tt
each_sorted (p ∷ ps) up =
    (Rises-left precedes (records_of p) (spread_records ps) up, each_sorted ps (Rises-right precedes (records_of p) (spread_records ps) up))

-- ---- a record put behind the first of a chunk, or taken out behind it
kept_back : (base : Pos) (k : Relative) → kept_from base (placed_record base k) ≡ k
kept_back base k =
    let rows : (reach base (further base k.by)).rows ≡ k.by.rows = grind (arith, nat_tests) in
    let cols : (reach base (further base k.by)).cols ≡ k.by.cols = grind (arith, nat_tests) in
    λ i. record { by = record { rows = rows i; cols = cols i }; info = k.info }

all_back : (base : Pos) (ks : List Relative) → map (kept_from base) (map (placed_record base) ks) ≡ ks
all_back base [] = refl
all_back base (k ∷ ks) =
    ap (λ (x : Relative). x ∷ map (kept_from base) (map (placed_record base) ks)) (kept_back base k) ∙ ap (λ (l : List Relative). k ∷ l) (all_back base ks)

-- ... kept behind the first place of a text, where they are kept so
pub start_back : (base : Pos) (ks : List Relative) → base.row ≡ 0 → base.col ≡ 0 → ks ≡ map (rebased_from base) ks
start_back base ks row col = sym (ap (λ (p : Pos). map (rebased_from p) ks) is ∙ each ks)
  where
    is : base ≡ text_start
    is = λ i. record { row = row i; col = col i }

    each : (ls : List Relative) → map (rebased_from text_start) ls ≡ ls
    each [] = refl
    each (k ∷ ls) = ap (λ (x : Relative). x ∷ map (rebased_from text_start) ls) (kept_back text_start k) ∙ ap (λ (l : List Relative). k ∷ l) (each ls)

pub front_back : (base : Pos) (ks : List Relative) (n : ℕ) → map (kept_from base) (take n (map (placed_record base) ks)) ≡ take n ks
front_back base ks n = ap (map (kept_from base)) (take-map (placed_record base) n ks) ∙ all_back base (take n ks)

pub rest_back : (base : Pos) (ks : List Relative) (n : ℕ) → map (kept_from base) (drop n (map (placed_record base) ks)) ≡ drop n ks
rest_back base ks n = ap (map (kept_from base)) (drop-map (placed_record base) n ks) ∙ all_back base (drop n ks)

insert_back : (base : Pos) (ks : List Relative) (n : ℕ) (r : Record)
    → insert ks n (kept_from base r) ≡ map (kept_from base) (insert (map (placed_record base) ks) n r)
insert_back base ks n r =
    sym (map-append (kept_from base) (take n (map (placed_record base) ks)) (r ∷ drop n (map (placed_record base) ks))
    ∙ ap (λ (l : List Relative). l ++ kept_from base r ∷ map (kept_from base) (drop n (map (placed_record base) ks))) (front_back base ks n)
    ∙ ap (λ (l : List Relative). take n ks ++ kept_from base r ∷ l) (rest_back base ks n))

remove_back : (base : Pos) (ks : List Relative) (n : ℕ) → remove ks n ≡ map (kept_from base) (remove (map (placed_record base) ks) n)
remove_back base ks n =
    sym (map-append (kept_from base) (take n (map (placed_record base) ks)) (drop (suc n) (map (placed_record base) ks))
    ∙ ap (λ (l : List Relative). l ++ map (kept_from base) (drop (suc n) (map (placed_record base) ks))) (front_back base ks n)
    ∙ ap (λ (l : List Relative). take n ks ++ l) (rest_back base ks (suc n)))

-- what is behind the first record doesn't change the base
base_inserted : (rs : List Record) (n : ℕ) (r : Record) → 0 < n → 0 < length rs → base_of (insert rs n r) ≡ base_of rs
base_inserted [] n r later some = absurd (omega arith)
base_inserted (x ∷ xs) zero r later some = absurd (omega arith)
base_inserted (x ∷ xs) (suc n) r later some = refl

base_removed : (rs : List Record) (n : ℕ) → 0 < n → base_of (remove rs n) ≡ base_of rs
base_removed rs zero later = absurd (omega arith)
base_removed [] (suc n) later = refl
base_removed (x ∷ xs) (suc n) later = refl

pub refilled_as : (base : Pos) (ks : List Relative) (p : Piece) (rs : List Record) → ks ≡ map (kept_from base) rs → base_of rs ≡ base
    → (let q : Piece = record { base = base; kept = ks; room = p.room } in q) ≡ refilled_piece rs p
refilled_as base ks p rs kept_is base_is =
    ap (λ (l : List Relative). let q : Piece = record { base = base; kept = l; room = p.room } in q) kept_is
    ∙ sym (ap (λ (b : Pos). let q : Piece = record { base = b; kept = map (kept_from b) rs; room = p.room } in q) base_is)

inserted_is : (n : ℕ) (r : Record) (p : Piece) → IsBased p → 0 < n → 0 < length p.kept → with_inserted n r p ≡ refilled_piece (insert (records_of p) n r) p
inserted_is n r p based later some =
    refilled_as p.base (insert p.kept n (kept_from p.base r)) p (insert (records_of p) n r) (insert_back p.base p.kept n r)
    (base_inserted (records_of p) n r later (omega (arith, length-records p)) ∙ based)

removed_is : (n : ℕ) (p : Piece) → IsBased p → 0 < n → with_removed n p ≡ refilled_piece (remove (records_of p) n) p
removed_is n p based later =
    refilled_as p.base (remove p.kept n) p (remove (records_of p) n) (remove_back p.base p.kept n) (base_removed (records_of p) n later ∙ based)

-- one change of a chunk in the place of another
pub edited_as : (n : ℕ) (f g : Piece → Piece) (ps : List Piece) → n < length ps → f (get_or ps n no_piece) ≡ g (get_or ps n no_piece)
    → pieces_edited_at n f ps ≡ pieces_edited_at n g ps
edited_as n f g [] within same = absurd (omega arith)
edited_as zero f g (p ∷ ps) within same = ap (λ (x : Piece). x ∷ ps) same
edited_as (suc n) f g (p ∷ ps) within same = ap (λ (l : List Piece). p ∷ l) (edited_as n f g ps (omega arith) same)

-- a chunk as it is lent
pub lent_piece : (ps : List Piece) (n : ℕ) (p : Piece) → n < length ps → p ≡ get_or ps n p → p ≡ get_or ps n no_piece
lent_piece ps n p within is = is ∙ get_or_default ps n p no_piece within

both_true : (b c : Bool) → b && c ≡ true → (b ≡ true) × (c ≡ true)
both_true true true is = (refl, refl)
both_true true false is = absurd (cc)
both_true false c is = absurd (cc)

pub has_room : (r : Record) (p : Piece) → has_place r p ≡ true → length p.kept < 64
has_room r p has = grind (arith, nat_tests, (both_true (ltb (length p.kept) 64) (starts_before r p) has).0)

-- where a record goes behind the first of a chunk
behind_first : (r : Record) (base : Pos) (ks : List Relative) (n : ℕ) → base_of (map (placed_record base) ks) ≡ base → starts_before r (record { base = base; kept = ks; room = 0 }) ≡ true
    → IsPartitionPoint (λ q. precedes q r ≡ true) (λ q. precedes q r ≡ false) (map (placed_record base) ks) n → (0 < n) × (0 < length ks)
behind_first r base [] n based starts point = absurd (cc)
behind_first r base (k ∷ ks) (suc n) based starts point = (omega arith, omega arith)
behind_first r base (k ∷ ks) zero based starts point =
    let first : precedes (placed_record base k) r ≡ true = ap (λ (p : Pos). precedes (record { pos = p; info = k.info }) r) based ∙ starts in
    absurd (both_ways (precedes (placed_record base k) r) (point.1 0 (placed_record base k) (omega arith) (omega arith)) first)

-- the place that was found among the kept records is that among the records
pub point_placed : (base : Pos) (r : Record) (ks : List Relative) (n : ℕ) → n ≤ length ks
    → IsPartitionPoint (λ k. precedes (placed_record base k) r ≡ true) (λ k. precedes (placed_record base k) r ≡ false) ks n
    → IsPartitionPoint (λ q. precedes q r ≡ true) (λ q. precedes q r ≡ false) (map (placed_record base) ks) n
point_placed base r ks n within point = (
  λ k d low high. subst (λ (q : Record). precedes q r ≡ true) (sym (get_or-map (placed_record base) ks k no_kept d (omega arith))) (point.0 k no_kept low high),
  λ k d low high.
      let fits : k < length ks = omega (arith, length-map ks (placed_record base)) in
      subst (λ (q : Record). precedes q r ≡ false) (sym (get_or-map (placed_record base) ks k no_kept d fits)) (point.1 k no_kept low fits),
)
  where
    no_kept : Relative
    no_kept = record { by = record { rows = 0; cols = 0 }; info = record { ns = 0; id = 0; right = false; is_end = false; has_end = false; paint = None; priority = 0; restore = false; invalidate = false; hidden = false; set = 0 } }

pub put_in_place : (ps qs : List Piece) (n i : ℕ) (r : Record) → IsLaid ps → n < length ps → has_place r (get_or ps n no_piece) ≡ true
    → ForEach (λ x. precedes r x ≡ false) (held_records 0 n ps) → ForEach (λ x. precedes x r ≡ false) (spread_records (drop (n + 1) ps)) → IsNarrow r.pos
    → i ≤ length (get_or ps n no_piece).kept
    → IsPartitionPoint (λ q. precedes q r ≡ true) (λ q. precedes q r ≡ false) (records_of (get_or ps n no_piece)) i
    → qs ≡ pieces_edited_at n (with_inserted i r) ps → IsLaid qs × IsPermutation (r ∷ spread_records ps) (spread_records qs)
put_in_place ps qs n i r laid within has front behind narrow fits point put =
    let p : Piece = get_or ps n no_piece in
    let rs : List Record = insert (records_of p) i r in
    let held : held_records n 1 ps ≡ records_of p = held_one ps n no_piece within in
    let based : IsBased p = Each-get_or IsBased ps n no_piece within laid.based in
    let own_up : Sort (records_of p) = subst (λ (l : List Record). Sort l) held (held_up ps n laid within) in
    let some = behind_first r p.base p.kept i based (both_true (ltb (length p.kept) 64) (starts_before r p) has).1 point in
    let len : length rs ≡ length (records_of p) + 1 = length-insert (records_of p) i r (omega (arith, length-records p)) in
    let same : IsPermutation (r ∷ held_records n 1 ps) rs =
    subst (λ (l : List Record). IsPermutation (r ∷ l) rs) (sym held) (IsPermutation-insert (records_of p) i r) in
    let up : Sort rs =
    Rises-from_sorted precedes record_ranks rs
    (IsSortedBy-insert precedes record_ranks (records_of p) i r (sorted_from_rises precedes (records_of p) own_up) (omega (arith, length-records p)) point) in
    let now : qs ≡ pieces_edited_at n (refilled_piece rs) ps = put ∙ edited_as n (with_inserted i r) (refilled_piece rs) ps within (inserted_is i r p based some.0 some.1) in
    let rewritten =
    rewritten_one ps qs n rs laid within (omega (arith, len, ap length held)) (omega (arith, len, length-records p, has_room r p has))
    (order_with ps n r rs laid within front behind same up) (narrow_with ps n r rs laid within front behind same up narrow) now in
    (rewritten.0, same_with ps n r rs laid within front behind same up qs rewritten.1)

pub taken_in_place : (ps qs : List Piece) (n i : ℕ) (x : Record) → IsLaid ps → n < length ps → 0 < i → i < length (held_records n 1 ps)
    → ((m : ℕ) → m + 1 ≡ n → 33 < length (held_records m 2 ps)) → (n + 1 < length ps → 33 < length (held_records n 2 ps))
    → x ≡ get_or (held_records n 1 ps) i x → qs ≡ pieces_edited_at n (with_removed i) ps → IsLaid qs × IsPermutation (spread_records ps) (x ∷ spread_records qs)
taken_in_place ps qs n i x laid within later fits before behind is put =
    let p : Piece = get_or ps n no_piece in
    let held : held_records n 1 ps ≡ records_of p = held_one ps n no_piece within in
    let rs : List Record = remove (held_records n 1 ps) i in
    let based : IsBased p = Each-get_or IsBased ps n no_piece within laid.based in
    let len : length rs + 1 ≡ length (held_records n 1 ps) = length_without (held_records n 1 ps) i fits in
    let now : qs ≡ pieces_edited_at n (refilled_piece rs) ps =
    put ∙ edited_as n (with_removed i) (refilled_piece rs) ps within
    (removed_is i p based later ∙ ap (λ (l : List Record). refilled_piece (remove l i) p) (sym held)) in
    let left =
    shrunk ps qs n rs laid within (sym len) (omega (arith, len)) (order_without ps n 1 i laid.in_order) (narrow_without ps n 1 i laid.narrow) before behind now in
    (left.0, left_over ps qs n 1 i x fits is left.1)

-- ---- the same with the chunk as it is lent
pub own_sorted : (ps : List Piece) (n : ℕ) (p : Piece) → IsLaid ps → n < length ps → p ≡ get_or ps n p → Sort (records_of p)
own_sorted ps n p laid within is =
    subst (λ (q : Piece). Sort (records_of q)) (sym is) (subst (λ (l : List Record). Sort l) (held_one ps n p within) (held_up ps n laid within))

pub own_narrow : (ps : List Piece) (n : ℕ) (p : Piece) → IsLaid ps → n < length ps → p ≡ get_or ps n p → ForEach (λ r. IsNarrow r.pos) (records_of p)
own_narrow ps n p laid within is =
    subst (λ (q : Piece). ForEach (λ (r : Record). IsNarrow r.pos) (records_of q)) (sym is)
    (subst (λ (l : List Record). ForEach (λ (r : Record). IsNarrow r.pos) l) (held_one ps n p within) (held_each (λ r. IsNarrow r.pos) ps n within laid.narrow))

pub own_fits : (ps : List Piece) (n i : ℕ) (p : Piece) → n < length ps → p ≡ get_or ps n p → i < length (held_records n 1 ps) → i < length p.kept
own_fits ps n i p within is fits = omega (arith, ap length (held_one ps n p within ∙ ap records_of (sym is)), length-records p)

its_piece : (P : Piece → Type 0) (ps : List Piece) (n : ℕ) → n < length ps → ForEach P (take 1 (drop n ps)) → P (get_or ps n no_piece)
its_piece P ps n within each = (subst (λ (l : List Piece). ForEach P (take 1 l)) (drop_more ps n no_piece within) each).0

pub put_lent : (ps : List Piece) (n i : ℕ) (r : Record) (p q w : Piece) → IsLaid ps → n < length ps → ForEach (λ x. has_place r x ≡ true) (take 1 (drop n ps))
    → ForEach (λ x. precedes r x ≡ false) (held_records 0 n ps) → ForEach (λ x. precedes x r ≡ false) (spread_records (drop (n + 1) ps)) → IsNarrow r.pos
    → p ≡ get_or ps n p → i ≤ length p.kept → IsPartitionPoint (λ x. precedes x r ≡ true) (λ x. precedes x r ≡ false) (records_of p) i
    → q ≡ get_or ps n q → w ≡ with_inserted i r q → IsLaid (set ps n w) × IsPermutation (r ∷ spread_records ps) (spread_records (set ps n w))
put_lent ps n i r p q w laid within has front behind narrow lent fits point here is =
    let same : p ≡ get_or ps n no_piece = lent_piece ps n p within lent in
    put_in_place ps (set ps n w) n i r laid within (its_piece (λ x. has_place r x ≡ true) ps n within has) front behind narrow
    (subst (λ (x : Piece). i ≤ length x.kept) same fits)
    (subst (λ (x : Piece). IsPartitionPoint (λ y. precedes y r ≡ true) (λ y. precedes y r ≡ false) (records_of x) i) same point)
    (put_is n (with_inserted i r) ps q w within here is)

pub taken_lent : (ps : List Piece) (n i : ℕ) (x : Record) (q w : Piece) → IsLaid ps → n < length ps → 0 < i → i < length (held_records n 1 ps)
    → ((m : ℕ) → m + 1 ≡ n → 33 < length (held_records m 2 ps)) → (n + 1 < length ps → 33 < length (held_records n 2 ps))
    → x ≡ get_or (held_records n 1 ps) i x → q ≡ get_or ps n q → w ≡ with_removed i q
    → IsLaid (set ps n w) × IsPermutation (spread_records ps) (x ∷ spread_records (set ps n w))
taken_lent ps n i x q w laid within later fits before behind taken here is =
    taken_in_place ps (set ps n w) n i x laid within later fits before behind taken (put_is n (with_removed i) ps q w within here is)

-- a record of a chunk as it is lent
pub record_lent : (ps : List Piece) (n i : ℕ) (x : Record) (p : Piece) → n < length ps → p ≡ get_or ps n p → x ≡ get_or (records_of p) i x
    → x ≡ get_or (held_records n 1 ps) i x
record_lent ps n i x p within lent is = is ∙ ap (λ (l : List Record). get_or l i x) (ap records_of lent ∙ sym (held_one ps n p within))
