-- A splice over chunks: which chunks it writes, that they stay laid, and how many steps it takes.
use Rattle.std.proofs.Common.{◌≡◌, ◌≤◌, ◌<◌, ◌+◌, ◌-◌, ◌*◌, ◌/◌, List, [], ◌∷◌, ◌++◌, ℕ, zero, suc, refl, ap, sym, ◌∙◌, append_assoc, length, length-append, take, drop, get_or, map, max, not, cond, arith, Bool, true, false, subst, inl, inr, None, leb}
use Rattle.std.specs.Prelude.{IsPermutation}
use Rattle.std.specs.List.Sorted.{IsPartitionedBy}
use Rattle.std.proofs.lemmas.Bool.{cases_lt, both_ways}
use Rattle.std.proofs.lemmas.Bool.Decides.{nat_tests}
use Rattle.std.proofs.lemmas.List.{length-take-le, length-drop, length-map, take-append-drop, map-append, drop-drop, drop-take, drop_at, get_or_default}
use Rattle.std.proofs.lemmas.List.Sorted.{IsPermutation-append_left, IsPermutation-append_right, length_permutation}
use Rattle.nv_places.specs.declared.place.Pos.{Pos}
use Rattle.nv_places.specs.declared.place.Extent.{Extent}
use Rattle.nv_places.specs.Places.{IsNarrow, further, is_before}
use Rattle.nv_places.specs.Moves.{moved_place}
use Rattle.nv_marks.specs.Order.{is_within}
use Rattle.nv_marks.specs.Cost.{count_within}
use Rattle.nv_marks.specs.declared.record.Record.{Record}
use Rattle.nv_marks.specs.declared.record.Relative.{Relative}
use Rattle.nv_marks.specs.inside.Records.{ForEach, Sort, place, precedes, moved_record, MovesInRange}
use Rattle.nv_marks.specs.inside.Chunks.{Piece, IsTouched, placed_record, records_of, spread_records, base_of, IsFit, IsBased, Ample, IsLaid, starts_before, refilled_pieces, refit_pieces, carried_piece, pieces_carried_from}
use Rattle.nv_marks.proofs.EachLemmas.{each_from, Each-append, Each-left, Each-right, Each-weaker, Each-map, Each-permutation, Each-take, Each-drop, Rises-left, Rises-right, Rises-cross}
use Rattle.nv_marks.proofs.PlacesLemmas.{follows, at_least, moved-before, moved-behind, record_ranks}
use Rattle.nv_marks.proofs.SpreadLemmas.{spread-append, length-records, from_base, spread_carried, all_carried_based, behind_all, refit_parts, carried_parts, spread_refilled, refills_based, sizes, rooms, fit_same, ample_same, sizes_refilled, rooms_refilled, sizes_carried, rooms_carried, in_order_again}

-- ---- the first records of chunks
abbrev pub heads : Pos → List Relative → Record → Record
heads base [] d = d
heads base (k ∷ ks) d = record { pos = base; info = k.info }

head_fact : (P : Record → Type 0) (base : Pos) (ks : List Relative) → 0 < length ks → base_of (map (placed_record base) ks) ≡ base
    → ForEach P (map (placed_record base) ks) → (d : Record) → P (heads base ks d)
head_fact P base [] some is each d = absurd (omega arith)
head_fact P base (k ∷ ks) some is each d =
    subst (λ (p : Pos). P (record { pos = p; info = k.info })) is each.0

later_heads : (x : Record) (ps : List Piece) → ForEach IsFit ps → ForEach IsBased ps → ForEach (λ y. precedes y x ≡ false) (spread_records ps)
    → ForEach (λ q. (d : Record) → precedes (heads q.base q.kept d) x ≡ false) ps
later_heads x [] fit based each = tt
later_heads x (q ∷ qs) fit based each = (
  head_fact (λ y. precedes y x ≡ false) q.base q.kept fit.0.some based.0 (Each-left (λ y. precedes y x ≡ false) (records_of q) (spread_records qs) each),
  later_heads x qs fit.1 based.1 (Each-right (λ y. precedes y x ≡ false) (records_of q) (spread_records qs) each),
)

-- the first record of a chunk comes before those of later chunks
heads_rise : (p : Piece) (ps : List Piece) → ForEach IsFit (p ∷ ps) → ForEach IsBased (p ∷ ps) → Sort (spread_records (p ∷ ps))
    → ForEach (λ q. (d : Record) → precedes (heads q.base q.kept d) (heads p.base p.kept d) ≡ false) ps
heads_rise p ps fit based up =
    Each-weaker (λ q. (d e : Record) → precedes (heads q.base q.kept d) (heads p.base p.kept e) ≡ false)
    (λ q. (d : Record) → precedes (heads q.base q.kept d) (heads p.base p.kept d) ≡ false) (λ q all d. all d d) ps
    (both ps fit.1 based.1 (head_fact (λ x. ForEach (λ y. precedes y x ≡ false) (spread_records ps)) p.base p.kept fit.0.some based.0
    (Rises-cross precedes (records_of p) (spread_records ps) up)))
  where
    both : (qs : List Piece) → ForEach IsFit qs → ForEach IsBased qs → ((e : Record) → ForEach (λ y. precedes y (heads p.base p.kept e) ≡ false) (spread_records qs))
        → ForEach (λ q. (d e : Record) → precedes (heads q.base q.kept d) (heads p.base p.kept e) ≡ false) qs
    both [] fit based each = tt
    both (q ∷ qs) fit based each = (
      λ d e. head_fact (λ y. precedes y (heads p.base p.kept e) ≡ false) q.base q.kept fit.0.some based.0
          (Each-left (λ y. precedes y (heads p.base p.kept e) ≡ false) (records_of q) (spread_records qs) (each e)) d,
      both qs fit.1 based.1 (λ e. Each-right (λ y. precedes y (heads p.base p.kept e) ≡ false) (records_of q) (spread_records qs) (each e)),
    )

-- a test that, passed by a chunk, is passed by earlier ones
module _ (t : Piece → Bool)
    (down : (p q : Piece) → IsFit p → IsFit q → ((d : Record) → precedes (heads q.base q.kept d) (heads p.base p.kept d) ≡ false) → t q ≡ true → t p ≡ true) where
  pub parts_by : (ps : List Piece) → ForEach IsFit ps → ForEach IsBased ps → Sort (spread_records ps) → IsPartitionedBy t ps
  parts_by [] fit based up i j d in_order within passes = absurd (omega arith)
  parts_by (p ∷ ps) fit based up zero zero d in_order within passes = passes
  parts_by (p ∷ ps) fit based up zero (suc j) d in_order within passes = first ps fit.1 (heads_rise p ps fit based up) j d (omega arith) passes
    where
      first : (qs : List Piece) → ForEach IsFit qs → ForEach (λ q. (d : Record) → precedes (heads q.base q.kept d) (heads p.base p.kept d) ≡ false) qs
          → (j : ℕ) (d : Piece) → j < length qs → t (get_or qs j d) ≡ true → t p ≡ true
      first [] fits rise j d within passes = absurd (omega arith)
      first (q ∷ qs) fits rise zero d within passes = down p q fit.0 fits.0 rise.0 passes
      first (q ∷ qs) fits rise (suc j) d within passes = first qs fits.1 rise.1 j d (omega arith) passes
  parts_by (p ∷ ps) fit based up (suc i) zero d in_order within passes = absurd (omega arith)
  parts_by (p ∷ ps) fit based up (suc i) (suc j) d in_order within passes =
      parts_by ps fit.1 based.1 (Rises-right precedes (records_of p) (spread_records ps) up) i j d (omega arith) (omega arith) passes

-- what the heads say of the bases
base_rises : (b b' : Pos) (ks ks' : List Relative) (d : Record) → 0 < length ks → 0 < length ks'
    → precedes (heads b' ks' d) (heads b ks d) ≡ false → is_before b' b ≡ false
base_rises b b' [] ks' d some some' not_before = absurd (omega arith)
base_rises b b' (k ∷ ks) [] d some some' not_before = absurd (omega arith)
base_rises b b' (k ∷ ks) (k' ∷ ks') d some some' not_before =
    follows (record { pos = b'; info = k'.info }) (record { pos = b; info = k.info }) not_before

default_record : Record
default_record = record { pos = record { row = 0; col = 0 }; info = record { ns = 0; id = 0; right = false; is_end = false; has_end = false; paint = None; priority = 0; restore = false; invalidate = false; hidden = false; set = 0 } }

pub parts_before : (at : Pos) (ps : List Piece) → IsLaid ps → IsPartitionedBy (λ p. is_before p.base at) ps
parts_before at ps laid = parts_by (λ p. is_before p.base at) down ps laid.fit laid.based laid.in_order
  where
    earlier_too : (b b' : Pos) → is_before b' b ≡ false → is_before b' at ≡ true → is_before b at ≡ true
    earlier_too b b' later before = grind (arith, nat_tests)

    down : (p q : Piece) → IsFit p → IsFit q → ((d : Record) → precedes (heads q.base q.kept d) (heads p.base p.kept d) ≡ false)
        → is_before q.base at ≡ true → is_before p.base at ≡ true
    down p q fit_p fit_q rise before =
        earlier_too p.base q.base (base_rises p.base q.base p.kept q.kept default_record fit_p.some fit_q.some (rise default_record)) before

pub parts_up_to : (at : Pos) (ps : List Piece) → IsLaid ps → IsPartitionedBy (λ p. not (is_before at p.base)) ps
parts_up_to at ps laid = parts_by (λ p. not (is_before at p.base)) down ps laid.fit laid.based laid.in_order
  where
    earlier_too : (b b' : Pos) → is_before b' b ≡ false → not (is_before at b') ≡ true → not (is_before at b) ≡ true
    earlier_too b b' later before = grind (arith, nat_tests)

    down : (p q : Piece) → IsFit p → IsFit q → ((d : Record) → precedes (heads q.base q.kept d) (heads p.base p.kept d) ≡ false)
        → not (is_before at q.base) ≡ true → not (is_before at p.base) ≡ true
    down p q fit_p fit_q rise before =
        earlier_too p.base q.base (base_rises p.base q.base p.kept q.kept default_record fit_p.some fit_q.some (rise default_record)) before

-- where a chunk begins behind a place, the later ones do too
pub later_behind : (at : Pos) (ps : List Piece) (n : ℕ) (p : Piece) → IsLaid ps → n < length ps → p ≡ get_or ps n p → is_before at p.base ≡ true
    → ForEach (λ q. is_before at q.base ≡ true) (drop n ps)
later_behind at ps n p laid within here behind =
    each_from (λ q. is_before at q.base ≡ true) ps n (λ k d low high. by_case k low high (is_before at (get_or ps k d).base) d refl)
  where
    by_case : (k : ℕ) → n ≤ k → k < length ps → (b : Bool) (d : Piece) → is_before at (get_or ps k d).base ≡ b → is_before at (get_or ps k d).base ≡ true
    by_case k low high true d is = is
    by_case k low high false d is =
        let before : not (is_before at (get_or ps n d).base) ≡ true = parts_up_to at ps laid n k d low high (ap not is) in
        let after : is_before at (get_or ps n d).base ≡ true =
        subst (λ (q : Piece). is_before at q.base ≡ true) (here ∙ get_or_default ps n p d within) behind in
        absurd (both_ways (not (is_before at (get_or ps n d).base)) (ap not after) before)

pub parts_to_row : (row : ℕ) (ps : List Piece) → IsLaid ps → IsPartitionedBy (λ p. leb p.base.row row) ps
parts_to_row row ps laid = parts_by (λ p. leb p.base.row row) down ps laid.fit laid.based laid.in_order
  where
    earlier_too : (b b' : Pos) → is_before b' b ≡ false → leb b'.row row ≡ true → leb b.row row ≡ true
    earlier_too b b' later before = grind (arith, nat_tests)

    down : (p q : Piece) → IsFit p → IsFit q → ((d : Record) → precedes (heads q.base q.kept d) (heads p.base p.kept d) ≡ false)
        → leb q.base.row row ≡ true → leb p.base.row row ≡ true
    down p q fit_p fit_q rise before =
        earlier_too p.base q.base (base_rises p.base q.base p.kept q.kept default_record fit_p.some fit_q.some (rise default_record)) before

starts_at : (r : Record) (p : Piece) (d : Record) → 0 < length p.kept → starts_before r p ≡ precedes (heads p.base p.kept d) r
starts_at r p d some = by_kept p.kept some
  where
    by_kept : (ks : List Relative) → 0 < length ks → starts_before r (record p { kept = ks }) ≡ precedes (heads p.base ks d) r
    by_kept [] some = absurd (omega arith)
    by_kept (k ∷ ks) some = refl

pub parts_below : (r : Record) (ps : List Piece) → IsLaid ps → IsPartitionedBy (λ p. starts_before r p) ps
parts_below r ps laid = parts_by (λ p. starts_before r p) down ps laid.fit laid.based laid.in_order
  where
    down : (p q : Piece) → IsFit p → IsFit q → ((d : Record) → precedes (heads q.base q.kept d) (heads p.base p.kept d) ≡ false)
        → starts_before r q ≡ true → starts_before r p ≡ true
    down p q fit_p fit_q rise before =
        starts_at r p default_record fit_p.some
        ∙ by_case (precedes (heads p.base p.kept default_record) r) refl
      where
        by_case : (t : Bool) → precedes (heads p.base p.kept default_record) r ≡ t → precedes (heads p.base p.kept default_record) r ≡ true
        by_case true is = is
        by_case false is =
            absurd (both_ways (precedes (heads q.base q.kept default_record) r)
            (record_ranks.chain (heads q.base q.kept default_record) (heads p.base p.kept default_record) r (rise default_record) is)
            (sym (starts_at r q default_record fit_q.some) ∙ before))

-- ---- which records lie where
next_base : (base : Pos) (ks : List Relative) (rest : List Record) (x : Record) → 0 < length ks → base_of (map (placed_record base) ks) ≡ base
    → ForEach (λ y. precedes y x ≡ false) (map (placed_record base) ks ++ rest) → is_before base x.pos ≡ false
next_base base [] rest x some is each = absurd (omega arith)
next_base base (k ∷ ks) rest x some is each =
    subst (λ (p : Pos). is_before p x.pos ≡ false) is (follows (placed_record base k) x each.0)

-- no record of a chunk lies behind the base of the next one
up_to_next : (p q : Piece) (qs : List Piece) → IsFit q → IsBased q → Sort (spread_records (p ∷ q ∷ qs))
    → ForEach (λ x. is_before q.base x.pos ≡ false) (records_of p)
up_to_next p q qs fit based up =
    Each-weaker (λ x. ForEach (λ y. precedes y x ≡ false) (records_of q ++ spread_records qs)) (λ x. is_before q.base x.pos ≡ false)
    (λ x each. next_base q.base q.kept (spread_records qs) x fit.some based each) (records_of p)
    (Rises-cross precedes (records_of p) (records_of q ++ spread_records qs) up)

-- no record of a chunk lies before its base
from_own : (p : Piece) (ps : List Piece) → IsBased p → Sort (spread_records (p ∷ ps)) → ForEach (λ x. is_before x.pos p.base ≡ false) (records_of p)
from_own p ps based up =
    subst (λ (b : Pos). ForEach (λ x. is_before x.pos b ≡ false) (records_of p)) based
    (from_base (records_of p) (Rises-left precedes (records_of p) (spread_records ps) up))

front_of : (start : Pos) (ps : List Piece) (n : ℕ) → suc n ≤ length ps → ForEach IsFit ps → ForEach IsBased ps → Sort (spread_records ps)
    → ForEach (λ p. is_before p.base start ≡ true) (take (suc n) ps) → ForEach (λ r. is_before r.pos start ≡ true) (spread_records (take n ps))
front_of start ps zero within fit based up before = tt
front_of start [] (suc n) within fit based up before = absurd (omega arith)
front_of start (p ∷ []) (suc n) within fit based up before = absurd (omega arith)
front_of start (p ∷ q ∷ qs) (suc n) within fit based up before =
    Each-append (λ r. is_before r.pos start ≡ true) (records_of p) (spread_records (take n (q ∷ qs)))
    (Each-weaker (λ x. is_before q.base x.pos ≡ false) (λ x. is_before x.pos start ≡ true) (λ x upto. up_to q.base x.pos upto before.1.0) (records_of p)
    (up_to_next p q qs fit.1.0 based.1.0 up))
    (front_of start (q ∷ qs) n (omega arith) fit.1 based.1 (Rises-right precedes (records_of p) (spread_records (q ∷ qs)) up) before.1)
  where
    up_to : (b x : Pos) → is_before b x ≡ false → is_before b start ≡ true → is_before x start ≡ true
    up_to b x upto before = grind (arith, nat_tests)

pub front_before : (start : Pos) (ps : List Piece) (n : ℕ) → n ≤ length ps → IsLaid ps
    → ForEach (λ p. is_before p.base start ≡ true) (take n ps) → ForEach (λ r. is_before r.pos start ≡ true) (spread_records (take (n - 1) ps))
front_before start ps zero within laid before = tt
front_before start ps (suc n) within laid before =
    let less : suc n - 1 ≡ n = omega arith in
    subst (λ (k : ℕ). ForEach (λ r. is_before r.pos start ≡ true) (spread_records (take k ps))) (sym less)
    (front_of start ps n within laid.fit laid.based laid.in_order before)

-- ---- how many records lie within
pub count-append : (from to : Pos) (xs ys : List Pos) → count_within from to (xs ++ ys) ≡ count_within from to xs + count_within from to ys
count-append from to [] ys = omega arith
count-append from to (x ∷ xs) ys = by_case (is_within from to x) (count-append from to xs ys)
  where
    by_case : (b : Bool) → count_within from to (xs ++ ys) ≡ count_within from to xs + count_within from to ys
        → cond b (suc (count_within from to (xs ++ ys))) (count_within from to (xs ++ ys))
        ≡ cond b (suc (count_within from to xs)) (count_within from to xs) + count_within from to ys
    by_case true rest = omega arith
    by_case false rest = rest

count_of : (from to : Pos) (rs qs : List Record)
    → count_within from to (map place (rs ++ qs)) ≡ count_within from to (map place rs) + count_within from to (map place qs)
count_of from to rs qs =
    ap (λ (l : List Pos). count_within from to l) (map-append place rs qs) ∙ count-append from to (map place rs) (map place qs)

all_within : (from to : Pos) (rs : List Record) → ForEach (λ r. is_before r.pos from ≡ false) rs → ForEach (λ r. is_before to r.pos ≡ false) rs
    → count_within from to (map place rs) ≡ length rs
all_within from to [] after before = refl
all_within from to (r ∷ rs) after before =
    rw (after.0, before.0) (ap suc (all_within from to rs after.1 before.1))

-- of chunks that begin in the range all but the last lie in it
inner_count : (from to : Pos) (ps : List Piece) → ForEach IsFit ps → ForEach IsBased ps → Sort (spread_records ps)
    → ForEach (λ p. is_before p.base from ≡ false) ps → ForEach (λ p. is_before to p.base ≡ false) ps
    → length (spread_records ps) ≤ count_within from to (map place (spread_records ps)) + 64
inner_count from to [] fit based up after before = omega arith
inner_count from to (p ∷ []) fit based up after before =
    omega (arith, length-append (records_of p) [], length-records p, fit.0.few)
inner_count from to (p ∷ q ∷ ps) fit based up after before =
    let rest = inner_count from to (q ∷ ps) fit.1 based.1 (Rises-right precedes (records_of p) (spread_records (q ∷ ps)) up) after.1 before.1 in
    let own = all_within from to (records_of p)
    (Each-weaker (λ x. is_before x.pos p.base ≡ false) (λ x. is_before x.pos from ≡ false) (λ x own. at_least from p.base x.pos after.0 own)
    (records_of p) (from_own p (q ∷ ps) based.0 up))
    (Each-weaker (λ x. is_before q.base x.pos ≡ false) (λ x. is_before to x.pos ≡ false) (λ x next. at_least x.pos q.base to next before.1.0)
    (records_of p) (up_to_next p q ps fit.1.0 based.1.0 up)) in
    omega (arith, rest, own, length-append (records_of p) (spread_records (q ∷ ps)), count_of from to (records_of p) (spread_records (q ∷ ps)))

middle_count : (from to : Pos) (ps : List Piece) → ForEach IsFit ps → ForEach IsBased ps → Sort (spread_records ps)
    → ForEach (λ p. is_before p.base from ≡ false) (drop 1 ps) → ForEach (λ p. is_before to p.base ≡ false) ps
    → length (spread_records ps) ≤ count_within from to (map place (spread_records ps)) + 128
middle_count from to [] fit based up after before = omega arith
middle_count from to (p ∷ ps) fit based up after before =
    let rest = inner_count from to ps fit.1 based.1 (Rises-right precedes (records_of p) (spread_records ps) up) after before.1 in
    omega (arith, rest, length-append (records_of p) (spread_records ps), length-records p, fit.0.few, count_of from to (records_of p) (spread_records ps))

-- two neighbours hold more than 32 records
few_chunks : (ps : List Piece) → ForEach IsFit ps → Ample ps → 16 * length ps ≤ length (spread_records ps) + 16
few_chunks [] fit ample = omega arith
few_chunks (p ∷ []) fit ample = omega arith
few_chunks (p ∷ q ∷ ps) fit ample =
    omega (
      arith,
      few_chunks ps fit.1.1 ample.1.1,
      ample.0,
      length-append (records_of p) (records_of q ++ spread_records ps),
      length-append (records_of q) (spread_records ps),
      length-records p,
      length-records q,
    )

-- ---- the whole
Ample-right : (ps qs : List Piece) → Ample (ps ++ qs) → Ample qs
Ample-right [] qs ample = ample
Ample-right (p ∷ ps) qs ample = Ample-right ps qs ample.1

map_same : (start : Pos) (old new : Extent) (rs : List Record) → ForEach (λ r. is_before r.pos start ≡ true) rs → map (moved_record start old new) rs ≡ rs
map_same start old new [] before = refl
map_same start old new (r ∷ rs) before =
    ap (λ (p : Pos). (let q : Record = record { pos = p; info = r.info } in q) ∷ map (moved_record start old new) rs)
    (moved-before r.info.right start old new r.pos before.0)
    ∙ ap (λ (l : List Record). r ∷ l) (map_same start old new rs before.1)

pub spread_parts : (fs ms bs : List Piece) → spread_records (fs ++ (ms ++ bs)) ≡ spread_records fs ++ (spread_records ms ++ spread_records bs)
spread_parts fs ms bs = spread-append fs (ms ++ bs) ∙ ap (λ (l : List Record). spread_records fs ++ l) (spread-append ms bs)

module _ (start : Pos) (old new : Extent) (fs ms bs : List Piece) (rs : List Record) (laid : IsLaid (fs ++ (ms ++ bs)))
    (front : ForEach (λ r. is_before r.pos start ≡ true) (spread_records fs)) (behind : ForEach (λ p. is_before (further start old) p.base ≡ true) bs)
    (moves : IsPermutation (map (moved_record start old new) (spread_records ms)) rs) (up : Sort rs)
    (narrow : ForEach (MovesInRange start old new) (spread_records (fs ++ (ms ++ bs)))) where
  as_many : length rs ≡ length (spread_records ms)
  as_many = length_permutation (map (moved_record start old new) (spread_records ms)) rs moves ∙ length-map (spread_records ms) (moved_record start old new)

  fit_ms : ForEach IsFit ms
  fit_ms = Each-left IsFit ms bs (Each-right IsFit fs (ms ++ bs) laid.fit)

  new_spread : spread_records (fs ++ (refilled_pieces ms rs ++ map (carried_piece start old new) bs)) ≡ spread_records fs ++ (rs ++ map (moved_record start old new) (spread_records bs))
  new_spread =
      spread_parts fs (refilled_pieces ms rs) (map (carried_piece start old new) bs)
      ∙ ap (λ (l : List Record). spread_records fs ++ (l ++ spread_records (map (carried_piece start old new) bs))) (spread_refilled ms rs fit_ms as_many up)
      ∙ ap (λ (l : List Record). spread_records fs ++ (rs ++ l)) (spread_carried start old new bs behind)

  pub same_again : IsPermutation (map (moved_record start old new) (spread_records (fs ++ (ms ++ bs))))
      (spread_records (fs ++ (refilled_pieces ms rs ++ map (carried_piece start old new) bs)))
  same_again =
      let f : Record → Record = moved_record start old new in
      let was : map f (spread_records (fs ++ (ms ++ bs))) ≡ spread_records fs ++ (map f (spread_records ms) ++ map f (spread_records bs)) =
      ap (map f) (spread_parts fs ms bs) ∙ map-append f (spread_records fs) (spread_records ms ++ spread_records bs)
      ∙ ap (λ (l : List Record). l ++ map f (spread_records ms ++ spread_records bs)) (map_same start old new (spread_records fs) front)
      ∙ ap (λ (l : List Record). spread_records fs ++ l) (map-append f (spread_records ms) (spread_records bs)) in
      subst (λ (l : List Record). IsPermutation (map f (spread_records (fs ++ (ms ++ bs)))) l) (sym new_spread)
      (subst (λ (l : List Record). IsPermutation l (spread_records fs ++ (rs ++ map f (spread_records bs)))) (sym was)
      (IsPermutation-append_right (spread_records fs) (map f (spread_records ms) ++ map f (spread_records bs)) (rs ++ map f (spread_records bs))
      (IsPermutation-append_left (map f (spread_records bs)) (map f (spread_records ms)) rs moves)))

  same_sizes : sizes (fs ++ (ms ++ bs)) ≡ sizes (fs ++ (refilled_pieces ms rs ++ map (carried_piece start old new) bs))
  same_sizes =
      map-append (λ (p : Piece). length p.kept) fs (ms ++ bs)
      ∙ ap (λ (l : List ℕ). sizes fs ++ l) (map-append (λ (p : Piece). length p.kept) ms bs
      ∙ ap (λ (l : List ℕ). l ++ sizes bs) (sym (sizes_refilled ms rs fit_ms as_many))
      ∙ ap (λ (l : List ℕ). sizes (refilled_pieces ms rs) ++ l) (sym (sizes_carried start old new bs))
      ∙ sym (map-append (λ (p : Piece). length p.kept) (refilled_pieces ms rs) (map (carried_piece start old new) bs)))
      ∙ sym (map-append (λ (p : Piece). length p.kept) fs (refilled_pieces ms rs ++ map (carried_piece start old new) bs))

  same_rooms : rooms (fs ++ (ms ++ bs)) ≡ rooms (fs ++ (refilled_pieces ms rs ++ map (carried_piece start old new) bs))
  same_rooms =
      map-append (λ (p : Piece). p.room) fs (ms ++ bs)
      ∙ ap (λ (l : List ℕ). rooms fs ++ l) (map-append (λ (p : Piece). p.room) ms bs
      ∙ ap (λ (l : List ℕ). l ++ rooms bs) (sym (rooms_refilled ms rs fit_ms as_many))
      ∙ ap (λ (l : List ℕ). rooms (refilled_pieces ms rs) ++ l) (sym (rooms_carried start old new bs))
      ∙ sym (map-append (λ (p : Piece). p.room) (refilled_pieces ms rs) (map (carried_piece start old new) bs)))
      ∙ sym (map-append (λ (p : Piece). p.room) fs (refilled_pieces ms rs ++ map (carried_piece start old new) bs))

  pub laid_again : IsLaid (fs ++ (refilled_pieces ms rs ++ map (carried_piece start old new) bs))
  laid_again = record {
    fit = fit_same (fs ++ (ms ++ bs)) (fs ++ (refilled_pieces ms rs ++ map (carried_piece start old new) bs)) same_sizes same_rooms laid.fit;
    ample = ample_same (fs ++ (ms ++ bs)) (fs ++ (refilled_pieces ms rs ++ map (carried_piece start old new) bs)) same_sizes laid.ample;
    based = Each-append IsBased fs (refilled_pieces ms rs ++ map (carried_piece start old new) bs) (Each-left IsBased fs (ms ++ bs) laid.based)
        (Each-append IsBased (refilled_pieces ms rs) (map (carried_piece start old new) bs) (refills_based ms rs fit_ms as_many up)
        (all_carried_based start old new bs behind (Each-right IsFit ms bs (Each-right IsFit fs (ms ++ bs) laid.fit))
        (Each-right IsBased ms bs (Each-right IsBased fs (ms ++ bs) laid.based))));
    in_order = subst (λ (l : List Record). Sort l) (sym new_spread)
        (in_order_again start old new (spread_records fs) (spread_records ms) (spread_records bs) rs
        (subst (λ (l : List Record). Sort l) (spread_parts fs ms bs) laid.in_order) front (behind_all (further start old) bs behind) moves up);
    narrow = Each-permutation (λ r. IsNarrow r.pos) (map (moved_record start old new) (spread_records (fs ++ (ms ++ bs))))
        (spread_records (fs ++ (refilled_pieces ms rs ++ map (carried_piece start old new) bs))) same_again
        (Each-map (λ r. IsNarrow r.pos) (moved_record start old new) (spread_records (fs ++ (ms ++ bs))) narrow);
  }

  -- the bases behind move narrowly
  pub bases_move : ForEach (λ p. IsNarrow (moved_place true start old new p.base)) bs
  bases_move = each bs behind (Each-right IsFit ms bs (Each-right IsFit fs (ms ++ bs) laid.fit)) (Each-right IsBased ms bs (Each-right IsBased fs (ms ++ bs) laid.based))
      (Each-right (MovesInRange start old new) (spread_records ms) (spread_records bs) (Each-right (MovesInRange start old new) (spread_records fs) (spread_records ms ++ spread_records bs)
      (subst (λ (l : List Record). ForEach (MovesInRange start old new) l) (spread_parts fs ms bs) narrow)))
    where
      one : (base : Pos) (ks : List Relative) → is_before (further start old) base ≡ true → 0 < length ks → base_of (map (placed_record base) ks) ≡ base
          → ForEach (MovesInRange start old new) (map (placed_record base) ks) → IsNarrow (moved_place true start old new base)
      one base [] far some is fits = absurd (omega arith)
      one base (k ∷ ks) far some is fits =
          let here : moved_place k.info.right start old new (further base k.by) ≡ moved_place true start old new base =
          ap (λ (p : Pos). moved_place k.info.right start old new p) is ∙ moved-behind k.info.right start old new base far ∙ sym (moved-behind true start old new base far) in
          subst IsNarrow here fits.0

      each : (qs : List Piece) → ForEach (λ p. is_before (further start old) p.base ≡ true) qs → ForEach IsFit qs → ForEach IsBased qs
          → ForEach (MovesInRange start old new) (spread_records qs) → ForEach (λ p. IsNarrow (moved_place true start old new p.base)) qs
      each [] far fit based fits = tt
      each (q ∷ qs) far fit based fits = (
        one q.base q.kept far.0 fit.0.some based.0 (Each-left (MovesInRange start old new) (records_of q) (spread_records qs) fits),
        each qs far.1 fit.1 based.1 (Each-right (MovesInRange start old new) (records_of q) (spread_records qs) fits),
      )

-- ---- a list of chunks in three parts
pub three_parts : (ps : List Piece) (from to : ℕ) → from ≤ to → ps ≡ take from ps ++ (take (to - from) (drop from ps) ++ drop to ps)
three_parts ps from to in_order =
    let rest : drop (to - from) (drop from ps) ≡ drop to ps = drop-drop (to - from) from ps ∙ ap (λ (n : ℕ). drop n ps) whole in
    sym (take-append-drop from ps)
    ∙ ap (λ (l : List Piece). take from ps ++ l) (sym (take-append-drop (to - from) (drop from ps))
    ∙ ap (λ (l : List Piece). take (to - from) (drop from ps) ++ l) rest)
  where
    whole : from + (to - from) ≡ to
    whole = omega arith

pub Each-drop_later : (P : Piece → Type 0) (ps : List Piece) (m n : ℕ) → m ≤ n → ForEach P (drop m ps) → ForEach P (drop n ps)
Each-drop_later P ps m n later each =
    let whole : m + (n - m) ≡ n = omega arith in
    subst (λ (l : List Piece). ForEach P l) (drop-drop (n - m) m ps ∙ ap (λ (k : ℕ). drop k ps) whole) (Each-drop P (n - m) (drop m ps) each)

pub Each-middle : (P : Piece → Type 0) (ps : List Piece) (from to : ℕ) → from ≤ to → ForEach P (take to ps) → ForEach P (take (to - from) (drop from ps))
Each-middle P ps from to in_order each =
    let whole : from + (to - from) ≡ to = omega arith in
    subst (λ (l : List Piece). ForEach P l) (ap (λ (n : ℕ). drop from (take n ps)) (sym whole) ∙ drop-take from (to - from) ps) (Each-drop P from (take to ps) each)

pub cost : (start to_place : Pos) (ps : List Piece) (from to : ℕ) (size : ℕ) → IsLaid ps → from ≤ to → to ≤ length ps
    → size ≡ length (spread_records (take (to - from) (drop from ps)))
    → ForEach (λ p. is_before p.base start ≡ false) (drop (from + 1) ps)
    → ForEach (λ p. is_before to_place p.base ≡ false) (take (to - from) (drop from ps))
    → to - from + size + (length ps - to) ≤ count_within start to_place (map place (spread_records ps)) + length (spread_records ps) / 16 + 130
cost start to_place ps from to size laid in_order within same after before =
    let ms : List Piece = take (to - from) (drop from ps) in
    let whole : ps ≡ take from ps ++ (ms ++ drop to ps) = three_parts ps from to in_order in
    let laid_parts : IsLaid (take from ps ++ (ms ++ drop to ps)) = subst (λ (l : List Piece). IsLaid l) whole laid in
    let up : Sort (spread_records (take from ps) ++ (spread_records ms ++ spread_records (drop to ps))) =
    subst (λ (l : List Record). Sort l) (spread_parts (take from ps) ms (drop to ps)) laid_parts.in_order in
    let middle = middle_count start to_place ms
    (Each-left IsFit ms (drop to ps) (Each-right IsFit (take from ps) (ms ++ drop to ps) laid_parts.fit))
    (Each-left IsBased ms (drop to ps) (Each-right IsBased (take from ps) (ms ++ drop to ps) laid_parts.based))
    (Rises-left precedes (spread_records ms) (spread_records (drop to ps)) (Rises-right precedes (spread_records (take from ps)) (spread_records ms ++ spread_records (drop to ps)) up))
    (after_first ps from (to - from) after) before in
    let counts : count_within start to_place (map place (spread_records ms)) ≤ count_within start to_place (map place (spread_records ps)) =
    subst (λ (l : List Record). count_within start to_place (map place (spread_records ms)) ≤ count_within start to_place (map place l))
    (sym (ap spread_records whole ∙ spread_parts (take from ps) ms (drop to ps)))
    (omega (arith, count_of start to_place (spread_records (take from ps)) (spread_records ms ++ spread_records (drop to ps)), count_of start to_place (spread_records ms) (spread_records (drop to ps)))) in
    let few = few_chunks ps laid.fit laid.ample in
    omega (arith, middle, counts, few, same)
  where
    after_first : (qs : List Piece) (n m : ℕ) → ForEach (λ p. is_before p.base start ≡ false) (drop (n + 1) qs)
        → ForEach (λ p. is_before p.base start ≡ false) (drop 1 (take m (drop n qs)))
    after_first qs n zero each = tt
    after_first qs n (suc m) each = of_rest (drop n qs) (subst (λ (l : List Piece). ForEach (λ p. is_before p.base start ≡ false) l) (sym (drop-drop 1 n qs)) each)
      where
        of_rest : (l : List Piece) → ForEach (λ p. is_before p.base start ≡ false) (drop 1 l) → ForEach (λ p. is_before p.base start ≡ false) (drop 1 (take (suc m) l))
        of_rest [] each = tt
        of_rest (x ∷ l) each = Each-take (λ p. is_before p.base start ≡ false) m l each

-- ---- which chunks a splice writes
pub cut : (start : Pos) (old : Extent) (ps : List Piece) (n m from to : ℕ) → IsLaid ps → n ≤ length ps
    → ForEach (λ p. is_before p.base start ≡ true) (take n ps) → ForEach (λ p. is_before p.base start ≡ false) (drop n ps) → m ≤ length ps
    → ForEach (λ p. is_before (further start old) p.base ≡ false) (take m ps) → ForEach (λ p. is_before (further start old) p.base ≡ true) (drop m ps)
    → from ≡ n - 1 → to ≡ max m from → IsTouched start old ps from to
cut start old ps n m from to laid n_fits before after m_fits up_to behind from_is to_is = record {
  in_order = omega arith;
  within = omega arith;
  front = subst (λ (k : ℕ). ForEach (λ r. is_before r.pos start ≡ true) (spread_records (take k ps))) (sym from_is) (front_before start ps n n_fits laid before);
  behind = Each-drop_later (λ p. is_before (further start old) p.base ≡ true) ps m to (omega arith) behind;
  after = Each-drop_later (λ p. is_before p.base start ≡ false) ps n (from + 1) (omega arith) after;
  up_to = elim (cases_lt m from) [
    | inl short ↦
        let none : to - from ≡ 0 = omega arith in
        subst (λ (k : ℕ). ForEach (λ p. is_before (further start old) p.base ≡ false) (take k (drop from ps))) (sym none) tt
    | inr far ↦
        let is_m : to ≡ m = omega arith in
        Each-middle (λ p. is_before (further start old) p.base ≡ false) ps from to (omega arith)
        (subst (λ (k : ℕ). ForEach (λ p. is_before (further start old) p.base ≡ false) (take k ps)) (sym is_m) up_to)
  ];
}

length-refills : (ps : List Piece) (rs : List Record) → length (refilled_pieces ps rs) ≡ length ps
length-refills [] rs = refl
length-refills (p ∷ ps) rs = ap suc (length-refills ps (drop (length p.kept) rs))

module _ (start : Pos) (old new : Extent) (ps : List Piece) (from to : ℕ) (laid : IsLaid ps) (parts : IsTouched start old ps from to)
    (moves : ForEach (MovesInRange start old new) (spread_records ps)) where
  in_parts : ps ≡ take from ps ++ (take (to - from) (drop from ps) ++ drop to ps)
  in_parts = three_parts ps from to parts.in_order

  spread_is : spread_records ps ≡ spread_records (take from ps) ++ (spread_records (take (to - from) (drop from ps)) ++ spread_records (drop to ps))
  spread_is = ap spread_records in_parts ∙ spread_parts (take from ps) (take (to - from) (drop from ps)) (drop to ps)

  pub of_middle : (P : Record → Type 0) → ForEach P (spread_records ps) → ForEach P (spread_records (take (to - from) (drop from ps)))
  of_middle P each =
      Each-left P (spread_records (take (to - from) (drop from ps))) (spread_records (drop to ps))
      (Each-right P (spread_records (take from ps)) (spread_records (take (to - from) (drop from ps)) ++ spread_records (drop to ps))
      (subst (λ (l : List Record). ForEach P l) spread_is each))

  pub middle_fits : length (spread_records (take (to - from) (drop from ps))) ≤ length (spread_records ps)
  middle_fits =
      omega (
        arith,
        ap length spread_is,
        length-append (spread_records (take from ps)) (spread_records (take (to - from) (drop from ps)) ++ spread_records (drop to ps)),
        length-append (spread_records (take (to - from) (drop from ps))) (spread_records (drop to ps)),
      )

  front_len : length (take from ps) ≡ from
  front_len = let fits = parts.within in let order = parts.in_order in length-take-le from ps (omega arith)

  middle_len : length (take (to - from) (drop from ps)) ≡ to - from
  middle_len =
      let fits = parts.within in let order = parts.in_order in
      length-take-le (to - from) (drop from ps) (omega (arith, length-drop from ps))

  pub refit_is : (rs : List Record)
      → refit_pieces from (to - from) ps rs ≡ take from ps ++ (refilled_pieces (take (to - from) (drop from ps)) rs ++ drop to ps)
  refit_is rs =
      ap (λ (l : List Piece). refit_pieces from (to - from) l rs) in_parts
      ∙ ap (λ (n : ℕ). refit_pieces n (to - from) (take from ps ++ (take (to - from) (drop from ps) ++ drop to ps)) rs) (sym front_len)
      ∙ ap (λ (n : ℕ). refit_pieces (length (take from ps)) n (take from ps ++ (take (to - from) (drop from ps) ++ drop to ps)) rs) (sym middle_len)
      ∙ refit_parts (take from ps) (take (to - from) (drop from ps)) (drop to ps) rs

  new_front : (rs : List Record) → length (take from ps ++ refilled_pieces (take (to - from) (drop from ps)) rs) ≡ to
  new_front rs =
      let order = parts.in_order in
      omega (
        arith,
        length-append (take from ps) (refilled_pieces (take (to - from) (drop from ps)) rs),
        front_len,
        middle_len,
        length-refills (take (to - from) (drop from ps)) rs,
      )

  pub shape : (rs : List Record)
      → pieces_carried_from to start old new (refit_pieces from (to - from) ps rs)
      ≡ take from ps ++ (refilled_pieces (take (to - from) (drop from ps)) rs ++ map (carried_piece start old new) (drop to ps))
  shape rs =
      let fs : List Piece = take from ps in
      let ms : List Piece = refilled_pieces (take (to - from) (drop from ps)) rs in
      ap (λ (l : List Piece). pieces_carried_from to start old new l) (refit_is rs ∙ sym (append_assoc fs ms (drop to ps)))
      ∙ ap (λ (n : ℕ). pieces_carried_from n start old new ((fs ++ ms) ++ drop to ps)) (sym (new_front rs))
      ∙ carried_parts start old new (fs ++ ms) (drop to ps)
      ∙ append_assoc fs ms (map (carried_piece start old new) (drop to ps))

  rest_is : (rs : List Record) → drop to (refit_pieces from (to - from) ps rs) ≡ drop to ps
  rest_is rs =
      let fs : List Piece = take from ps in
      let ms : List Piece = refilled_pieces (take (to - from) (drop from ps)) rs in
      ap (drop to) (refit_is rs ∙ sym (append_assoc fs ms (drop to ps))) ∙ drop_at (fs ++ ms) (drop to ps) to (new_front rs)

  -- what holds of the chunks from a place behind the middle on holds of them afterwards
  pub rest_keeps : (P : Piece → Type 0) (rs : List Record) (n far : ℕ) → far ≡ max n to → ForEach P (drop n ps)
      → ForEach P (drop far (refit_pieces from (to - from) ps rs))
  rest_keeps P rs n far is each =
      let whole : to + (far - to) ≡ far = omega arith in
      let same : drop far (refit_pieces from (to - from) ps rs) ≡ drop far ps =
      sym (ap (λ (k : ℕ). drop k (refit_pieces from (to - from) ps rs)) whole) ∙ sym (drop-drop (far - to) to (refit_pieces from (to - from) ps rs))
      ∙ ap (λ (l : List Piece). drop (far - to) l) (rest_is rs)
      ∙ drop-drop (far - to) to ps ∙ ap (λ (k : ℕ). drop k ps) whole in
      subst (λ (l : List Piece). ForEach P l) (sym same) (Each-drop_later P ps n far (omega arith) each)

  pub bases_fit : (rs : List Record) → IsPermutation (map (moved_record start old new) (spread_records (take (to - from) (drop from ps)))) rs → Sort rs
      → ForEach (λ p. IsNarrow (moved_place true start old new p.base)) (drop to (refit_pieces from (to - from) ps rs))
  bases_fit rs moved up =
      subst (λ (l : List Piece). ForEach (λ p. IsNarrow (moved_place true start old new p.base)) l) (sym (rest_is rs))
      (bases_move start old new (take from ps) (take (to - from) (drop from ps)) (drop to ps) rs
      (subst (λ (l : List Piece). IsLaid l) in_parts laid) parts.front parts.behind moved up
      (subst (λ (l : List Piece). ForEach (MovesInRange start old new) (spread_records l)) in_parts moves))

  pub laid_after : (rs : List Record) (qs : List Piece) → IsPermutation (map (moved_record start old new) (spread_records (take (to - from) (drop from ps)))) rs → Sort rs
      → qs ≡ pieces_carried_from to start old new (refit_pieces from (to - from) ps rs) → IsLaid qs
  laid_after rs qs moved up is =
      subst (λ (l : List Piece). IsLaid l) (sym (is ∙ shape rs))
      (laid_again start old new (take from ps) (take (to - from) (drop from ps)) (drop to ps) rs
      (subst (λ (l : List Piece). IsLaid l) in_parts laid) parts.front parts.behind moved up
      (subst (λ (l : List Piece). ForEach (MovesInRange start old new) (spread_records l)) in_parts moves))

  pub same_after : (rs : List Record) (qs : List Piece) → IsPermutation (map (moved_record start old new) (spread_records (take (to - from) (drop from ps)))) rs → Sort rs
      → qs ≡ pieces_carried_from to start old new (refit_pieces from (to - from) ps rs)
      → IsPermutation (map (moved_record start old new) (spread_records ps)) (spread_records qs)
  same_after rs qs moved up is =
      subst (λ (l : List Piece). IsPermutation (map (moved_record start old new) (spread_records ps)) (spread_records l)) (sym (is ∙ shape rs))
      (subst (λ (l : List Piece). IsPermutation (map (moved_record start old new) (spread_records l))
      (spread_records (take from ps ++ (refilled_pieces (take (to - from) (drop from ps)) rs ++ map (carried_piece start old new) (drop to ps))))) (sym in_parts)
      (same_again start old new (take from ps) (take (to - from) (drop from ps)) (drop to ps) rs
      (subst (λ (l : List Piece). IsLaid l) in_parts laid) parts.front parts.behind moved up
      (subst (λ (l : List Piece). ForEach (MovesInRange start old new) (spread_records l)) in_parts moves)))

  pub length-after : (rs : List Record) → length (refit_pieces from (to - from) ps rs) ≡ length ps
  length-after rs =
      let order = parts.in_order in
      omega (
        arith,
        ap length (refit_is rs),
        length-append (take from ps) (refilled_pieces (take (to - from) (drop from ps)) rs ++ drop to ps),
        length-append (refilled_pieces (take (to - from) (drop from ps)) rs) (drop to ps),
        length-refills (take (to - from) (drop from ps)) rs,
        front_len,
        middle_len,
        length-drop to ps,
        parts.within,
      )

-- ---- the place of one more record
starts_before_it : (r x : Record) (base : Pos) (ks : List Relative) (rest : List Record) → 0 < length ks → base_of (map (placed_record base) ks) ≡ base
    → starts_before r (record { base = base; kept = ks; room = 0 }) ≡ true → ForEach (λ y. precedes y x ≡ false) (map (placed_record base) ks ++ rest)
    → precedes r x ≡ false
starts_before_it r x base [] rest some is starts each = absurd (omega arith)
starts_before_it r x base (k ∷ ks) rest some is starts each =
    let here : precedes (placed_record base k) r ≡ true =
    subst (λ (p : Pos). precedes (record { pos = p; info = k.info }) r ≡ true) (sym is) starts in
    record_ranks.chain r (placed_record base k) x (record_ranks.one_way (placed_record base k) r here) each.0

place_front_of : (r : Record) (ps : List Piece) (n : ℕ) → suc n ≤ length ps → ForEach IsFit ps → ForEach IsBased ps → Sort (spread_records ps)
    → ForEach (λ p. starts_before r p ≡ true) (take (suc n) ps) → ForEach (λ x. precedes r x ≡ false) (spread_records (take n ps))
place_front_of r ps zero within fit based up before = tt
place_front_of r [] (suc n) within fit based up before = absurd (omega arith)
place_front_of r (p ∷ []) (suc n) within fit based up before = absurd (omega arith)
place_front_of r (p ∷ q ∷ qs) (suc n) within fit based up before =
    Each-append (λ x. precedes r x ≡ false) (records_of p) (spread_records (take n (q ∷ qs)))
    (Each-weaker (λ x. ForEach (λ y. precedes y x ≡ false) (records_of q ++ spread_records qs)) (λ x. precedes r x ≡ false)
    (λ x each. starts_before_it r x q.base q.kept (spread_records qs) fit.1.0.some based.1.0 before.1.0 each) (records_of p)
    (Rises-cross precedes (records_of p) (records_of q ++ spread_records qs) up))
    (place_front_of r (q ∷ qs) n (omega arith) fit.1 based.1 (Rises-right precedes (records_of p) (spread_records (q ∷ qs)) up) before.1)

pub place_front : (r : Record) (ps : List Piece) (n : ℕ) → n ≤ length ps → IsLaid ps → ForEach (λ p. starts_before r p ≡ true) (take n ps)
    → ForEach (λ x. precedes r x ≡ false) (spread_records (take (n - 1) ps))
place_front r ps zero within laid before = tt
place_front r ps (suc n) within laid before =
    let less : suc n - 1 ≡ n = omega arith in
    subst (λ (k : ℕ). ForEach (λ x. precedes r x ≡ false) (spread_records (take k ps))) (sym less)
    (place_front_of r ps n within laid.fit laid.based laid.in_order before)

behind_chunk : (r : Record) (base : Pos) (ks : List Relative) → base_of (map (placed_record base) ks) ≡ base
    → starts_before r (record { base = base; kept = ks; room = 0 }) ≡ false → Sort (map (placed_record base) ks)
    → ForEach (λ x. precedes x r ≡ false) (map (placed_record base) ks)
behind_chunk r base [] is starts up = tt
behind_chunk r base (k ∷ ks) is starts up =
    let here : precedes (placed_record base k) r ≡ false =
    subst (λ (p : Pos). precedes (record { pos = p; info = k.info }) r ≡ false) (sym is) starts in (
      here,
      Each-weaker (λ x. precedes x (placed_record base k) ≡ false) (λ x. precedes x r ≡ false)
          (λ x later. record_ranks.chain x (placed_record base k) r later here) (map (placed_record base) ks) up.0,
    )

behind_chunks : (r : Record) (ps : List Piece) → ForEach IsBased ps → Sort (spread_records ps) → ForEach (λ p. starts_before r p ≡ false) ps
    → ForEach (λ x. precedes x r ≡ false) (spread_records ps)
behind_chunks r [] based up after = tt
behind_chunks r (p ∷ ps) based up after =
    Each-append (λ x. precedes x r ≡ false) (records_of p) (spread_records ps)
    (behind_chunk r p.base p.kept based.0 after.0 (Rises-left precedes (records_of p) (spread_records ps) up))
    (behind_chunks r ps based.1 (Rises-right precedes (records_of p) (spread_records ps) up) after.1)

pub place_behind : (r : Record) (ps : List Piece) (m n : ℕ) → m ≤ n → IsLaid ps → ForEach (λ p. starts_before r p ≡ false) (drop m ps)
    → ForEach (λ x. precedes x r ≡ false) (spread_records (drop n ps))
place_behind r ps m n later laid after =
    behind_chunks r (drop n ps) (Each-drop IsBased n ps laid.based)
    (Rises-right precedes (spread_records (take n ps)) (spread_records (drop n ps))
    (subst (λ (l : List Record). Sort l) (ap spread_records (sym (take-append-drop n ps)) ∙ spread-append (take n ps) (drop n ps)) laid.in_order))
    (Each-drop_later (λ p. starts_before r p ≡ false) ps m n later after)

pub cut_at : (start : Pos) (old : Extent) (ps : List Piece) (n m from to : ℕ) (end : Pos) → IsLaid ps → n ≤ length ps
    → ForEach (λ p. is_before p.base start ≡ true) (take n ps) → ForEach (λ p. is_before p.base start ≡ false) (drop n ps) → m ≤ length ps
    → ForEach (λ p. is_before end p.base ≡ false) (take m ps) → ForEach (λ p. is_before end p.base ≡ true) (drop m ps)
    → end ≡ further start old → from ≡ n - 1 → to ≡ max m from → IsTouched start old ps from to
cut_at start old ps n m from to end laid n_fits before after m_fits up_to behind end_is from_is to_is =
    cut start old ps n m from to laid n_fits before after m_fits
    (subst (λ (q : Pos). ForEach (λ p. is_before q p.base ≡ false) (take m ps)) end_is up_to)
    (subst (λ (q : Pos). ForEach (λ p. is_before q p.base ≡ true) (drop m ps)) end_is behind) from_is to_is

-- what is read of some chunks into an empty list
pub read_middle : (ps lent : List Piece) (had items : List Record) (from to : ℕ) → had ≡ [] → lent ≡ ps
    → items ≡ had ++ spread_records (take (to - from) (drop from lent)) → items ≡ spread_records (take (to - from) (drop from ps))
read_middle ps lent had items from to none same is =
    is ∙ ap (λ (l : List Record). l ++ spread_records (take (to - from) (drop from lent))) none
    ∙ ap (λ (l : List Piece). spread_records (take (to - from) (drop from l))) same
