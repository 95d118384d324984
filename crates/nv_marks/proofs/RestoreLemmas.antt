-- What is put back of records, and of the marks that they stand for.
use Rattle.std.proofs.Common.{All, ◌≤◌, ◌<◌, ◌+◌, ◌-◌, ◌≡◌, List, [], ◌∷◌, ◌++◌, ℕ, zero, suc, length, get_or, set, take, drop, refl, ap, sym, ◌∙◌, map, arith, Bool, true, false, cond, eqb, not, subst, Some, None, Option}
use Rattle.std.specs.Prelude.{IsPermutation, filter, find, is_some, option_map, unwrap_or, ◌&&◌}
use Rattle.std.specs.declared.cmp.Reverse.{Reverse}
use Rattle.std.specs.List.{IsDistinct}
use Rattle.std.proofs.lemmas.Bool.{both_ways}
use Rattle.std.proofs.lemmas.Bool.Decides.{nat_tests}
use Rattle.std.proofs.lemmas.Simd.{map-map}
use Rattle.std.proofs.lemmas.List.{map-append, map-set, length-set, length-map, length-append, set-append_left, set-append_right, get_or_append_left, get_or-append-add, get_or_default, drop_all, drop_more}
use Rattle.std.proofs.lemmas.List.Elements.{All-head, All-tail, All-map, All-weaker}
use Rattle.std.proofs.lemmas.List.Sorted.{IsPermutation-trans, IsPermutation-sym, IsPermutation-map, length_permutation}
use Rattle.std.proofs.lemmas.Map.Keys.{IsDistinct-IsPermutation, IsDistinct-tail, apart_from_distinct}
use Rattle.nv_places.specs.declared.place.Pos.{Pos}
use Rattle.nv_places.specs.Places.{IsNarrow, is_before}
use Rattle.nv_marks.specs.Marks.{greatest_id, is_named, mark_at}
use Rattle.nv_marks.specs.Keeping.{far_put_back, is_of_kept, put_back_by, put_back_mark}
use Rattle.nv_marks.specs.Order.{IsInOrder}
use Rattle.nv_marks.specs.Sound.{same_name}
use Rattle.nv_marks.specs.declared.extmark.Far.{Far}
use Rattle.nv_marks.specs.declared.extmark.Mark.{Mark}
use Rattle.nv_marks.specs.declared.keeping.Kept.{Kept}
use Rattle.nv_marks.specs.declared.record.Record.{Record}
use Rattle.nv_marks.specs.declared.record.Relative.{Relative}
use Rattle.nv_marks.specs.inside.Records.{ForEach, Sort, belongs_to, end_among, far_in, has_key, is_start, mark_among, marks_among, records_of_mark, records_of_marks, same_key}
use Rattle.nv_marks.specs.inside.Chunks.{Piece, IsShaped, IsLaid, IsFoundAt, held_records, kept_from, pieces_edited_at, placed_record, rebased_from, records_of, refilled_pieces, refit_pieces, spread_records, text_start, with_record, written_piece}
use Rattle.nv_marks.specs.inside.Names.{IsIndexOf}
use Rattle.nv_marks.specs.inside.Stored.{HoldsMarks}
use Rattle.nv_marks.specs.inside.Restoring.{all_put_back, has_setting, has_setting_by, kept_place, mark_put_back, one_put_back, part_put_back, record_put_back, stop_put_back}
use Rattle.nv_marks.proofs.NameLemmas.{find-All, find-map, named_once, none_passes, others_fail, IsDistinct-map}
use Rattle.nv_marks.proofs.EachLemmas.{All-from_each, Each-always, Each-append, Each-left, Each-permutation, Each-right}
use Rattle.nv_marks.proofs.PlacesLemmas.{reached}
use Rattle.nv_marks.proofs.SoundLemmas.{mark_at-in_order, sound_in_order}
use Rattle.nv_marks.proofs.SpreadLemmas.{spread-append, sizes, rooms, fit_same, ample_same, sizes_refilled, rooms_refilled, refills_based, spread_refilled}
use Rattle.nv_marks.proofs.EditLemmas.{at_split, edited_split, held_one}
use Rattle.nv_marks.proofs.PartsLemmas.{distinct_map, key_flips, key_once, mark_by_start, marks_in_order}
use Rattle.nv_marks.proofs.SwapLemmas.{IsPermutation-flat}

-- ---- what changes only the one element that passes a test
module _ {X : Type 0} (p : X → Bool) (f : X → X) (others : (x : X) → p x ≡ false → f x ≡ x) where
  pub map-others : (xs : List X) → All (λ x. p x ≡ false) xs → map f xs ≡ xs
  map-others [] none = refl
  map-others (x ∷ xs) none =
      ap (λ (y : X). y ∷ map f xs) (others x (All-head (λ y. p y ≡ false) x xs none))
      ∙ ap (λ (l : List X). x ∷ l) (map-others xs (All-tail (λ y. p y ≡ false) x xs none))

  module _ (same : X → X → Bool) (once : (x y : X) → p x ≡ true → p y ≡ true → same x y ≡ true) where
    pub map-one : (xs : List X) (i : ℕ) (d : X) → IsDistinct same xs → i < length xs → p (get_or xs i d) ≡ true
        → map f xs ≡ set xs i (f (get_or xs i d))
    map-one [] i d apart within passes = absurd (omega arith)
    map-one (x ∷ xs) zero d apart within passes =
        ap (λ (l : List X). f x ∷ l) (map-others xs (others_fail same p once x xs passes apart))
    map-one (x ∷ xs) (suc i) d apart within passes =
        ap (λ (y : X). y ∷ map f xs) (others x (first_fails (p x) refl))
        ∙ ap (λ (l : List X). x ∷ l) (map-one xs i d (IsDistinct-tail same x xs apart) (omega arith) passes)
      where
        first_fails : (b : Bool) → p x ≡ b → p x ≡ false
        first_fails false is = is
        first_fails true is =
            absurd (both_ways (same x (get_or xs i d))
            (apart_from_distinct same (x ∷ xs) 0 (suc i) d apart (omega arith) within)
            (once x (get_or xs i d) is passes))

-- one of the middle of three lists
set_midst : {X : Type 0} (fs ms bs : List X) (i : ℕ) (y : X) → i < length ms
    → set (fs ++ (ms ++ bs)) (length fs + i) y ≡ fs ++ (set ms i y ++ bs)
set_midst fs ms bs i y within =
    let rest : length fs + i - length fs ≡ i = omega arith in
    set-append_right fs (ms ++ bs) (length fs) (length fs + i) y refl (omega arith)
    ∙ ap (λ (k : ℕ). fs ++ set (ms ++ bs) k y) rest
    ∙ ap (λ l. fs ++ l) (set-append_left ms bs i y within)

get_midst : {X : Type 0} (fs ms bs : List X) (i : ℕ) (d : X) → i < length ms
    → get_or (fs ++ (ms ++ bs)) (length fs + i) d ≡ get_or ms i d
get_midst fs ms bs i d within = get_or-append-add fs (ms ++ bs) i d ∙ get_or_append_left ms bs d i within

-- ---- a record put anywhere
start_reached : (x : Record) → placed_record text_start (kept_from text_start x) ≡ x
start_reached x = ap (λ (p : Pos). let q : Record = record { pos = p; info = x.info } in q) (reached text_start x.pos (none_before x.pos))
  where
    none_before : (p : Pos) → is_before p text_start ≡ false
    none_before p = grind (arith, nat_tests)

rebased_same : (base : Pos) (ks : List Relative) → map (placed_record text_start) (map (rebased_from base) ks) ≡ map (placed_record base) ks
rebased_same base [] = refl
rebased_same base (k ∷ ks) =
    ap (λ (q : Record). q ∷ map (placed_record text_start) (map (rebased_from base) ks)) (start_reached (placed_record base k))
    ∙ ap (λ (l : List Record). placed_record base k ∷ l) (rebased_same base ks)

records_with : (at : ℕ) (r : Record) (p : Piece) → records_of (with_record at r p) ≡ set (records_of p) at r
records_with at r p =
    map-set (placed_record text_start) (map (rebased_from p.base) p.kept) at (kept_from text_start r)
    ∙ ap (λ (l : List Record). set l at (placed_record text_start (kept_from text_start r))) (rebased_same p.base p.kept)
    ∙ ap (λ (q : Record). set (records_of p) at q) (start_reached r)

sizes_edited : (n : ℕ) (f : Piece → Piece) (ps : List Piece) → ((p : Piece) → length (f p).kept ≡ length p.kept) → sizes ps ≡ sizes (pieces_edited_at n f ps)
sizes_edited n f [] same = refl
sizes_edited zero f (p ∷ ps) same = ap (λ (k : ℕ). k ∷ sizes ps) (sym (same p))
sizes_edited (suc n) f (p ∷ ps) same = ap (λ (l : List ℕ). length p.kept ∷ l) (sizes_edited n f ps same)

rooms_edited : (n : ℕ) (f : Piece → Piece) (ps : List Piece) → ((p : Piece) → (f p).room ≡ p.room) → rooms ps ≡ rooms (pieces_edited_at n f ps)
rooms_edited n f [] same = refl
rooms_edited zero f (p ∷ ps) same = ap (λ (k : ℕ). k ∷ rooms ps) (sym (same p))
rooms_edited (suc n) f (p ∷ ps) same = ap (λ (l : List ℕ). p.room ∷ l) (rooms_edited n f ps same)

pub shaped_of : (ps : List Piece) → IsLaid ps → IsShaped ps
shaped_of ps laid = record { fit = laid.fit; ample = laid.ample }

pub shaped_with : (ps qs : List Piece) (n i : ℕ) (r : Record) → IsShaped ps → qs ≡ pieces_edited_at n (with_record i r) ps → IsShaped qs
shaped_with ps qs n i r shaped is =
    let size : (p : Piece) → length (with_record i r p).kept ≡ length p.kept =
    λ p. length-set (map (rebased_from p.base) p.kept) i (kept_from text_start r) ∙ length-map p.kept (rebased_from p.base) in
    subst (λ (l : List Piece). IsShaped l) (sym is) (record {
      fit = fit_same ps (pieces_edited_at n (with_record i r) ps) (sizes_edited n (with_record i r) ps size) (rooms_edited n (with_record i r) ps (λ p. refl)) shaped.fit;
      ample = ample_same ps (pieces_edited_at n (with_record i r) ps) (sizes_edited n (with_record i r) ps size) shaped.ample;
    })

-- ---- the start, or the end, of a mark
part_others : (k : Kept) (end : Bool) (x : Record) → has_key k.ns k.id end x ≡ false → part_put_back k end x ≡ x
part_others k end x other = ap (λ (b : Bool). cond b (record_put_back k x) x) other

pub none_put_back : (k : Kept) (end : Bool) (rs : List Record) → find (has_key k.ns k.id end) rs ≡ None → rs ≡ map (part_put_back k end) rs
none_put_back k end rs none =
    sym (map-others (has_key k.ns k.id end) (part_put_back k end) (part_others k end) rs (none_passes (has_key k.ns k.id end) rs none))

pub passes_found : (t : Record → Bool) (rs : List Record) (x : Record) → find t rs ≡ Some x → t x ≡ true
passes_found t rs x found = (find-All t (λ y. y ≡ y) rs x (All-from_each (λ y. y ≡ y) rs (Each-always (λ y. y ≡ y) (λ y. refl) rs)) found).1

-- the chunk of the record and what is read of it are as a loan shows them
pub here_found : (t : Record → Bool) (ps : List Piece) (n i : ℕ) (p : Piece) (one : Record) → IsFoundAt t ps n i → p ≡ get_or ps n p
    → one ≡ get_or (records_of p) i one → find t (spread_records ps) ≡ Some one
here_found t ps n i p one at here is =
    at.found one
    ∙ ap (λ (l : List Record). Some (get_or l i one)) (held_one ps n p at.chunk ∙ ap records_of (sym here))
    ∙ ap Some (sym is)

pub here_within : (t : Record → Bool) (ps : List Piece) (n i : ℕ) (p : Piece) → IsFoundAt t ps n i → p ≡ get_or ps n p → i < length (records_of p)
here_within t ps n i p at here =
    subst (λ (l : List Record). i < length l) (held_one ps n p at.chunk ∙ ap records_of (sym here)) at.place

-- the records of a chunk between those of the others
in_midst : (ps : List Piece) (n : ℕ) (p : Piece) → n < length ps → p ≡ get_or ps n p
    → spread_records ps ≡ spread_records (take n ps) ++ (records_of p ++ spread_records (drop (n + 1) ps))
in_midst ps n p within here =
    ap spread_records (at_split ps n p within) ∙ spread-append (take n ps) (get_or ps n p ∷ drop (n + 1) ps)
    ∙ ap (λ (q : Piece). spread_records (take n ps) ++ (records_of q ++ spread_records (drop (n + 1) ps))) (sym here)

-- what the chunks hold then
with_split : (ps qs : List Piece) (n i : ℕ) (p : Piece) (r : Record) → n < length ps → p ≡ get_or ps n p → qs ≡ pieces_edited_at n (with_record i r) ps
    → spread_records qs ≡ spread_records (take n ps) ++ (set (records_of p) i r ++ spread_records (drop (n + 1) ps))
with_split ps qs n i p r within here edited =
    ap spread_records (edited ∙ edited_split n (with_record i r) ps p within)
    ∙ spread-append (take n ps) (with_record i r (get_or ps n p) ∷ drop (n + 1) ps)
    ∙ ap (λ (q : Piece). spread_records (take n ps) ++ (records_of (with_record i r q) ++ spread_records (drop (n + 1) ps))) (sym here)
    ∙ ap (λ (l : List Record). spread_records (take n ps) ++ (l ++ spread_records (drop (n + 1) ps))) (records_with i r p)

Each-set : {X : Type 0} (P : X → Type 0) (xs : List X) (i : ℕ) (y : X) → P y → ForEach P xs → ForEach P (set xs i y)
Each-set P [] i y new each = tt
Each-set P (x ∷ xs) zero y new each = (new, each.1)
Each-set P (x ∷ xs) (suc i) y new each = (each.0, Each-set P xs i y new each.1)

pub narrow_with : (ps qs : List Piece) (n i : ℕ) (p : Piece) (r : Record) → n < length ps → p ≡ get_or ps n p → qs ≡ pieces_edited_at n (with_record i r) ps
    → IsNarrow r.pos → ForEach (λ r. IsNarrow r.pos) (spread_records ps) → ForEach (λ r. IsNarrow r.pos) (spread_records qs)
narrow_with ps qs n i p r within here edited fits narrow =
    let N : Record → Type 0 = λ r. IsNarrow r.pos in
    let fs : List Record = spread_records (take n ps) in
    let bs : List Record = spread_records (drop (n + 1) ps) in
    let parts : ForEach N (fs ++ (records_of p ++ bs)) = subst (λ (l : List Record). ForEach N l) (in_midst ps n p within here) narrow in
    subst (λ (l : List Record). ForEach N l) (sym (with_split ps qs n i p r within here edited))
    (Each-append N fs (set (records_of p) i r ++ bs) (Each-left N fs (records_of p ++ bs) parts)
    (Each-append N (set (records_of p) i r) bs
    (Each-set N (records_of p) i r fits (Each-left N (records_of p) bs (Each-right N fs (records_of p ++ bs) parts)))
    (Each-right N (records_of p) bs (Each-right N fs (records_of p ++ bs) parts))))

-- a record that passes a test that no other does is the one that is found
find_hit : (t : Record → Bool) → ((x y : Record) → t x ≡ true → t y ≡ true → same_key x y ≡ true) → (xs : List Record) (i : ℕ) (d : Record)
    → IsDistinct same_key xs → i < length xs → t (get_or xs i d) ≡ true → find t xs ≡ Some (get_or xs i d)
find_hit t once [] i d apart within passes = absurd (omega arith)
find_hit t once (x ∷ xs) zero d apart within passes = ap (λ (b : Bool). cond b (Some x) (find t xs)) passes
find_hit t once (x ∷ xs) (suc i) d apart within passes =
    by_case (find_hit t once xs i d (IsDistinct-tail same_key x xs apart) (omega arith) passes) (t x) refl
  where
    by_case : find t xs ≡ Some (get_or xs i d) → (b : Bool) → t x ≡ b → cond b (Some x) (find t xs) ≡ Some (get_or xs i d)
    by_case rest true is = absurd (both_ways (same_key x (get_or xs i d))
        (apart_from_distinct same_key (x ∷ xs) 0 (suc i) d apart (omega arith) within)
        (once x (get_or xs i d) is passes))
    by_case rest false is = rest

pub hit_here : (ns id : ℕ) (end : Bool) (ps : List Piece) (n i : ℕ) (p : Piece) (one : Record) → IsDistinct same_key (spread_records ps) → n < length ps
    → p ≡ get_or ps n p → i < length p.kept → one ≡ get_or (records_of p) i one → has_key ns id end one ≡ true → IsFoundAt (has_key ns id end) ps n i
hit_here ns id end ps n i p one apart within here few is passes =
    let t : Record → Bool = has_key ns id end in
    let fs : List Record = spread_records (take n ps) in
    let bs : List Record = spread_records (drop (n + 1) ps) in
    let all : List Record = fs ++ (records_of p ++ bs) in
    let parts : spread_records ps ≡ all = in_midst ps n p within here in
    let held : held_records n 1 ps ≡ records_of p = held_one ps n p within ∙ ap records_of (sym here) in
    let len : length (records_of p) ≡ length p.kept = length-map p.kept (placed_record p.base) in
    let inside : i < length (records_of p) = omega (arith, len, few) in
    let there : get_or all (length fs + i) one ≡ one = get_midst fs (records_of p) bs i one inside ∙ sym is in
    let whole : find t all ≡ Some (get_or all (length fs + i) one) =
    find_hit t (key_once ns id end) all (length fs + i) one (subst (λ (l : List Record). IsDistinct same_key l) parts apart)
    (omega (arith, inside, length-append fs (records_of p ++ bs), length-append (records_of p) bs)) (ap t there ∙ passes) in
    record {
      chunk = within;
      place = subst (λ (l : List Record). i < length l) (sym held) inside;
      found = λ d.
          ap (find t) parts ∙ whole ∙ ap Some there ∙ ap Some is
          ∙ ap Some (get_or_default (records_of p) i one d inside)
          ∙ ap (λ (l : List Record). Some (get_or l i d)) (sym held);
    }

-- where no mark is, no start of it is
pub no_start : (rs : List Record) (ns id : ℕ) → mark_at (marks_among rs) ns id ≡ None → find (has_key ns id false) rs ≡ None
no_start rs ns id none = by_case (find (has_key ns id false) rs) (sym (mark_by_start rs rs ns id) ∙ none)
  where
    by_case : (o : Option Record) → option_map (mark_among rs) o ≡ None → o ≡ None
    by_case None is = refl
    by_case (Some x) is = absurd cc

pub part_put : (k : Kept) (end : Bool) (ps qs : List Piece) (n i : ℕ) (p : Piece) (one r : Record) → IsDistinct same_key (spread_records ps)
    → IsFoundAt (has_key k.ns k.id end) ps n i → p ≡ get_or ps n p → one ≡ get_or (records_of p) i one → r ≡ record_put_back k one
    → qs ≡ pieces_edited_at n (with_record i r) ps → spread_records qs ≡ map (part_put_back k end) (spread_records ps)
part_put k end ps qs n i p one r apart at here is changed edited =
    let t : Record → Bool = has_key k.ns k.id end in
    let f : Record → Record = part_put_back k end in
    let fs : List Record = spread_records (take n ps) in
    let bs : List Record = spread_records (drop (n + 1) ps) in
    let all : List Record = fs ++ (records_of p ++ bs) in
    let parts : spread_records ps ≡ all = in_midst ps n p at.chunk here in
    let passes : t one ≡ true = passes_found t (spread_records ps) one (here_found t ps n i p one at here is) in
    let within : i < length (records_of p) = here_within t ps n i p at here in
    let there : get_or all (length fs + i) one ≡ one = get_midst fs (records_of p) bs i one within ∙ sym is in
    let new : f one ≡ r = ap (λ (b : Bool). cond b (record_put_back k one) one) passes ∙ sym changed in
    let one_set : map f all ≡ set all (length fs + i) (f (get_or all (length fs + i) one)) =
    map-one t f (part_others k end) same_key (key_once k.ns k.id end) all (length fs + i) one
    (subst (λ (l : List Record). IsDistinct same_key l) parts apart)
    (omega (arith, within, length-append fs (records_of p ++ bs), length-append (records_of p) bs))
    (ap t there ∙ passes) in
    with_split ps qs n i p r at.chunk here edited
    ∙ sym (ap (map f) parts
    ∙ one_set
    ∙ ap (λ (x : Record). set all (length fs + i) x) (ap f there ∙ new)
    ∙ set_midst fs (records_of p) bs i r within)

-- ---- first the start and then the end
abbrev changed_so : Kept → Record → Bool → Bool → Record
changed_so k r e b = record r {
  pos = cond b (unwrap_or (kept_place k e) r.pos) r.pos;
  info = record r.info { hidden = cond (not e && b) k.hidden r.info.hidden };
}

pub other_record : (k : Kept) (r : Record) (e : Bool) → r.info.is_end ≡ e → belongs_to k.ns k.id r ≡ false → record_put_back k r ≡ r
other_record k r e is_e is_b =
    ap (λ (x : Bool). changed_so k r x (belongs_to k.ns k.id r)) is_e ∙ ap (changed_so k r e) is_b ∙ same e
  where
    same : (x : Bool) → changed_so k r x false ≡ r
    same true = refl
    same false = refl

start_part : (k : Kept) (r : Record) (e : Bool) → r.info.is_end ≡ e → (b : Bool) → belongs_to k.ns k.id r ≡ b
    → part_put_back k false r ≡ cond (not e && b) (record_put_back k r) r
start_part k r e is_e b is_b =
    ap (λ (x : Bool). cond (not x && belongs_to k.ns k.id r) (record_put_back k r) r) is_e
    ∙ ap (λ (x : Bool). cond (not e && x) (record_put_back k r) r) is_b

end_part : (k : Kept) (r : Record) (e : Bool) → r.info.is_end ≡ e → (b : Bool) → belongs_to k.ns k.id r ≡ b
    → part_put_back k true r ≡ cond (e && b) (record_put_back k r) r
end_part k r e is_e b is_b =
    ap (λ (x : Bool). cond (x && belongs_to k.ns k.id r) (record_put_back k r) r) is_e
    ∙ ap (λ (x : Bool). cond (e && x) (record_put_back k r) r) is_b

both_parts : (k : Kept) (r : Record) → part_put_back k true (part_put_back k false r) ≡ record_put_back k r
both_parts k r = by_case r.info.is_end refl (belongs_to k.ns k.id r) refl
  where
    by_case : (e : Bool) → r.info.is_end ≡ e → (b : Bool) → belongs_to k.ns k.id r ≡ b → part_put_back k true (part_put_back k false r) ≡ record_put_back k r
    by_case true is_e true is_b = ap (part_put_back k true) (start_part k r true is_e true is_b) ∙ end_part k r true is_e true is_b
    by_case true is_e false is_b =
        ap (part_put_back k true) (start_part k r true is_e false is_b) ∙ end_part k r true is_e false is_b ∙ sym (other_record k r true is_e is_b)
    by_case false is_e true is_b =
        ap (part_put_back k true) (start_part k r false is_e true is_b)
        ∙ ap (λ (x : Bool). cond (x && belongs_to k.ns k.id r) (record_put_back k (record_put_back k r)) (record_put_back k r)) is_e
    by_case false is_e false is_b =
        ap (part_put_back k true) (start_part k r false is_e false is_b) ∙ end_part k r false is_e false is_b ∙ sym (other_record k r false is_e is_b)

pub all_parts : (k : Kept) (rs : List Record) → map (part_put_back k true) (map (part_put_back k false) rs) ≡ map (record_put_back k) rs
all_parts k [] = refl
all_parts k (r ∷ rs) =
    ap (λ (q : Record). q ∷ map (part_put_back k true) (map (part_put_back k false) rs)) (both_parts k r)
    ∙ ap (λ (l : List Record). record_put_back k r ∷ l) (all_parts k rs)

-- keys stay
part_key : (k : Kept) (end : Bool) (x y : Record) → same_key (part_put_back k end x) (part_put_back k end y) ≡ same_key x y
part_key k end x y = by_case (has_key k.ns k.id end x) (has_key k.ns k.id end y)
  where
    by_case : (a b : Bool) → same_key (cond a (record_put_back k x) x) (cond b (record_put_back k y) y) ≡ same_key x y
    by_case true true = refl
    by_case true false = refl
    by_case false true = refl
    by_case false false = refl

pub apart_part : (k : Kept) (end : Bool) (rs qs : List Record) → qs ≡ map (part_put_back k end) rs → IsDistinct same_key rs → IsDistinct same_key qs
apart_part k end rs qs is apart =
    subst (λ (l : List Record). IsDistinct same_key l) (sym is) (distinct_map (part_put_back k end) (part_key k end) rs apart)

pub apart_one : (k : Kept) (rs qs : List Record) → qs ≡ one_put_back k rs → IsDistinct same_key rs → IsDistinct same_key qs
apart_one k rs qs is apart = subst (λ (l : List Record). IsDistinct same_key l) (sym is) (by_case (has_setting k (marks_among rs)))
  where
    by_case : (b : Bool) → IsDistinct same_key (cond b (map (record_put_back k) rs) rs)
    by_case true = distinct_map (record_put_back k) (λ x y. refl) rs apart
    by_case false = apart

length_one : (k : Kept) (rs : List Record) → length (one_put_back k rs) ≡ length rs
length_one k rs = by_case (has_setting k (marks_among rs))
  where
    by_case : (b : Bool) → length (cond b (map (record_put_back k) rs) rs) ≡ length rs
    by_case true = length-map rs (record_put_back k)
    by_case false = refl

pub length_back : (ks : List Kept) (rs : List Record) → length (all_put_back ks rs) ≡ length rs
length_back [] rs = refl
length_back (k ∷ ks) rs = length_back ks (one_put_back k rs) ∙ length_one k rs

-- ---- one after another
pub back_step : (ks : List Kept) (i : ℕ) (d : Kept) (rs qs : List Record) → i < length ks → qs ≡ one_put_back (get_or ks i d) rs
    → all_put_back (drop (i + 1) ks) qs ≡ all_put_back (drop i ks) rs
back_step ks i d rs qs within is =
    ap (all_put_back (drop (i + 1) ks)) is ∙ ap (λ (l : List Kept). all_put_back l rs) (sym (drop_more ks i d within))

pub back_end : (ks : List Kept) (i : ℕ) (rs : List Record) → length ks ≤ i → all_put_back (drop i ks) rs ≡ rs
back_end ks i rs past = ap (λ (l : List Kept). all_put_back l rs) (drop_all i ks past)

pub setting_at : (k : Kept) (rs : List Record) (x : Record) → find (has_key k.ns k.id false) rs ≡ Some x → eqb x.info.set k.set ≡ has_setting k (marks_among rs)
setting_at k rs x found =
    sym (ap (has_setting_by k) (mark_by_start rs rs k.ns k.id ∙ ap (option_map (mark_among rs)) found))

pub no_setting : (k : Kept) (rs : List Record) → find (has_key k.ns k.id false) rs ≡ None → false ≡ has_setting k (marks_among rs)
no_setting k rs none =
    sym (ap (has_setting_by k) (mark_by_start rs rs k.ns k.id ∙ ap (option_map (mark_among rs)) none))

pub absent_setting : (k : Kept) (ms : List Mark) → mark_at ms k.ns k.id ≡ None → false ≡ has_setting k ms
absent_setting k ms none = sym (ap (has_setting_by k) none)

-- ---- all records in order
refit_whole : (ps : List Piece) (rs : List Record) → refit_pieces zero (length ps) ps rs ≡ refilled_pieces ps rs
refit_whole [] rs = refl
refit_whole (p ∷ ps) rs = ap (λ (l : List Piece). written_piece (take (length p.kept) rs) p ∷ l) (refit_whole ps (drop (length p.kept) rs))

pub refit_all : (ps : List Piece) (rs : List Record) (n : ℕ) → n ≡ length ps → refit_pieces 0 (n - 0) ps rs ≡ refilled_pieces ps rs
refit_all ps rs n is =
    let all : n - 0 ≡ length ps = omega arith in
    ap (λ (m : ℕ). refit_pieces 0 m ps rs) all ∙ refit_whole ps rs

-- what is read of all chunks into an empty list
pub read_whole : (ps lent : List Piece) (had items : List Record) → had ≡ [] → lent ≡ ps → items ≡ had ++ spread_records lent → items ≡ spread_records ps
read_whole ps lent had items none same is =
    is ∙ ap (λ (l : List Record). l ++ spread_records lent) none ∙ ap spread_records same

pub sorted_laid : (ps qs : List Piece) (rs : List Record) → IsShaped ps → ForEach (λ r. IsNarrow r.pos) (spread_records ps)
    → IsPermutation (spread_records ps) rs → Sort rs → qs ≡ refilled_pieces ps rs
    → IsLaid qs × IsPermutation (spread_records ps) (spread_records qs)
sorted_laid ps qs rs shaped narrow same up is =
    let len : length rs ≡ length (spread_records ps) = length_permutation (spread_records ps) rs same in
    let back : spread_records (refilled_pieces ps rs) ≡ rs = spread_refilled ps rs shaped.fit len up in (
      subst (λ (l : List Piece). IsLaid l) (sym is) (record {
        fit = fit_same ps (refilled_pieces ps rs) (sym (sizes_refilled ps rs shaped.fit len)) (sym (rooms_refilled ps rs shaped.fit len)) shaped.fit;
        ample = ample_same ps (refilled_pieces ps rs) (sym (sizes_refilled ps rs shaped.fit len)) shaped.ample;
        based = refills_based ps rs shaped.fit len up;
        in_order = subst (λ (l : List Record). Sort l) (sym back) up;
        narrow = subst (λ (l : List Record). ForEach (λ r. IsNarrow r.pos) l) (sym back) (Each-permutation (λ r. IsNarrow r.pos) (spread_records ps) rs same narrow);
      }),
      subst (λ (l : List Record). IsPermutation (spread_records ps) l) (sym (ap spread_records is ∙ back)) same,
    )

-- ---- records that change as their marks do
far_put : (k : Kept) (rs : List Record) (ns id : ℕ)
    → end_among (map (record_put_back k) rs) ns id
    ≡ option_map (stop_put_back k (eqb ns k.ns && eqb id k.id)) (end_among rs ns id)
far_put k rs ns id =
    ap (option_map far_in) (find-map (has_key ns id true) (record_put_back k) (λ r. refl) rs)
    ∙ by_case (find (has_key ns id true) rs) (λ r is. passes_found (has_key ns id true) rs r is)
  where
    named_end : (r : Record) → has_key ns id true r ≡ true → belongs_to k.ns k.id r ≡ (eqb ns k.ns && eqb id k.id)
    named_end r key = grind (arith, nat_tests)

    by_case : (o : Option Record) → ((r : Record) → o ≡ Some r → has_key ns id true r ≡ true)
        → option_map far_in (option_map (record_put_back k) o)
        ≡ option_map (stop_put_back k (eqb ns k.ns && eqb id k.id)) (option_map far_in o)
    by_case None passes = refl
    by_case (Some r) passes =
        let key : has_key ns id true r ≡ true = passes r refl in
        let is_end : r.info.is_end ≡ true = grind (arith, nat_tests, key) in
        ap (λ (c : Bool). (let o : Option Far = Some (record { pos = cond c (unwrap_or (kept_place k r.info.is_end) r.pos) r.pos; right = r.info.right }) in o))
        (named_end r key)
        ∙ ap (λ (e : Bool). (let o : Option Far = Some (record { pos = cond (eqb ns k.ns && eqb id k.id) (unwrap_or (kept_place k e) r.pos) r.pos; right = r.info.right }) in o))
        is_end

mark_put : (k : Kept) (rs : List Record) (x : Record) → x.info.is_end ≡ false
    → mark_among (map (record_put_back k) rs) (record_put_back k x) ≡ mark_put_back k (mark_among rs x)
mark_put k rs x start =
    ap (λ (o : Option Far). (let m : Mark = record (mark_among rs (record_put_back k x)) { stop = o } in m))
    (far_put k rs x.info.ns x.info.id)
    ∙ ap (λ (e : Bool). (let m : Mark = record (mark_put_back k (mark_among rs x)) {
      start = cond (belongs_to k.ns k.id x) (unwrap_or (kept_place k e) x.pos) x.pos;
      hidden = cond (not e && belongs_to k.ns k.id x) k.hidden x.info.hidden;
    } in m)) start

records_put : (k : Kept) (m : Mark) → records_of_mark (mark_put_back k m) ≡ map (record_put_back k) (records_of_mark m)
records_put k m = of_mark m.stop
  where
    of_mark : (o : Option Far)
        → records_of_mark (mark_put_back k (record m { stop = o })) ≡ map (record_put_back k) (records_of_mark (record m { stop = o }))
    of_mark None = refl
    of_mark (Some far) = refl

marks_put_of : (k : Kept) (rs xs : List Record)
    → map (mark_among (map (record_put_back k) rs)) (filter is_start (map (record_put_back k) xs)) ≡ map (mark_put_back k) (map (mark_among rs) (filter is_start xs))
marks_put_of k rs [] = refl
marks_put_of k rs (x ∷ xs) = by_case (marks_put_of k rs xs) x.info.is_end refl
  where
    by_case : map (mark_among (map (record_put_back k) rs)) (filter is_start (map (record_put_back k) xs)) ≡ map (mark_put_back k) (map (mark_among rs) (filter is_start xs))
        → (b : Bool) → x.info.is_end ≡ b
        → map (mark_among (map (record_put_back k) rs)) (cond (not b) (record_put_back k x ∷ filter is_start (map (record_put_back k) xs)) (filter is_start (map (record_put_back k) xs)))
        ≡ map (mark_put_back k) (map (mark_among rs) (cond (not b) (x ∷ filter is_start xs) (filter is_start xs)))
    by_case rest true is = rest
    by_case rest false is =
        ap (λ (m : Mark). m ∷ map (mark_among (map (record_put_back k) rs)) (filter is_start (map (record_put_back k) xs))) (mark_put k rs x is)
        ∙ ap (λ (l : List Mark). mark_put_back k (mark_among rs x) ∷ l) rest

marks_put : (k : Kept) (rs : List Record) → marks_among (map (record_put_back k) rs) ≡ map (mark_put_back k) (marks_among rs)
marks_put k rs = marks_put_of k rs rs

records_all : (k : Kept) (ms : List Mark) → records_of_marks (map (mark_put_back k) ms) ≡ map (record_put_back k) (records_of_marks ms)
records_all k [] = refl
records_all k (m ∷ ms) =
    ap (λ (l : List Record). l ++ records_of_marks (map (mark_put_back k) ms)) (records_put k m)
    ∙ ap (λ (l : List Record). map (record_put_back k) (records_of_mark m) ++ l) (records_all k ms)
    ∙ sym (map-append (record_put_back k) (records_of_mark m) (records_of_marks ms))

-- an index stays one
pub names_one : (k : Kept) (rs : List Record) (ns id : ℕ) → is_some (mark_at (marks_among (one_put_back k rs)) ns id) ≡ is_some (mark_at (marks_among rs) ns id)
names_one k rs ns id = by_case (has_setting k (marks_among rs))
  where
    by_mark : (o : Option Mark) → is_some (option_map (mark_put_back k) o) ≡ is_some o
    by_mark None = refl
    by_mark (Some m) = refl

    by_case : (b : Bool) → is_some (mark_at (marks_among (cond b (map (record_put_back k) rs) rs)) ns id) ≡ is_some (mark_at (marks_among rs) ns id)
    by_case true =
        ap (λ (l : List Mark). is_some (mark_at l ns id)) (marks_put k rs)
        ∙ ap is_some (find-map (is_named ns id) (mark_put_back k) (λ m. refl) (marks_among rs)) ∙ by_mark (mark_at (marks_among rs) ns id)
    by_case false = refl

pub index_one : (k : Kept) (names : List (ℕ × Reverse ℕ)) (rs qs : List Record) → qs ≡ one_put_back k rs → IsIndexOf names (marks_among rs) → IsIndexOf names (marks_among qs)
index_one k names rs qs is index ns id =
    index ns id ∙ sym (ap (λ (l : List Record). is_some (mark_at (marks_among l) ns id)) is ∙ names_one k rs ns id)

-- ---- by name, if the mark is there under the same setting
module _ (k : Kept) where
  abbrev named : Bool → Option Far → Mark → Mark
  named b o m = record m {
    start = cond b (unwrap_or k.start m.start) m.start;
    stop = option_map (stop_put_back k b) o;
    hidden = cond b k.hidden m.hidden;
  }

  other_mark : (m : Mark) → is_named k.ns k.id m ≡ false → mark_put_back k m ≡ m
  other_mark m other = ap (λ (b : Bool). named b m.stop m) other ∙ by_stop m.stop
    where
      by_stop : (o : Option Far) → named false o m ≡ (let q : Mark = record m { stop = o } in q)
      by_stop None = refl
      by_stop (Some far) = refl

  pub other_kept : (m : Mark) → is_named k.ns k.id m ≡ false → put_back_by k m ≡ m
  other_kept m other =
      ap (λ (b : Bool). cond (b && eqb m.set k.set) (record m { start = unwrap_or k.start m.start; stop = option_map (far_put_back k) m.stop; hidden = k.hidden }) m) other

  by_setting : (m : Mark) → is_named k.ns k.id m ≡ true → put_back_by k m ≡ cond (eqb m.set k.set) (mark_put_back k m) m
  by_setting m is =
      ap (λ (b : Bool). cond (b && eqb m.set k.set) (record m { start = unwrap_or k.start m.start; stop = option_map (far_put_back k) m.stop; hidden = k.hidden }) m) is
      ∙ ap (λ (q : Mark). cond (eqb m.set k.set) q m) (sym (ap (λ (b : Bool). named b m.stop m) is))

  pub put_by_name : (ms : List Mark) → IsDistinct same_name ms → map (put_back_by k) ms ≡ cond (has_setting k ms) (map (mark_put_back k) ms) ms
  put_by_name [] apart = refl
  put_by_name (m ∷ ms) apart = by_case (is_named k.ns k.id m) refl (put_by_name ms (IsDistinct-tail same_name m ms apart))
    where
      by_case : (b : Bool) → is_named k.ns k.id m ≡ b → map (put_back_by k) ms ≡ cond (has_setting k ms) (map (mark_put_back k) ms) ms
          → put_back_by k m ∷ map (put_back_by k) ms
          ≡ cond (has_setting_by k (cond b (Some m) (mark_at ms k.ns k.id))) (mark_put_back k m ∷ map (mark_put_back k) ms) (m ∷ ms)
      by_case true is rest =
          let none = others_fail same_name (is_named k.ns k.id) (named_once k.ns k.id) m ms is apart in
          ap (λ (q : Mark). q ∷ map (put_back_by k) ms) (by_setting m is)
          ∙ ap (λ (l : List Mark). cond (eqb m.set k.set) (mark_put_back k m) m ∷ l) (map-others (is_named k.ns k.id) (put_back_by k) other_kept ms none)
          ∙ both (eqb m.set k.set) (map-others (is_named k.ns k.id) (mark_put_back k) other_mark ms none)
        where
          both : (c : Bool) → map (mark_put_back k) ms ≡ ms → cond c (mark_put_back k m) m ∷ ms ≡ cond c (mark_put_back k m ∷ map (mark_put_back k) ms) (m ∷ ms)
          both true same = ap (λ (l : List Mark). mark_put_back k m ∷ l) (sym same)
          both false same = refl
      by_case false is rest =
          ap (λ (q : Mark). q ∷ map (put_back_by k) ms) (other_kept m is)
          ∙ by_rest (has_setting k ms) rest
        where
          by_rest : (c : Bool) → map (put_back_by k) ms ≡ cond c (map (mark_put_back k) ms) ms
              → m ∷ map (put_back_by k) ms ≡ cond c (mark_put_back k m ∷ map (mark_put_back k) ms) (m ∷ ms)
          by_rest true same = ap (λ (q : Mark). q ∷ map (put_back_by k) ms) (sym (other_mark m is)) ∙ ap (λ (l : List Mark). mark_put_back k m ∷ l) same
          by_rest false same = ap (λ (l : List Mark). m ∷ l) same

-- ---- records that are those of marks, each once
record IsWhole (rs : List Record) : Type 0 where
  once : IsDistinct same_key rs
  all : IsPermutation (records_of_marks (marks_among rs)) rs
  distinct : IsDistinct same_name (marks_among rs)

whole_one : (k : Kept) (rs : List Record) → IsWhole rs → IsWhole (one_put_back k rs) × (marks_among (one_put_back k rs) ≡ map (put_back_by k) (marks_among rs))
whole_one k rs whole = by_case (has_setting k (marks_among rs)) (put_by_name k (marks_among rs) whole.distinct)
  where
    by_case : (b : Bool) → map (put_back_by k) (marks_among rs) ≡ cond b (map (mark_put_back k) (marks_among rs)) (marks_among rs)
        → IsWhole (cond b (map (record_put_back k) rs) rs) × (marks_among (cond b (map (record_put_back k) rs) rs) ≡ map (put_back_by k) (marks_among rs))
    by_case true is = (
      record {
        once = distinct_map (record_put_back k) (λ x y. refl) rs whole.once;
        all = subst (λ (l : List Mark). IsPermutation (records_of_marks l) (map (record_put_back k) rs)) (sym (marks_put k rs))
            (subst (λ (l : List Record). IsPermutation l (map (record_put_back k) rs)) (sym (records_all k (marks_among rs)))
            (IsPermutation-map (record_put_back k) (records_of_marks (marks_among rs)) rs whole.all));
        distinct = subst (λ (l : List Mark). IsDistinct same_name l) (sym (marks_put k rs))
            (IsDistinct-map (mark_put_back k) (λ m j. refl) (marks_among rs) whole.distinct);
      },
      marks_put k rs ∙ sym is,
    )
    by_case false is = (whole, sym is)

whole_all : (ks : List Kept) (rs : List Record) → IsWhole rs → IsWhole (all_put_back ks rs) × (marks_among (all_put_back ks rs) ≡ map (put_back_mark ks) (marks_among rs))
whole_all [] rs whole = (whole, sym (same (marks_among rs)))
  where
    same : (ms : List Mark) → map (put_back_mark []) ms ≡ ms
    same [] = refl
    same (m ∷ ms) = ap (λ (l : List Mark). m ∷ l) (same ms)
whole_all (k ∷ ks) rs whole =
    let first = whole_one k rs whole in
    let rest = whole_all ks (one_put_back k rs) first.0 in
    (rest.0, rest.1 ∙ ap (map (put_back_mark ks)) first.1 ∙ map-map (put_back_mark ks) (put_back_by k) (marks_among rs))

-- ---- names stay
ns_kept : (k : Kept) (m : Mark) → (put_back_by k m).ns ≡ m.ns
ns_kept k m = by_case (is_of_kept k m)
  where
    by_case : (b : Bool)
        → (cond b (record m { start = unwrap_or k.start m.start; stop = option_map (far_put_back k) m.stop; hidden = k.hidden }) m).ns ≡ m.ns
    by_case true = refl
    by_case false = refl

id_kept : (k : Kept) (m : Mark) → (put_back_by k m).id ≡ m.id
id_kept k m = by_case (is_of_kept k m)
  where
    by_case : (b : Bool)
        → (cond b (record m { start = unwrap_or k.start m.start; stop = option_map (far_put_back k) m.stop; hidden = k.hidden }) m).id ≡ m.id
    by_case true = refl
    by_case false = refl

ns_stays : (ks : List Kept) (m : Mark) → (put_back_mark ks m).ns ≡ m.ns
ns_stays [] m = refl
ns_stays (k ∷ ks) m = ns_stays ks (put_back_by k m) ∙ ns_kept k m

id_stays : (ks : List Kept) (m : Mark) → (put_back_mark ks m).id ≡ m.id
id_stays [] m = refl
id_stays (k ∷ ks) m = id_stays ks (put_back_by k m) ∙ id_kept k m

-- ---- a set with what was kept put back
module _ (ks : List Kept) (ps qs : List Piece) (greatest : List (ℕ × ℕ)) (stored : HoldsMarks ps greatest) (laid : IsLaid qs)
    (same : IsPermutation (all_put_back ks (spread_records ps)) (spread_records qs)) where
  abbrev now : List Record
  now = all_put_back ks (spread_records ps)

  whole : IsWhole now × (marks_among now ≡ map (put_back_mark ks) (marks_among (spread_records ps)))
  whole = whole_all ks (spread_records ps) (record { once = stored.once; all = stored.all; distinct = stored.sound.distinct })

  ordered : IsInOrder (marks_among now) (marks_among (spread_records qs))
  ordered = marks_in_order now (spread_records qs) same whole.0.once laid.in_order

  pub ordered_back : IsInOrder (map (put_back_mark ks) (marks_among (spread_records ps))) (marks_among (spread_records qs))
  ordered_back = subst (λ (l : List Mark). IsInOrder l (marks_among (spread_records qs))) whole.1 ordered

  apart_back : IsDistinct same_name (map (put_back_mark ks) (marks_among (spread_records ps)))
  apart_back = subst (λ (l : List Mark). IsDistinct same_name l) whole.1 whole.0.distinct

  pub stored_back : HoldsMarks qs greatest
  stored_back = record {
    laid = laid;
    once = IsDistinct-IsPermutation same_key key_flips now (spread_records qs) same whole.0.once;
    all = IsPermutation-trans (records_of_marks (marks_among (spread_records qs))) now (spread_records qs)
        (IsPermutation-trans (records_of_marks (marks_among (spread_records qs))) (records_of_marks (marks_among now)) now
        (IsPermutation-sym (records_of_marks (marks_among now)) (records_of_marks (marks_among (spread_records qs)))
        (IsPermutation-flat records_of_mark (marks_among now) (marks_among (spread_records qs)) ordered.same_marks))
        whole.0.all)
        same;
    sound = sound_in_order (map (put_back_mark ks) (marks_among (spread_records ps))) (marks_among (spread_records qs)) greatest apart_back
        (All-map (λ m. m.id ≤ greatest_id greatest m.ns) (put_back_mark ks) (marks_among (spread_records ps))
        (All-weaker (λ m. m.id ≤ greatest_id greatest m.ns) (λ m. (put_back_mark ks m).id ≤ greatest_id greatest (put_back_mark ks m).ns) counts
        (marks_among (spread_records ps)) stored.sound.counted))
        ordered_back;
  }
    where
      counts : (m : Mark) → m.id ≤ greatest_id greatest m.ns → (put_back_mark ks m).id ≤ greatest_id greatest (put_back_mark ks m).ns
      counts m few =
          subst (λ (n : ℕ). (put_back_mark ks m).id ≤ greatest_id greatest n) (sym (ns_stays ks m))
          (subst (λ (i : ℕ). i ≤ greatest_id greatest m.ns) (sym (id_stays ks m)) few)

  pub found_back : (ns id : ℕ) → mark_at (marks_among (spread_records qs)) ns id ≡ option_map (put_back_mark ks) (mark_at (marks_among (spread_records ps)) ns id)
  found_back ns id =
      mark_at-in_order (map (put_back_mark ks) (marks_among (spread_records ps))) (marks_among (spread_records qs)) apart_back ordered_back ns id
      ∙ find-map (is_named ns id) (put_back_mark ks) named_so (marks_among (spread_records ps))
    where
      named_so : (m : Mark) → is_named ns id (put_back_mark ks m) ≡ is_named ns id m
      named_so m = ap (λ (n : ℕ). eqb n ns && eqb (put_back_mark ks m).id id) (ns_stays ks m) ∙ ap (λ (i : ℕ). eqb m.ns ns && eqb i id) (id_stays ks m)

  pub count_back : length (marks_among (spread_records qs)) ≡ length (marks_among (spread_records ps))
  count_back =
      length_permutation (map (put_back_mark ks) (marks_among (spread_records ps))) (marks_among (spread_records qs)) ordered_back.same_marks
      ∙ length-map (marks_among (spread_records ps)) (put_back_mark ks)
