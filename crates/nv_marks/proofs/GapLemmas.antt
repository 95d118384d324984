-- A splice in whose replaced part no record stands: the records of its chunk keep their order.
use Rattle.std.proofs.Common.{◌≡◌, ◌≤◌, ◌<◌, ◌+◌, ◌-◌, List, [], ◌∷◌, ◌++◌, ℕ, zero, suc, refl, ap, sym, ◌∙◌, length, length-append, take, drop, get_or, map, not, leb, arith, Bool, true, false, subst}
use Rattle.std.specs.Prelude.{IsPermutation}
use Rattle.std.specs.List.Sorted.{IsPartitionPoint, IsPartitionedBy}
use Rattle.std.proofs.lemmas.Bool.Decides.{nat_tests}
use Rattle.std.proofs.lemmas.List.{length-map, length-take-le, length-drop, take-append-drop, take-map, drop-map, map-append, take_all, get_or_default}
use Rattle.std.proofs.lemmas.List.Sorted.{IsPermutation-refl}
use Rattle.nv_places.specs.declared.place.Pos.{Pos}
use Rattle.nv_places.specs.declared.place.Extent.{Extent}
use Rattle.nv_places.specs.Places.{further, is_before}
use Rattle.nv_places.specs.Moves.{moved_place}
use Rattle.nv_marks.specs.declared.record.Record.{Record}
use Rattle.nv_marks.specs.declared.record.Relative.{Relative}
use Rattle.nv_marks.specs.inside.Records.{ForEach, Sort, precedes, moved_record}
use Rattle.nv_marks.specs.inside.Chunks.{Piece, IsGap, IsMovedPart, placed_record, kept_from, records_of, spread_records, base_of, refilled_piece, written_piece, piece_written_from, refit_pieces, IsFit, IsBased, IsLaid, held_records, pieces_edited_at}
use Rattle.nv_marks.proofs.EachLemmas.{Each-weaker, Each-map, Each-get_or, Each-take, Each-drop, point_front, point_rest}
use Rattle.nv_marks.proofs.PlacesLemmas.{follows, moved-before, moved-behind, carried-rows, further-row, later_row}
use Rattle.nv_marks.proofs.SpreadLemmas.{length-records, in_order_again, spread_at}
use Rattle.nv_marks.proofs.WordLemmas.{written_is, written-midst, refit_more, refit_end}
use Rattle.nv_marks.proofs.EditLemmas.{no_piece, held_one, held_up}
use Rattle.nv_marks.proofs.RemoveLemmas.{three}
use Rattle.nv_marks.proofs.InPlaceLemmas.{parts_of, parts_kept, front_back, rest_back, refilled_as, edited_as, lent_piece}

-- ---- where no record stands in the replaced part
pub kept_to_row : (base : Pos) (row : ℕ) (ks : List Relative) → Sort (map (placed_record base) ks) → IsPartitionedBy (λ k. leb (further base k.by).row row) ks
kept_to_row base row ks up = parts_kept (placed_record base) (λ r. leb r.pos.row row) ks (parts_of (λ r. leb r.pos.row row) down (map (placed_record base) ks) up)
  where
    earlier_too : (p q : Pos) → is_before q p ≡ false → leb q.row row ≡ true → leb p.row row ≡ true
    earlier_too p q later before = grind (arith, nat_tests)

    down : (r q : Record) → precedes q r ≡ false → leb q.pos.row row ≡ true → leb r.pos.row row ≡ true
    down r q later before = earlier_too r.pos q.pos (follows q r later) before

not_so : (b : Bool) → not b ≡ false → b ≡ true
not_so true is = refl
not_so false is = absurd (cc)

not_up_to : (row at : ℕ) → leb at row ≡ false → row < at
not_up_to row at is = grind (arith, nat_tests)

pub gap_is : (start end base : Pos) (ks rest : List Relative) (n held m : ℕ) → rest ≡ drop n ks → n ≤ length ks → m ≤ length rest → 0 < n → held ≡ 0
    → IsPartitionPoint (λ k. is_before (further base k.by) start ≡ true) (λ k. is_before (further base k.by) start ≡ false) ks n
    → IsPartitionPoint (λ k. not (is_before end (further base k.by)) ≡ true) (λ k. not (is_before end (further base k.by)) ≡ false) rest held
    → IsPartitionPoint (λ k. leb (further base k.by).row end.row ≡ true) (λ k. leb (further base k.by).row end.row ≡ false) rest m
    → IsGap start end (map (placed_record base) ks) n m
gap_is start end base ks rest n held m rest_is fits fits_rest some none front back row =
    let rs : List Record = map (placed_record base) ks in
    let far : ForEach (λ k. not (is_before end (further base k.by)) ≡ false) rest =
    subst (λ (i : ℕ). ForEach (λ k. not (is_before end (further base k.by)) ≡ false) (drop i rest)) none
    (point_rest (λ k. not (is_before end (further base k.by))) rest held back) in
    let mapped : map (placed_record base) rest ≡ drop n rs = ap (map (placed_record base)) rest_is ∙ sym (drop-map (placed_record base) n ks) in
    record {
      some = some;
      within = omega (arith, length-map ks (placed_record base), ap length rest_is, length-drop n ks);
      front = subst (λ (l : List Record). ForEach (λ r. is_before r.pos start ≡ true) l) (sym (take-map (placed_record base) n ks))
          (Each-map (λ r. is_before r.pos start ≡ true) (placed_record base) (take n ks) (point_front (λ k. is_before (further base k.by) start) ks n front));
      behind = subst (λ (l : List Record). ForEach (λ r. is_before end r.pos ≡ true) l) mapped
          (Each-map (λ r. is_before end r.pos ≡ true) (placed_record base) rest
          (Each-weaker (λ (k : Relative). not (is_before end (further base k.by)) ≡ false) (λ (k : Relative). is_before end (further base k.by) ≡ true)
          (λ k is. not_so (is_before end (further base k.by)) is) rest far));
      later = subst (λ (l : List Record). ForEach (λ r. end.row < r.pos.row) l) (sym (drop-map (placed_record base) m rest) ∙ ap (drop m) mapped)
          (Each-map (λ r. end.row < r.pos.row) (placed_record base) (drop m rest)
          (Each-weaker (λ (k : Relative). leb (further base k.by).row end.row ≡ false) (λ (k : Relative). end.row < (further base k.by).row)
          (λ k is. not_up_to end.row (further base k.by).row is) (drop m rest) (point_rest (λ k. leb (further base k.by).row end.row) rest m row)));
    }

-- ---- the records moved
map_before : (start : Pos) (old new : Extent) (rs : List Record) → ForEach (λ r. is_before r.pos start ≡ true) rs → map (moved_record start old new) rs ≡ rs
map_before start old new [] before = refl
map_before start old new (r ∷ rs) before =
    ap (λ (p : Pos). (let q : Record = record { pos = p; info = r.info } in q) ∷ map (moved_record start old new) rs)
    (moved-before r.info.right start old new r.pos before.0)
    ∙ ap (λ (l : List Record). r ∷ l) (map_before start old new rs before.1)

stays : (right : Bool) (start : Pos) (old new : Extent) (p : Pos) → (further start old).row < p.row → old.rows ≡ new.rows → moved_place right start old new p ≡ p
stays right start old new p later same =
    let back : p.row - (further start old).row + (further start new).row ≡ p.row = omega (arith, further-row start old, further-row start new) in
    moved-behind right start old new p (later_row (further start old) p later) ∙ carried-rows (further start old) (further start new) p later
    ∙ (λ i. record { row = back i; col = p.col })

map_later : (start : Pos) (old new : Extent) (rs : List Record) → old.rows ≡ new.rows → ForEach (λ r. (further start old).row < r.pos.row) rs
    → map (moved_record start old new) rs ≡ rs
map_later start old new [] same later = refl
map_later start old new (r ∷ rs) same later =
    ap (λ (p : Pos). (let q : Record = record { pos = p; info = r.info } in q) ∷ map (moved_record start old new) rs)
    (stays r.info.right start old new r.pos later.0 same)
    ∙ ap (λ (l : List Record). r ∷ l) (map_later start old new rs same later.1)

module _ (start : Pos) (old new : Extent) (rs : List Record) (n m : ℕ) (gap : IsGap start (further start old) rs n m) where
  halves : rs ≡ take n rs ++ drop n rs
  halves = sym (take-append-drop n rs)

  moved_halves : map (moved_record start old new) rs ≡ take n rs ++ map (moved_record start old new) (drop n rs)
  moved_halves =
      ap (map (moved_record start old new)) halves ∙ map-append (moved_record start old new) (take n rs) (drop n rs)
      ∙ ap (λ (l : List Record). l ++ map (moved_record start old new) (drop n rs)) (map_before start old new (take n rs) gap.front)

  pub sorted_moved : Sort rs → Sort (map (moved_record start old new) rs)
  sorted_moved up =
      subst (λ (l : List Record). Sort l) (sym moved_halves)
      (in_order_again start old new (take n rs) [] (drop n rs) [] (subst (λ (l : List Record). Sort l) halves up) gap.front gap.behind (IsPermutation-refl []) tt)

  pub moved_thirds : old.rows ≡ new.rows
      → map (moved_record start old new) rs ≡ take n rs ++ (map (moved_record start old new) (take m (drop n rs)) ++ drop m (drop n rs))
  moved_thirds same =
      moved_halves
      ∙ ap (λ (l : List Record). take n rs ++ l) (ap (map (moved_record start old new)) (sym (take-append-drop m (drop n rs)))
      ∙ map-append (moved_record start old new) (take m (drop n rs)) (drop m (drop n rs))
      ∙ ap (λ (l : List Record). map (moved_record start old new) (take m (drop n rs)) ++ l) (map_later start old new (drop m (drop n rs)) same gap.later))

-- the records from a place on as they are kept
midst_back : (base : Pos) (ks : List Relative) (n m : ℕ) → map (kept_from base) (drop m (drop n (map (placed_record base) ks))) ≡ drop m (drop n ks)
midst_back base ks n m = ap (map (kept_from base)) (ap (drop m) (drop-map (placed_record base) n ks)) ∙ rest_back base (drop n ks) m

-- the first record stays, so the base does
first_before : (start : Pos) (base : Pos) (ks : List Relative) (fs rest : List Record) (n : ℕ) → base_of (map (placed_record base) ks) ≡ base → 0 < n
    → 0 < length ks → fs ≡ take n (map (placed_record base) ks) → base_of (fs ++ rest) ≡ base
first_before start base [] fs rest n based later some is = absurd (omega arith)
first_before start base (k ∷ ks) fs rest zero based later some is = absurd (omega arith)
first_before start base (k ∷ ks) fs rest (suc n) based later some is = ap (λ (l : List Record). base_of (l ++ rest)) is ∙ based

module _ (start : Pos) (old new : Extent) (p : Piece) (n m : ℕ) (based : IsBased p) (fit : IsFit p) (same : old.rows ≡ new.rows)
    (gap : IsGap start (further start old) (records_of p) n m) where
  written_moved : piece_written_from n p.base (map (moved_record start old new) (take m (drop n (records_of p)))) p
      ≡ refilled_piece (map (moved_record start old new) (records_of p)) p
  written_moved =
      let f : Record → Record = moved_record start old new in
      let rs : List Record = records_of p in
      let ms : List Record = map f (take m (drop n rs)) in
      let len : length p.kept ≡ length rs = sym (length-records p) in
      let fits : n + m ≤ length rs = gap.within in
      let front : length (take n p.kept) ≡ n = length-take-le n p.kept (omega arith) in
      let middle : length (take m (drop n p.kept)) ≡ length ms =
      length-take-le m (drop n p.kept) (omega (arith, length-drop n p.kept))
      ∙ sym (length-map (take m (drop n rs)) f ∙ length-take-le m (drop n rs) (omega (arith, length-drop n rs))) in
      let parts : p.kept ≡ take n p.kept ++ (take m (drop n p.kept) ++ drop m (drop n p.kept)) =
      sym (ap (λ (l : List Relative). take n p.kept ++ l) (take-append-drop m (drop n p.kept)) ∙ take-append-drop n p.kept) in
      let thirds : map f rs ≡ take n rs ++ (ms ++ drop m (drop n rs)) = moved_thirds start old new rs n m gap same in
      let base_is : base_of (map f rs) ≡ p.base =
      ap base_of thirds ∙ first_before start p.base p.kept (take n rs) (ms ++ drop m (drop n rs)) n based gap.some fit.some refl in
      let kept_is : map (kept_from p.base) (map f rs) ≡ take n p.kept ++ (map (kept_from p.base) ms ++ drop m (drop n p.kept)) =
      ap (map (kept_from p.base)) thirds ∙ map-append (kept_from p.base) (take n rs) (ms ++ drop m (drop n rs))
      ∙ ap (λ (l : List Relative). l ++ map (kept_from p.base) (ms ++ drop m (drop n rs))) (front_back p.base p.kept n)
      ∙ ap (λ (l : List Relative). take n p.kept ++ l) (map-append (kept_from p.base) ms (drop m (drop n rs))
      ∙ ap (λ (l : List Relative). map (kept_from p.base) ms ++ l) (midst_back p.base p.kept n m)) in
      ap (λ (l : List Relative). piece_written_from n p.base ms (record { base = p.base; kept = l; room = p.room })) parts
      ∙ written-midst (take n p.kept) (take m (drop n p.kept)) (drop m (drop n p.kept)) p.base p.room n ms front middle
      ∙ refilled_as p.base (take n p.kept ++ (map (kept_from p.base) ms ++ drop m (drop n p.kept))) p (map f rs) (sym kept_is) base_is

  pub written_all : piece_written_from n p.base (map (moved_record start old new) (take m (drop n (records_of p)))) p
      ≡ written_piece (take (length p.kept) (map (moved_record start old new) (records_of p))) p
  written_all =
      let rs : List Record = map (moved_record start old new) (records_of p) in
      let len : length rs ≡ length p.kept = length-map (records_of p) (moved_record start old new) ∙ length-records p in
      let all : take (length p.kept) rs ≡ rs = take_all (length p.kept) rs (omega arith) in
      written_moved ∙ sym (ap (λ (l : List Record). written_piece l p) all ∙ written_is rs p (omega (arith, fit.some)) (sym len))

-- one chunk that is written
refit_one : (ps : List Piece) (n : ℕ) (rs : List Record) → n < length ps
    → refit_pieces n 1 ps rs ≡ pieces_edited_at n (written_piece (take (length (get_or ps n no_piece).kept) rs)) ps
refit_one ps n rs within =
    let p : Piece = get_or ps n no_piece in
    sym (refit_more n 0 ps rs p within (get_or_default ps n no_piece p within))
    ∙ refit_end (n + 1) (pieces_edited_at n (written_piece (take (length p.kept) rs)) ps) (drop (length p.kept) rs)

pub shifted : (start : Pos) (old new : Extent) (ps qs : List Piece) (n first count : ℕ) (p b : Piece) (base : Pos) (read moved : List Record)
    → IsLaid ps → n < length ps → old.rows ≡ new.rows → IsGap start (further start old) (held_records n 1 ps) first count
    → p ≡ get_or ps n p → b ≡ get_or ps n b → base ≡ b.base → read ≡ take count (drop first (records_of p)) → moved ≡ map (moved_record start old new) read
    → qs ≡ pieces_edited_at n (piece_written_from first base moved) ps → IsMovedPart start old new n (n + 1) ps qs
shifted start old new ps qs n first count p b base read moved laid within rows gap lent lent_b base_is read_is moved_is put =
    let x : Piece = get_or ps n no_piece in
    let f : Record → Record = moved_record start old new in
    let is : p ≡ x = lent_piece ps n p within lent in
    let held : held_records n 1 ps ≡ records_of x = held_one ps n no_piece within in
    let gap_x : IsGap start (further start old) (records_of x) first count = subst (λ (l : List Record). IsGap start (further start old) l first count) held gap in
    let up : Sort (records_of x) = subst (λ (l : List Record). Sort l) held (held_up ps n laid within) in
    let one : n + 1 - n ≡ 1 = omega arith in
    let words : piece_written_from first base moved x ≡ piece_written_from first x.base (map f (take count (drop first (records_of x)))) x =
    ap (λ (b : Pos). piece_written_from first b moved x) (base_is ∙ ap (λ (q : Piece). q.base) (lent_piece ps n b within lent_b))
    ∙ ap (λ (l : List Record). piece_written_from first x.base l x)
    (moved_is ∙ ap (map f) (read_is ∙ ap (λ (q : Piece). take count (drop first (records_of q))) is)) in
    record {
      records = map f (records_of x);
      same = subst (λ (l : List Record). IsPermutation (map f l) (map f (records_of x)))
          (sym (ap (λ (k : ℕ). spread_records (take k (drop n ps))) one ∙ held)) (IsPermutation-refl (map f (records_of x)));
      in_order = sorted_moved start old new (records_of x) first count gap_x up;
      put = put
          ∙ edited_as n (piece_written_from first base moved) (written_piece (take (length x.kept) (map f (records_of x)))) ps within
          (words ∙ written_all start old new x first count (Each-get_or IsBased ps n no_piece within laid.based) (Each-get_or IsFit ps n no_piece within laid.fit) rows gap_x)
          ∙ sym (refit_one ps n (map f (records_of x)) within)
          ∙ sym (ap (λ (k : ℕ). refit_pieces n k ps (map f (records_of x))) one);
    }

-- what of a chunk is read and moved
pub part_moves : (P : Record → Type 0) (ps : List Piece) (n first count : ℕ) (p : Piece) (read lent : List Record) → n < length ps → p ≡ get_or ps n p
    → read ≡ take count (drop first (records_of p)) → lent ≡ read → ForEach P (spread_records ps) → ForEach P lent
part_moves P ps n first count p read lent within is read_is lent_is each =
    subst (λ (l : List Record). ForEach P l) (sym (lent_is ∙ read_is))
    (Each-take P count (drop first (records_of p)) (Each-drop P first (records_of p)
    (subst (λ (q : Piece). ForEach P (records_of q)) (sym is) (spread_at P ps n p within each))))

pub gap_fits : (start end : Pos) (ps : List Piece) (n first count : ℕ) (p : Piece) → n < length ps → p ≡ get_or ps n p → IsGap start end (held_records n 1 ps) first count
    → first + count ≤ length p.kept
gap_fits start end ps n first count p within is gap =
    omega (arith, gap.within, ap length (held_one ps n p within ∙ ap records_of (sym is)), length-records p)

pub gap_room : (start end : Pos) (ps : List Piece) (n first count used space : ℕ) → n < length ps → IsGap start end (held_records n 1 ps) first count
    → used ≡ 0 → length (spread_records ps) ≤ space → used + count ≤ space
gap_room start end ps n first count used space within gap empty room =
    omega (
      arith,
      gap.within,
      ap length (three ps n 1),
      length-append (held_records 0 n ps) (held_records n 1 ps ++ spread_records (drop (n + 1) ps)),
      length-append (held_records n 1 ps) (spread_records (drop (n + 1) ps)),
    )

-- what is read into an empty list
pub read_of : (had items part : List Record) → had ≡ [] → items ≡ had ++ part → items ≡ part
read_of had items part none is = is ∙ ap (λ (l : List Record). l ++ part) none
