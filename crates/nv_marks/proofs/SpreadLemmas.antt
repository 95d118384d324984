-- Records in chunks: what is read back of what was written_piece, and what a move of a base means.
use Rattle.std.proofs.Common.{◌≡◌, ◌≤◌, ◌<◌, ◌+◌, List, [], ◌∷◌, ◌++◌, ℕ, zero, suc, refl, ap, sym, ◌∙◌, append_assoc, length, length-append, take, drop, get_or, map, arith, true, false, subst}
use Rattle.std.specs.Prelude.{IsPermutation}
use Rattle.std.proofs.lemmas.List.{length-take-le, length-drop, length-map, take-append-drop, map-append, append-nil, take_more}
use Rattle.nv_places.specs.declared.place.Pos.{Pos}
use Rattle.nv_places.specs.declared.place.Extent.{Extent}
use Rattle.nv_places.specs.Places.{further, is_before}
use Rattle.nv_places.specs.Moves.{moved_place}
use Rattle.nv_marks.specs.declared.record.Record.{Record}
use Rattle.nv_marks.specs.declared.record.Relative.{Relative}
use Rattle.nv_marks.specs.inside.Records.{ForEach, Sort, precedes, moved_record}
use Rattle.nv_marks.specs.inside.Chunks.{Piece, placed_record, kept_from, records_of, spread_records, base_of, refilled_piece, IsFit, IsBased, Ample, written_piece, refit_pieces, refilled_pieces, carried_piece, pieces_carried_from}
use Rattle.nv_marks.proofs.EachLemmas.{Each-append, Each-left, Each-right, Each-weaker, Each-permutation, Rises-left, Rises-right, Rises-cross, Rises-append}
use Rattle.nv_marks.proofs.PlacesLemmas.{follows, before_itself, reached, carried_with, behind_base, cross_front, cross_behind, behind_order}
use Rattle.nv_marks.proofs.WordLemmas.{written_is}

-- ---- chunks one after another
pub spread-append : (ps qs : List Piece) → spread_records (ps ++ qs) ≡ spread_records ps ++ spread_records qs
spread-append [] qs = refl
spread-append (p ∷ ps) qs =
    ap (λ (l : List Record). records_of p ++ l) (spread-append ps qs) ∙ sym (append_assoc (records_of p) (spread_records ps) (spread_records qs))

pub length-records : (p : Piece) → length (records_of p) ≡ length p.kept
length-records p = length-map p.kept (placed_record p.base)

-- ---- what is read back
read_each : (base : Pos) (rs : List Record) → ForEach (λ r. is_before r.pos base ≡ false) rs → map (placed_record base) (map (kept_from base) rs) ≡ rs
read_each base [] from = refl
read_each base (r ∷ rs) from =
    let first : placed_record base (kept_from base r) ≡ r = ap (λ (p : Pos). let q : Record = record { pos = p; info = r.info } in q) (reached base r.pos from.0) in
    ap (λ (q : Record). q ∷ map (placed_record base) (map (kept_from base) rs)) first
    ∙ ap (λ (l : List Record). r ∷ l) (read_each base rs from.1)

pub from_base : (rs : List Record) → Sort rs → ForEach (λ r. is_before r.pos (base_of rs) ≡ false) rs
from_base [] up = tt
from_base (r ∷ rs) up =
    (before_itself r.pos, Each-weaker (λ q. precedes q r ≡ false) (λ q. is_before q.pos r.pos ≡ false) (λ q not_before. follows q r not_before) rs up.0)

pub read_back : (p : Piece) (rs : List Record) → Sort rs → records_of (refilled_piece rs p) ≡ rs
read_back p rs up = read_each (base_of rs) rs (from_base rs up)

pub refilled_based : (p : Piece) (rs : List Record) → Sort rs → IsBased (refilled_piece rs p)
refilled_based p rs up = ap base_of (read_back p rs up)

-- ---- a base that moves carries its records along
carry_each : (start : Pos) (old new : Extent) (base : Pos) (ks : List Relative) → is_before (further start old) base ≡ true
    → map (placed_record (moved_place true start old new base)) ks ≡ map (moved_record start old new) (map (placed_record base) ks)
carry_each start old new base [] behind = refl
carry_each start old new base (k ∷ ks) behind =
    let first : placed_record (moved_place true start old new base) k ≡ moved_record start old new (placed_record base k) =
    ap (λ (p : Pos). let q : Record = record { pos = p; info = k.info } in q) (carried_with k.info.right start old new base k.by behind) in
    ap (λ (q : Record). q ∷ map (placed_record (moved_place true start old new base)) ks) first
    ∙ ap (λ (l : List Record). moved_record start old new (placed_record base k) ∷ l) (carry_each start old new base ks behind)

pub spread_carried : (start : Pos) (old new : Extent) (ps : List Piece) → ForEach (λ p. is_before (further start old) p.base ≡ true) ps
    → spread_records (map (carried_piece start old new) ps) ≡ map (moved_record start old new) (spread_records ps)
spread_carried start old new [] behind = refl
spread_carried start old new (p ∷ ps) behind =
    ap (λ (l : List Record). l ++ spread_records (map (carried_piece start old new) ps)) (carry_each start old new p.base p.kept behind.0)
    ∙ ap (λ (l : List Record). map (moved_record start old new) (records_of p) ++ l) (spread_carried start old new ps behind.1)
    ∙ sym (map-append (moved_record start old new) (records_of p) (spread_records ps))

carried_based : (start : Pos) (old new : Extent) (base : Pos) (ks : List Relative) → is_before (further start old) base ≡ true → 0 < length ks
    → base_of (map (placed_record base) ks) ≡ base
    → base_of (map (placed_record (moved_place true start old new base)) ks) ≡ moved_place true start old new base
carried_based start old new base [] behind some is = absurd (omega arith)
carried_based start old new base (k ∷ ks) behind some is =
    carried_with true start old new base k.by behind ∙ ap (λ (p : Pos). moved_place true start old new p) is

pub all_carried_based : (start : Pos) (old new : Extent) (ps : List Piece) → ForEach (λ p. is_before (further start old) p.base ≡ true) ps
    → ForEach IsFit ps → ForEach IsBased ps → ForEach IsBased (map (carried_piece start old new) ps)
all_carried_based start old new [] behind fit based = tt
all_carried_based start old new (p ∷ ps) behind fit based =
    (carried_based start old new p.base p.kept behind.0 fit.0.some based.0, all_carried_based start old new ps behind.1 fit.1 based.1)

-- ---- records behind a base
pub behind_all : (at : Pos) (ps : List Piece) → ForEach (λ p. is_before at p.base ≡ true) ps → ForEach (λ r. is_before at r.pos ≡ true) (spread_records ps)
behind_all at [] behind = tt
behind_all at (p ∷ ps) behind =
    Each-append (λ r. is_before at r.pos ≡ true) (records_of p) (spread_records ps) (of_chunk p.kept) (behind_all at ps behind.1)
  where
    of_chunk : (ks : List Relative) → ForEach (λ r. is_before at r.pos ≡ true) (map (placed_record p.base) ks)
    of_chunk [] = tt
    of_chunk (k ∷ ks) = (behind_base at p.base k.by behind.0, of_chunk ks)

-- ---- chunks that are written_piece anew, each with as many records as it has
pub refit_parts : (fs ms bs : List Piece) (rs : List Record) → refit_pieces (length fs) (length ms) (fs ++ (ms ++ bs)) rs ≡ fs ++ (refilled_pieces ms rs ++ bs)
refit_parts [] [] [] rs = refl
refit_parts [] [] (b ∷ bs) rs = refl
refit_parts [] (m ∷ ms) bs rs =
    ap (λ (l : List Piece). written_piece (take (length m.kept) rs) m ∷ l) (refit_parts [] ms bs (drop (length m.kept) rs))
refit_parts (f ∷ fs) ms bs rs = ap (λ (l : List Piece). f ∷ l) (refit_parts fs ms bs rs)

pub carried_parts : (start : Pos) (old new : Extent) (fs bs : List Piece) → pieces_carried_from (length fs) start old new (fs ++ bs) ≡ fs ++ map (carried_piece start old new) bs
carried_parts start old new [] [] = refl
carried_parts start old new [] (b ∷ bs) = ap (λ (l : List Piece). carried_piece start old new b ∷ l) (carried_parts start old new [] bs)
carried_parts start old new (f ∷ fs) bs = ap (λ (l : List Piece). f ∷ l) (carried_parts start old new fs bs)

-- the first records go into the first chunk
first_written : (p : Piece) (rs : List Record) → IsFit p → length p.kept ≤ length rs
    → written_piece (take (length p.kept) rs) p ≡ refilled_piece (take (length p.kept) rs) p
first_written p rs fit enough =
    let len : length (take (length p.kept) rs) ≡ length p.kept = length-take-le (length p.kept) rs enough in
    written_is (take (length p.kept) rs) p (omega (arith, fit.some)) (sym len)

sort_take : (n : ℕ) (rs : List Record) → Sort rs → Sort (take n rs)
sort_take n rs up = Rises-left precedes (take n rs) (drop n rs) (subst (λ (l : List Record). Sort l) (sym (take-append-drop n rs)) up)

sort_drop : (n : ℕ) (rs : List Record) → Sort rs → Sort (drop n rs)
sort_drop n rs up = Rises-right precedes (take n rs) (drop n rs) (subst (λ (l : List Record). Sort l) (sym (take-append-drop n rs)) up)

-- how much is left for the other chunks
rest_fits : (p : Piece) (ps : List Piece) (rs : List Record) → length rs ≡ length (spread_records (p ∷ ps))
    → (length p.kept ≤ length rs) × (length (drop (length p.kept) rs) ≡ length (spread_records ps))
rest_fits p ps rs same =
    let all = length-append (records_of p) (spread_records ps) in
    let own = length-records p in
    (omega arith, omega (arith, length-drop (length p.kept) rs))

pub spread_refilled : (ps : List Piece) (rs : List Record) → ForEach IsFit ps → length rs ≡ length (spread_records ps) → Sort rs → spread_records (refilled_pieces ps rs) ≡ rs
spread_refilled [] [] fit same up = refl
spread_refilled [] (r ∷ rs) fit same up = absurd (omega arith)
spread_refilled (p ∷ ps) rs fit same up =
    let fits = rest_fits p ps rs same in
    ap (λ (q : Piece). records_of q ++ spread_records (refilled_pieces ps (drop (length p.kept) rs))) (first_written p rs fit.0 fits.0)
    ∙ ap (λ (l : List Record). l ++ spread_records (refilled_pieces ps (drop (length p.kept) rs))) (read_back p (take (length p.kept) rs) (sort_take (length p.kept) rs up))
    ∙ ap (λ (l : List Record). take (length p.kept) rs ++ l) (spread_refilled ps (drop (length p.kept) rs) fit.1 fits.1 (sort_drop (length p.kept) rs up))
    ∙ take-append-drop (length p.kept) rs

pub refills_based : (ps : List Piece) (rs : List Record) → ForEach IsFit ps → length rs ≡ length (spread_records ps) → Sort rs → ForEach IsBased (refilled_pieces ps rs)
refills_based [] rs fit same up = tt
refills_based (p ∷ ps) rs fit same up =
    let fits = rest_fits p ps rs same in (
      subst (λ (q : Piece). IsBased q) (sym (first_written p rs fit.0 fits.0))
          (refilled_based p (take (length p.kept) rs) (sort_take (length p.kept) rs up)),
      refills_based ps (drop (length p.kept) rs) fit.1 fits.1 (sort_drop (length p.kept) rs up),
    )

-- ---- how many records chunks have, and for how many they have room
abbrev pub sizes : List Piece → List ℕ
sizes ps = map (λ p. length p.kept) ps

abbrev pub rooms : List Piece → List ℕ
rooms ps = map (λ p. p.room) ps

pub fit_same : (ps qs : List Piece) → sizes ps ≡ sizes qs → rooms ps ≡ rooms qs → ForEach IsFit ps → ForEach IsFit qs
fit_same [] [] size room fit = tt
fit_same [] (q ∷ qs) size room fit = absurd (cc)
fit_same (p ∷ ps) [] size room fit = absurd (cc)
fit_same (p ∷ ps) (q ∷ qs) size room fit =
    let s : length p.kept ≡ length q.kept = cc in
    let r : p.room ≡ q.room = cc in
    let ss : sizes ps ≡ sizes qs = cc in
    let rr : rooms ps ≡ rooms qs = cc in (
      record { some = omega (arith, fit.0.some); few = omega (arith, fit.0.few); room = omega (arith, fit.0.room) },
      fit_same ps qs ss rr fit.1,
    )

pub ample_same : (ps qs : List Piece) → sizes ps ≡ sizes qs → Ample ps → Ample qs
ample_same [] [] size ample = tt
ample_same [] (q ∷ qs) size ample = absurd (cc)
ample_same (p ∷ ps) [] size ample = absurd (cc)
ample_same (p ∷ []) (q ∷ []) size ample = (tt, tt)
ample_same (p ∷ []) (q ∷ q' ∷ qs) size ample = absurd (cc)
ample_same (p ∷ p' ∷ ps) (q ∷ []) size ample = absurd (cc)
ample_same (p ∷ p' ∷ ps) (q ∷ q' ∷ qs) size ample =
    let s : length p.kept ≡ length q.kept = cc in
    let s' : length p'.kept ≡ length q'.kept = cc in
    let ss : sizes (p' ∷ ps) ≡ sizes (q' ∷ qs) = cc in
    (omega (arith, ample.0), ample_same (p' ∷ ps) (q' ∷ qs) ss ample.1)

pub sizes_refilled : (ps : List Piece) (rs : List Record) → ForEach IsFit ps → length rs ≡ length (spread_records ps) → sizes (refilled_pieces ps rs) ≡ sizes ps
sizes_refilled [] rs fit same = refl
sizes_refilled (p ∷ ps) rs fit same =
    let fits = rest_fits p ps rs same in
    let len : length (map (kept_from (base_of (take (length p.kept) rs))) (take (length p.kept) rs)) ≡ length p.kept =
    length-map (take (length p.kept) rs) (kept_from (base_of (take (length p.kept) rs))) ∙ length-take-le (length p.kept) rs fits.0 in
    ap (λ (q : Piece). length q.kept ∷ sizes (refilled_pieces ps (drop (length p.kept) rs))) (first_written p rs fit.0 fits.0)
    ∙ ap (λ (n : ℕ). n ∷ sizes (refilled_pieces ps (drop (length p.kept) rs))) len
    ∙ ap (λ (l : List ℕ). length p.kept ∷ l) (sizes_refilled ps (drop (length p.kept) rs) fit.1 fits.1)

pub rooms_refilled : (ps : List Piece) (rs : List Record) → ForEach IsFit ps → length rs ≡ length (spread_records ps) → rooms (refilled_pieces ps rs) ≡ rooms ps
rooms_refilled [] rs fit same = refl
rooms_refilled (p ∷ ps) rs fit same =
    let fits = rest_fits p ps rs same in
    ap (λ (q : Piece). q.room ∷ rooms (refilled_pieces ps (drop (length p.kept) rs))) (first_written p rs fit.0 fits.0)
    ∙ ap (λ (l : List ℕ). p.room ∷ l) (rooms_refilled ps (drop (length p.kept) rs) fit.1 fits.1)

pub sizes_carried : (start : Pos) (old new : Extent) (ps : List Piece) → sizes (map (carried_piece start old new) ps) ≡ sizes ps
sizes_carried start old new [] = refl
sizes_carried start old new (p ∷ ps) = ap (λ (l : List ℕ). length p.kept ∷ l) (sizes_carried start old new ps)

pub rooms_carried : (start : Pos) (old new : Extent) (ps : List Piece) → rooms (map (carried_piece start old new) ps) ≡ rooms ps
rooms_carried start old new [] = refl
rooms_carried start old new (p ∷ ps) = ap (λ (l : List ℕ). p.room ∷ l) (rooms_carried start old new ps)

-- ---- the order after a splice, over three plain parts
rises_moved : (start : Pos) (old new : Extent) (bs : List Record) → ForEach (λ r. is_before (further start old) r.pos ≡ true) bs → Sort bs
    → Sort (map (moved_record start old new) bs)
rises_moved start old new [] behind up = tt
rises_moved start old new (b ∷ bs) behind up = (others bs behind.1 up.0, rises_moved start old new bs behind.1 up.1)
  where
    others : (cs : List Record) → ForEach (λ r. is_before (further start old) r.pos ≡ true) cs → ForEach (λ q. precedes q b ≡ false) cs
        → ForEach (λ q. precedes q (moved_record start old new b) ≡ false) (map (moved_record start old new) cs)
    others [] far not_before = tt
    others (c ∷ cs) far not_before =
        (behind_order start old new c b far.0 behind.0 ∙ not_before.0, others cs far.1 not_before.1)

pub in_order_again : (start : Pos) (old new : Extent) (fs ms bs rs : List Record) → Sort (fs ++ (ms ++ bs))
    → ForEach (λ r. is_before r.pos start ≡ true) fs → ForEach (λ r. is_before (further start old) r.pos ≡ true) bs
    → IsPermutation (map (moved_record start old new) ms) rs → Sort rs
    → Sort (fs ++ (rs ++ map (moved_record start old new) bs))
in_order_again start old new fs ms bs rs up front behind moves sorted =
    Rises-append precedes fs (rs ++ map (moved_record start old new) bs)
    (Rises-left precedes fs (ms ++ bs) up)
    (Rises-append precedes rs (map (moved_record start old new) bs) sorted (rises_moved start old new bs behind (Rises-right precedes ms bs rest_up))
    (Each-permutation (λ m. ForEach (λ b. precedes b m ≡ false) (map (moved_record start old new) bs)) (map (moved_record start old new) ms) rs moves
    (behind_of ms (Rises-cross precedes ms bs rest_up))))
    (front_of fs front (Rises-cross precedes fs (ms ++ bs) up))
  where
    rest_up : Sort (ms ++ bs)
    rest_up = Rises-right precedes fs (ms ++ bs) up

    behind_one : (m : Record) (cs : List Record) → ForEach (λ r. is_before (further start old) r.pos ≡ true) cs → ForEach (λ b. precedes b m ≡ false) cs
        → ForEach (λ b. precedes b (moved_record start old new m) ≡ false) (map (moved_record start old new) cs)
    behind_one m [] far not_before = tt
    behind_one m (c ∷ cs) far not_before =
        (cross_behind start old new m c far.0 not_before.0, behind_one m cs far.1 not_before.1)

    behind_of : (ls : List Record) → ForEach (λ m. ForEach (λ b. precedes b m ≡ false) bs) ls
        → ForEach (λ m. ForEach (λ b. precedes b m ≡ false) (map (moved_record start old new) bs)) (map (moved_record start old new) ls)
    behind_of [] across = tt
    behind_of (m ∷ ls) across = (behind_one m bs behind across.0, behind_of ls across.1)

    front_one : (f : Record) (ls : List Record) → is_before f.pos start ≡ true → ForEach (λ m. precedes m f ≡ false) ls
        → ForEach (λ m. precedes m f ≡ false) (map (moved_record start old new) ls)
    front_one f [] before not_before = tt
    front_one f (l ∷ ls) before not_before =
        (cross_front start old new f l before not_before.0, front_one f ls before not_before.1)

    front_rest : (f : Record) → is_before f.pos start ≡ true → ForEach (λ m. precedes m f ≡ false) (ms ++ bs)
        → ForEach (λ m. precedes m f ≡ false) (rs ++ map (moved_record start old new) bs)
    front_rest f before across =
        Each-append (λ m. precedes m f ≡ false) rs (map (moved_record start old new) bs)
        (Each-permutation (λ m. precedes m f ≡ false) (map (moved_record start old new) ms) rs moves
        (front_one f ms before (Each-left (λ m. precedes m f ≡ false) ms bs across)))
        (front_one f bs before (Each-right (λ m. precedes m f ≡ false) ms bs across))

    front_of : (ls : List Record) → ForEach (λ r. is_before r.pos start ≡ true) ls → ForEach (λ f. ForEach (λ m. precedes m f ≡ false) (ms ++ bs)) ls
        → ForEach (λ f. ForEach (λ m. precedes m f ≡ false) (rs ++ map (moved_record start old new) bs)) ls
    front_of [] before across = tt
    front_of (l ∷ ls) before across = (front_rest l before.0 across.0, front_of ls before.1 across.1)

-- ---- the records of one of some chunks
pub spread_at : (P : Record → Type 0) (ps : List Piece) (i : ℕ) (d : Piece) → i < length ps → ForEach P (spread_records ps) → ForEach P (records_of (get_or ps i d))
spread_at P [] i d within each = absurd (omega arith)
spread_at P (p ∷ ps) zero d within each = Each-left P (records_of p) (spread_records ps) each
spread_at P (p ∷ ps) (suc i) d within each = spread_at P ps i d (omega arith) (Each-right P (records_of p) (spread_records ps) each)

pub spread_more : (ps : List Piece) (i : ℕ) (d : Piece) → i < length ps → spread_records (take (i + 1) ps) ≡ spread_records (take i ps) ++ records_of (get_or ps i d)
spread_more ps i d within =
    ap spread_records (take_more ps i d within) ∙ spread-append (take i ps) (get_or ps i d ∷ [])
    ∙ ap (λ (l : List Record). spread_records (take i ps) ++ l) (append-nil (records_of (get_or ps i d)))

pub spread_front : (ps : List Piece) (n : ℕ) → length (spread_records (take n ps)) ≤ length (spread_records ps)
spread_front ps n =
    omega (
      arith,
      ap length (ap spread_records (sym (take-append-drop n ps)) ∙ spread-append (take n ps) (drop n ps)),
      length-append (spread_records (take n ps)) (spread_records (drop n ps)),
    )

-- the records of a chunk by its two parts
pub by_parts : (p q : Piece) (base : Pos) (ks : List Relative) → p ≡ q → base ≡ p.base → ks ≡ p.kept → records_of q ≡ map (placed_record base) ks
by_parts p q base ks is base_is ks_is =
    sym (ap (λ (b : Pos). map (placed_record b) ks) base_is ∙ ap (λ (l : List Relative). map (placed_record p.base) l) ks_is ∙ ap records_of is)
