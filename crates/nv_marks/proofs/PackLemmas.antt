-- Chunks filled anew, each with as many records as it may have.
use Rattle.std.proofs.Common.{◌≡◌, ◌≤◌, ◌<◌, ◌+◌, ◌*◌, List, [], ◌∷◌, ◌++◌, ℕ, zero, suc, length, take, drop, refl, ap, sym, ◌∙◌, arith, Bool, true, false, cond, subst}
use Rattle.std.specs.Prelude.{filter}
use Rattle.std.proofs.lemmas.List.{drop-drop, length-append, length-drop, length-map, length-take, take-append-drop}
use Rattle.nv_places.specs.Places.{IsNarrow}
use Rattle.nv_marks.specs.declared.record.Record.{Record}
use Rattle.nv_marks.specs.inside.Records.{ForEach, Sort, precedes}
use Rattle.nv_marks.specs.inside.Chunks.{Ample, IsBased, IsFit, IsLaid, Piece, kept_from, base_of, packed_pieces, pieces_edited_at, records_of, refilled_piece, spread_records}
use Rattle.nv_marks.proofs.EachLemmas.{Each-filter, Each-take, Rises-left, Rises-right}
use Rattle.nv_marks.proofs.EditLemmas.{ample_big, refilled_fit}
use Rattle.nv_marks.proofs.SpreadLemmas.{length-records, read_back, refilled_based}

pub length-packed : (k : ℕ) (ps : List Piece) (rs : List Record) → length (packed_pieces k ps rs) ≡ length ps
length-packed zero ps rs = refl
length-packed (suc k) [] rs = refl
length-packed (suc k) (p ∷ ps) rs = ap suc (length-packed k ps (drop 64 rs))

pub packed_more : (k : ℕ) (ps : List Piece) (rs : List Record) → k < length ps
    → pieces_edited_at k (refilled_piece (take 64 (drop (k * 64) rs))) (packed_pieces k ps rs) ≡ packed_pieces (k + 1) ps rs
packed_more k [] rs within = absurd (omega (arith, within))
packed_more zero (p ∷ ps) rs within = refl
packed_more (suc k) (p ∷ ps) rs within =
    let next : suc k + 1 ≡ suc (k + 1) = omega arith in
    let times : suc k * 64 ≡ 64 + k * 64 = omega arith in
    let there : drop (suc k * 64) rs ≡ drop (k * 64) (drop 64 rs) = ap (λ (n : ℕ). drop n rs) times ∙ sym (drop-drop (k * 64) 64 rs) in
    ap (λ (l : List Record). refilled_piece (take 64 rs) p ∷ pieces_edited_at k (refilled_piece (take 64 l)) (packed_pieces k ps (drop 64 rs))) there
    ∙ ap (λ (l : List Piece). refilled_piece (take 64 rs) p ∷ l) (packed_more k ps (drop 64 rs) (omega (arith, within)))
    ∙ sym (ap (λ (n : ℕ). packed_pieces n (p ∷ ps) rs) next)

few_taken : (rs : List Record) → length (take 64 rs) ≤ 64
few_taken rs = omega (arith, length-take 64 rs)

pub part_few : (part rs : List Record) (n : ℕ) → part ≡ take 64 (drop n rs) → length part ≤ 64
part_few part rs n is = omega (arith, ap length is, few_taken (drop n rs))

rest_parts : (k : ℕ) (rs : List Record) → suc k * 64 < length rs + 64 → k * 64 < length (drop 64 rs) + 64
rest_parts k rs parts = omega (arith, parts, length-drop 64 rs)

some_taken : (k : ℕ) (rs : List Record) → suc k * 64 < length rs + 64 → 0 < length (take 64 rs)
some_taken k rs parts = omega (arith, parts, length-take 64 rs)

pub packed_fit : (k : ℕ) (ps : List Piece) (rs : List Record) → k * 64 < length rs + 64 → ForEach IsFit ps → ForEach IsFit (packed_pieces k ps rs)
packed_fit zero ps rs parts fit = fit
packed_fit (suc k) [] rs parts fit = tt
packed_fit (suc k) (p ∷ ps) rs parts fit =
    (refilled_fit (take 64 rs) p (some_taken k rs parts) (few_taken rs) fit.0.room, packed_fit k ps (drop 64 rs) (rest_parts k rs parts) fit.1)

parts_up : (rs : List Record) → Sort rs → Sort (take 64 rs ++ drop 64 rs)
parts_up rs up = subst (λ (l : List Record). Sort l) (sym (take-append-drop 64 rs)) up

packed_spread : (k : ℕ) (ps : List Piece) (rs : List Record) → k ≤ length ps → length rs ≤ k * 64 → Sort rs → spread_records (take k (packed_pieces k ps rs)) ≡ rs
packed_spread zero ps [] within all up = refl
packed_spread zero ps (r ∷ rs) within all up = absurd (omega (arith, all))
packed_spread (suc k) [] rs within all up = absurd (omega (arith, within))
packed_spread (suc k) (p ∷ ps) rs within all up =
    ap (λ (l : List Record). l ++ spread_records (take k (packed_pieces k ps (drop 64 rs)))) (read_back p (take 64 rs) (Rises-left precedes (take 64 rs) (drop 64 rs) (parts_up rs up)))
    ∙ ap (λ (l : List Record). take 64 rs ++ l)
    (packed_spread k ps (drop 64 rs) (omega (arith, within)) (omega (arith, all, length-drop 64 rs)) (Rises-right precedes (take 64 rs) (drop 64 rs) (parts_up rs up)))
    ∙ take-append-drop 64 rs

packed_based : (k : ℕ) (ps : List Piece) (rs : List Record) → Sort rs → ForEach IsBased (take k (packed_pieces k ps rs))
packed_based zero ps rs up = tt
packed_based (suc k) [] rs up = tt
packed_based (suc k) (p ∷ ps) rs up = (
  refilled_based p (take 64 rs) (Rises-left precedes (take 64 rs) (drop 64 rs) (parts_up rs up)),
  packed_based k ps (drop 64 rs) (Rises-right precedes (take 64 rs) (drop 64 rs) (parts_up rs up)),
)

packed_ample : (k : ℕ) (ps : List Piece) (rs : List Record) → k * 64 < length rs + 64 → ForEach IsFit ps → Ample (take k (packed_pieces k ps rs))
packed_ample zero ps rs parts fit = tt
packed_ample (suc k) [] rs parts fit = tt
packed_ample (suc zero) (p ∷ ps) rs parts fit = (tt, tt)
packed_ample (suc (suc k)) (p ∷ ps) rs parts fit =
    let rest = rest_parts (suc k) rs parts in
    ample_big (refilled_piece (take 64 rs) p) (take (suc k) (packed_pieces (suc k) ps (drop 64 rs)))
    (omega (arith, parts, length-take 64 rs, length-map (take 64 rs) (kept_from (base_of (take 64 rs)))))
    (Each-take IsFit (suc k) (packed_pieces (suc k) ps (drop 64 rs)) (packed_fit (suc k) ps (drop 64 rs) rest fit.1))
    (packed_ample (suc k) ps (drop 64 rs) rest fit.1)

few_records : (ps : List Piece) → ForEach IsFit ps → length (spread_records ps) ≤ length ps * 64
few_records [] fit = omega arith
few_records (p ∷ ps) fit =
    omega (arith, few_records ps fit.1, fit.0.few, length-records p, length-append (records_of p) (spread_records ps))

pub parts_within : (ps : List Piece) (n k : ℕ) → ForEach IsFit ps → n ≤ length (spread_records ps) → k * 64 < n + 64 → k ≤ length ps
parts_within ps n k fit fewer parts = omega (arith, few_records ps fit, fewer, parts)

pub packed_laid : (k : ℕ) (ps filled qs : List Piece) (rs : List Record) → IsLaid ps → length rs ≤ length (spread_records ps) → length rs ≤ k * 64
    → k * 64 < length rs + 64 → Sort rs → ForEach (λ r. IsNarrow r.pos) rs → filled ≡ packed_pieces k ps rs → qs ≡ take k filled
    → IsLaid qs × (spread_records qs ≡ rs)
packed_laid k ps filled qs rs laid fewer all parts up narrow filled_is is =
    let now : List Piece = take k (packed_pieces k ps rs) in
    let spread : spread_records now ≡ rs = packed_spread k ps rs (parts_within ps (length rs) k laid.fit fewer parts) all up in
    let same : qs ≡ now = is ∙ ap (take k) filled_is in (
      subst (λ (l : List Piece). IsLaid l) (sym same) (record {
        fit = Each-take IsFit k (packed_pieces k ps rs) (packed_fit k ps rs parts laid.fit);
        ample = packed_ample k ps rs parts laid.fit;
        based = packed_based k ps rs up;
        in_order = subst (λ (l : List Record). Sort l) (sym spread) up;
        narrow = subst (λ (l : List Record). ForEach (λ r. IsNarrow r.pos) l) (sym spread) narrow;
      }),
      ap spread_records same ∙ spread,
    )

-- ---- those that pass a test, in order
pub Sort-filter : (t : Record → Bool) (rs : List Record) → Sort rs → Sort (filter t rs)
Sort-filter t [] up = tt
Sort-filter t (r ∷ rs) up = by_case (t r) (Sort-filter t rs up.1)
  where
    by_case : (b : Bool) → Sort (filter t rs) → Sort (cond b (r ∷ filter t rs) (filter t rs))
    by_case true rest = (Each-filter (λ (q : Record). precedes q r ≡ false) t rs up.0, rest)
    by_case false rest = rest

pub length-filter : {X : Type 0} (t : X → Bool) (xs : List X) → length (filter t xs) ≤ length xs
length-filter t [] = omega arith
length-filter t (x ∷ xs) = by_case (t x) (length-filter t xs)
  where
    by_case : (b : Bool) → length (filter t xs) ≤ length xs → length (cond b (x ∷ filter t xs) (filter t xs)) ≤ suc (length xs)
    by_case true rest = omega (arith, rest)
    by_case false rest = omega (arith, rest)
