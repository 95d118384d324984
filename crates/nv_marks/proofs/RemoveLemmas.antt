-- A record taken out of a chunk, and two chunks joined: the chunks stay laid.
use Rattle.std.proofs.Common.{◌≡◌, ◌≤◌, ◌<◌, ◌+◌, ◌-◌, List, [], ◌∷◌, ◌++◌, ℕ, zero, suc, refl, ap, sym, ◌∙◌, length, length-append, take, drop, get_or, map, arith, false, subst}
use Rattle.std.specs.Prelude.{IsPermutation, remove}
use Rattle.std.proofs.lemmas.List.{length-map, take-append-drop, drop-drop, get_or-append-add, get_or_append_left}
use Rattle.std.proofs.lemmas.List.Sorted.{IsPermutation-append_left, IsPermutation-append_right, IsPermutation-trans, IsPermutation-middle, IsPermutation-remove}
use Rattle.nv_places.specs.Places.{IsNarrow}
use Rattle.nv_marks.specs.declared.record.Record.{Record}
use Rattle.nv_marks.specs.inside.Records.{ForEach, Sort, precedes}
use Rattle.nv_marks.specs.inside.Chunks.{Piece, kept_from, records_of, spread_records, base_of, refilled_piece, IsFit, IsBased, Ample, IsLaid, pieces_edited_at, held_records}
use Rattle.nv_marks.proofs.EachLemmas.{Each-append, Each-left, Each-right, Each-get_or, Each-take, Each-drop, Rises-left, Rises-right}
use Rattle.nv_marks.proofs.SpreadLemmas.{spread-append, length-records}
use Rattle.nv_marks.proofs.EditLemmas.{no_piece, at_split, edited_split, held_one, ample_big, ample_behind, Ample-left, Ample-right, spread_filled, laid_filled}

-- ---- an element less
length-remove_at : (xs : List Record) (i : ℕ) → i < length xs → length (remove xs i) + 1 ≡ length xs
length-remove_at [] i within = absurd (omega arith)
length-remove_at (x ∷ xs) zero within = omega arith
length-remove_at (x ∷ xs) (suc i) within = omega (arith, length-remove_at xs i (omega arith))

Each-remove : (P : Record → Type 0) (xs : List Record) (i : ℕ) → ForEach P xs → ForEach P (remove xs i)
Each-remove P xs i each = Each-append P (take i xs) (drop (suc i) xs) (Each-take P i xs each) (Each-drop P (suc i) xs each)

Rises-remove : (fs xs bs : List Record) (i : ℕ) → Sort (fs ++ (xs ++ bs)) → Sort (fs ++ (remove xs i ++ bs))
Rises-remove (f ∷ fs) xs bs i up = (
  Each-append (λ q. precedes q f ≡ false) fs (remove xs i ++ bs) (Each-left (λ q. precedes q f ≡ false) fs (xs ++ bs) up.0)
      (Each-append (λ q. precedes q f ≡ false) (remove xs i) bs
      (Each-remove (λ q. precedes q f ≡ false) xs i (Each-left (λ q. precedes q f ≡ false) xs bs (Each-right (λ q. precedes q f ≡ false) fs (xs ++ bs) up.0)))
      (Each-right (λ q. precedes q f ≡ false) xs bs (Each-right (λ q. precedes q f ≡ false) fs (xs ++ bs) up.0))),
  Rises-remove fs xs bs i up.1,
)
Rises-remove [] [] bs zero up = up
Rises-remove [] [] bs (suc i) up = up
Rises-remove [] (x ∷ xs) bs zero up = up.1
Rises-remove [] (x ∷ xs) bs (suc i) up = (
  Each-append (λ q. precedes q x ≡ false) (remove xs i) bs
      (Each-remove (λ q. precedes q x ≡ false) xs i (Each-left (λ q. precedes q x ≡ false) xs bs up.0))
      (Each-right (λ q. precedes q x ≡ false) xs bs up.0),
  Rises-remove [] xs bs i up.1,
)

same_without : (fs xs bs : List Record) (i : ℕ) (x : Record) → i < length xs → x ≡ get_or xs i x
    → IsPermutation (fs ++ (xs ++ bs)) (x ∷ (fs ++ (remove xs i ++ bs)))
same_without fs xs bs i x within here =
    IsPermutation-trans (fs ++ (xs ++ bs)) (fs ++ x ∷ (remove xs i ++ bs)) (x ∷ (fs ++ (remove xs i ++ bs)))
    (IsPermutation-append_right fs (xs ++ bs) (x ∷ (remove xs i ++ bs))
    (IsPermutation-append_left bs xs (x ∷ remove xs i) (IsPermutation-remove xs i x within here)))
    (IsPermutation-middle fs x (remove xs i ++ bs))

-- ---- chunks in three parts
pub three : (ps : List Piece) (n m : ℕ) → spread_records ps ≡ held_records 0 n ps ++ (held_records n m ps ++ spread_records (drop (n + m) ps))
three ps n m =
    ap spread_records (sym (take-append-drop n ps)) ∙ spread-append (take n ps) (drop n ps)
    ∙ ap (λ (l : List Record). held_records 0 n ps ++ l) (ap spread_records (sym (take-append-drop m (drop n ps))) ∙ spread-append (take m (drop n ps)) (drop m (drop n ps))
    ∙ ap (λ (l : List Piece). held_records n m ps ++ spread_records l) (drop-drop m n ps))

pub three_lists : (ps : List Piece) (n m : ℕ) → ps ≡ take n ps ++ (take m (drop n ps) ++ drop (n + m) ps)
three_lists ps n m =
    sym (take-append-drop n ps)
    ∙ ap (λ (l : List Piece). take n ps ++ l) (sym (take-append-drop m (drop n ps)) ∙ ap (λ (l : List Piece). take m (drop n ps) ++ l) (drop-drop m n ps))

-- ---- one chunk in the place of two
remove_next : (n : ℕ) (f : Piece → Piece) (ps : List Piece) → n + 1 < length ps
    → remove (pieces_edited_at n f ps) (n + 1) ≡ take n ps ++ f (get_or ps n no_piece) ∷ drop (n + 2) ps
remove_next n f [] within = absurd (omega arith)
remove_next zero f (p ∷ []) within = absurd (omega arith)
remove_next zero f (p ∷ q ∷ ps) within = refl
remove_next (suc n) f (p ∷ ps) within =
    let next : suc n + 1 ≡ suc (n + 1) = omega arith in
    let after : suc n + 2 ≡ suc (n + 2) = omega arith in
    rw (next, after) (ap (λ (l : List Piece). p ∷ l) (remove_next n f ps (omega arith)))

two_hold : (ps : List Piece) (n : ℕ) → n + 1 < length ps → Ample ps → 32 < length (held_records n 2 ps)
two_hold [] n within ample = absurd (omega arith)
two_hold (p ∷ []) n within ample = absurd (omega arith)
two_hold (p ∷ q ∷ ps) zero within ample =
    omega (arith, ample.0, length-append (records_of p) (records_of q ++ []), length-append (records_of q) [], length-records p, length-records q)
two_hold (p ∷ q ∷ ps) (suc n) within ample = two_hold (q ∷ ps) n (omega arith) ample.1

pub joined : (ps qs : List Piece) (n : ℕ) (rs : List Record) (i : ℕ) → IsLaid ps → n + 1 < length ps → length (held_records n 2 ps) ≤ 33 → i < length (held_records n 2 ps)
    → rs ≡ remove (held_records n 2 ps) i → qs ≡ remove (pieces_edited_at n (refilled_piece rs) ps) (n + 1)
    → IsLaid qs × (spread_records qs ≡ held_records 0 n ps ++ (remove (held_records n 2 ps) i ++ spread_records (drop (n + 2) ps)))
joined ps qs n rs i laid within few here is now =
    let fs : List Piece = take n ps in
    let ms : List Piece = take 2 (drop n ps) in
    let bs : List Piece = drop (n + 2) ps in
    let p : Piece = get_or ps n no_piece in
    let whole : ps ≡ fs ++ (ms ++ bs) = three_lists ps n 2 in
    let laid_parts : IsLaid (fs ++ (ms ++ bs)) = subst (λ (l : List Piece). IsLaid l) whole laid in
    let many = two_hold ps n within laid.ample in
    let len : length rs + 1 ≡ length (held_records n 2 ps) = ap (λ (l : List Record). length l + 1) is ∙ length-remove_at (held_records n 2 ps) i here in
    let up : Sort (spread_records fs ++ (rs ++ spread_records bs)) =
    subst (λ (l : List Record). Sort (spread_records fs ++ (l ++ spread_records bs))) (sym is)
    (Rises-remove (spread_records fs) (held_records n 2 ps) (spread_records bs) i (subst (λ (l : List Record). Sort l) (three ps n 2) laid.in_order)) in
    let own_up : Sort rs = Rises-left precedes rs (spread_records bs) (Rises-right precedes (spread_records fs) (rs ++ spread_records bs) up) in
    let narrow : ForEach (λ r. IsNarrow r.pos) rs =
    subst (λ (l : List Record). ForEach (λ r. IsNarrow r.pos) l) (sym is)
    (Each-remove (λ r. IsNarrow r.pos) (held_records n 2 ps) i
    (Each-left (λ r. IsNarrow r.pos) (held_records n 2 ps) (spread_records bs) (Each-right (λ r. IsNarrow r.pos) (spread_records fs) (held_records n 2 ps ++ spread_records bs)
    (subst (λ (l : List Record). ForEach (λ r. IsNarrow r.pos) l) (three ps n 2) laid.narrow)))) in
    let fit : IsFit p = Each-get_or IsFit ps n no_piece (omega arith) laid.fit in
    let size : length (map (kept_from (base_of rs)) rs) ≡ length rs = length-map rs (kept_from (base_of rs)) in
    let shape : qs ≡ fs ++ refilled_piece rs p ∷ bs = now ∙ remove_next n (refilled_piece rs) ps within in (
      subst (λ (l : List Piece). IsLaid l) (sym shape)
          (laid_filled fs ms bs p rs laid_parts (omega (arith, len, many)) (omega (arith, len, few)) fit.room up narrow
          (ample_behind fs (refilled_piece rs p) bs (omega (arith, len, many, size)) (Each-left IsFit fs (ms ++ bs) laid_parts.fit) (Ample-left fs (ms ++ bs) laid_parts.ample)
          (ample_big (refilled_piece rs p) bs (omega (arith, len, many, size)) (Each-right IsFit ms bs (Each-right IsFit fs (ms ++ bs) laid_parts.fit))
          (Ample-right ms bs (Ample-right fs (ms ++ bs) laid_parts.ample))))),
      ap spread_records shape ∙ spread_filled fs bs p rs own_up
          ∙ ap (λ (l : List Record). spread_records fs ++ (l ++ spread_records bs)) is,
    )

-- ---- a chunk with one record less
ample_shrunk : (n : ℕ) (ps : List Piece) (f : Piece → Piece) → n < length ps → ((p : Piece) → p ≡ get_or ps n no_piece → length (f p).kept + 1 ≡ length p.kept)
    → ((m : ℕ) → suc m ≡ n → 33 < length (held_records m 2 ps)) → (n + 1 < length ps → 33 < length (held_records n 2 ps)) → Ample ps → Ample (pieces_edited_at n f ps)
ample_shrunk n [] f within less before behind ample = absurd (omega arith)
ample_shrunk zero (p ∷ []) f within less before behind ample = (tt, tt)
ample_shrunk zero (p ∷ q ∷ ps) f within less before behind ample = (
  omega (arith, less p refl, behind (omega arith), length-append (records_of p) (records_of q ++ []), length-append (records_of q) [], length-records p, length-records q),
  ample.1,
)
ample_shrunk (suc n) (p ∷ []) f within less before behind ample = absurd (omega arith)
ample_shrunk (suc zero) (p ∷ q ∷ ps) f within less before behind ample = (
  omega (arith, less q refl, before 0 refl, length-append (records_of p) (records_of q ++ []), length-append (records_of q) [], length-records p, length-records q),
  ample_shrunk zero (q ∷ ps) f (omega arith) less (λ m none. absurd (omega arith)) (λ more. behind (omega arith)) ample.1,
)
ample_shrunk (suc (suc n)) (p ∷ q ∷ ps) f within less before behind ample = (
  ample.0,
  ample_shrunk (suc n) (q ∷ ps) f (omega arith) less (λ m is. before (suc m) (omega arith)) (λ more. behind (omega arith)) ample.1,
)

pub shrunk : (ps qs : List Piece) (n : ℕ) (rs : List Record) → IsLaid ps → n < length ps → length (held_records n 1 ps) ≡ length rs + 1 → 0 < length rs
    → Sort (held_records 0 n ps ++ (rs ++ spread_records (drop (n + 1) ps))) → ForEach (λ r. IsNarrow r.pos) rs
    → ((m : ℕ) → m + 1 ≡ n → 33 < length (held_records m 2 ps)) → (n + 1 < length ps → 33 < length (held_records n 2 ps)) → qs ≡ pieces_edited_at n (refilled_piece rs) ps
    → IsLaid qs × (spread_records qs ≡ held_records 0 n ps ++ (rs ++ spread_records (drop (n + 1) ps)))
shrunk ps qs n rs laid within less some up narrow before behind is =
    let p : Piece = get_or ps n no_piece in
    let whole : ps ≡ take n ps ++ ((p ∷ []) ++ drop (n + 1) ps) = at_split ps n no_piece within in
    let laid_parts : IsLaid (take n ps ++ ((p ∷ []) ++ drop (n + 1) ps)) = subst (λ (l : List Piece). IsLaid l) whole laid in
    let fit : IsFit p = Each-get_or IsFit ps n no_piece within laid.fit in
    let had : length p.kept ≡ length rs + 1 = omega (arith, less, ap length (held_one ps n no_piece within), length-records p) in
    let split : pieces_edited_at n (refilled_piece rs) ps ≡ take n ps ++ refilled_piece rs p ∷ drop (n + 1) ps = edited_split n (refilled_piece rs) ps no_piece within in
    let own_up : Sort rs = Rises-left precedes rs (spread_records (drop (n + 1) ps)) (Rises-right precedes (held_records 0 n ps) (rs ++ spread_records (drop (n + 1) ps)) up) in
    let size : length (map (kept_from (base_of rs)) rs) ≡ length rs = length-map rs (kept_from (base_of rs)) in
    let ample : Ample (pieces_edited_at n (refilled_piece rs) ps) =
    ample_shrunk n ps (refilled_piece rs) within (λ x x_is. let same : length x.kept ≡ length p.kept = ap (λ (q : Piece). length q.kept) x_is in omega (arith, same, had, size))
    (λ m m_is. before m (omega arith)) behind laid.ample in (
      subst (λ (l : List Piece). IsLaid l) (sym (is ∙ split))
          (laid_filled (take n ps) (p ∷ []) (drop (n + 1) ps) p rs laid_parts some (omega (arith, had, fit.few)) fit.room up narrow
          (subst (λ (l : List Piece). Ample l) split ample)),
      ap spread_records (is ∙ split) ∙ spread_filled (take n ps) (drop (n + 1) ps) p rs own_up,
    )

-- ---- a chunk with no record left
ample_closed : (fs bs : List Piece) (p : Piece) → length p.kept ≤ 1 → ForEach IsFit bs → Ample (fs ++ p ∷ bs) → Ample (fs ++ bs)
ample_closed [] bs p one fit ample = ample.1
ample_closed (f ∷ []) [] p one fit ample = (tt, tt)
ample_closed (f ∷ []) (b ∷ bs) p one fit ample = (omega (arith, ample.0, fit.0.some), ample.1.1)
ample_closed (f ∷ f' ∷ fs) bs p one fit ample = (ample.0, ample_closed (f' ∷ fs) bs p one fit ample.1)

pub closed : (ps qs : List Piece) (n : ℕ) (rs : List Record) → IsLaid ps → n < length ps → length (held_records n 1 ps) ≡ length rs + 1 → length rs ≡ 0
    → Sort (held_records 0 n ps ++ (rs ++ spread_records (drop (n + 1) ps))) → qs ≡ remove ps n
    → IsLaid qs × (spread_records qs ≡ held_records 0 n ps ++ (rs ++ spread_records (drop (n + 1) ps)))
closed ps qs n [] laid within less none up is =
    let fs : List Piece = take n ps in
    let bs : List Piece = drop (n + 1) ps in
    let p : Piece = get_or ps n no_piece in
    let whole : ps ≡ fs ++ p ∷ bs = at_split ps n no_piece within in
    let laid_parts : IsLaid (fs ++ p ∷ bs) = subst (λ (l : List Piece). IsLaid l) whole laid in
    let one : length p.kept ≤ 1 = omega (arith, less, ap length (held_one ps n no_piece within), length-records p) in
    let next : suc n ≡ n + 1 = omega arith in
    let shape : qs ≡ fs ++ bs = is ∙ ap (λ (k : ℕ). take n ps ++ drop k ps) next in
    let fit : ForEach IsFit (p ∷ bs) = Each-right IsFit fs (p ∷ bs) laid_parts.fit in
    let old_narrow : ForEach (λ r. IsNarrow r.pos) (spread_records fs ++ (records_of p ++ spread_records bs)) =
    subst (λ (l : List Record). ForEach (λ r. IsNarrow r.pos) l) (spread-append fs (p ∷ bs)) laid_parts.narrow in (
      subst (λ (l : List Piece). IsLaid l) (sym shape) (record {
        fit = Each-append IsFit fs bs (Each-left IsFit fs (p ∷ bs) laid_parts.fit) fit.1;
        ample = ample_closed fs bs p one fit.1 laid_parts.ample;
        based = Each-append IsBased fs bs (Each-left IsBased fs (p ∷ bs) laid_parts.based) (Each-right IsBased fs (p ∷ bs) laid_parts.based).1;
        in_order = subst (λ (l : List Record). Sort l) (sym (spread-append fs bs)) up;
        narrow = subst (λ (l : List Record). ForEach (λ r. IsNarrow r.pos) l) (sym (spread-append fs bs))
            (Each-append (λ r. IsNarrow r.pos) (spread_records fs) (spread_records bs) (Each-left (λ r. IsNarrow r.pos) (spread_records fs) (records_of p ++ spread_records bs) old_narrow)
            (Each-right (λ r. IsNarrow r.pos) (records_of p) (spread_records bs) (Each-right (λ r. IsNarrow r.pos) (spread_records fs) (records_of p ++ spread_records bs) old_narrow)));
      }),
      ap spread_records shape ∙ spread-append fs bs,
    )
closed ps qs n (r ∷ rs) laid within less none up is = absurd (omega arith)

-- ---- the records that are left
pub left_over : (ps qs : List Piece) (n m i : ℕ) (x : Record) → i < length (held_records n m ps) → x ≡ get_or (held_records n m ps) i x
    → spread_records qs ≡ held_records 0 n ps ++ (remove (held_records n m ps) i ++ spread_records (drop (n + m) ps)) → IsPermutation (spread_records ps) (x ∷ spread_records qs)
left_over ps qs n m i x within here is =
    subst (λ (l : List Record). IsPermutation (spread_records ps) (x ∷ l)) (sym is)
    (subst (λ (l : List Record). IsPermutation l (x ∷ (held_records 0 n ps ++ (remove (held_records n m ps) i ++ spread_records (drop (n + m) ps))))) (sym (three ps n m))
    (same_without (held_records 0 n ps) (held_records n m ps) (spread_records (drop (n + m) ps)) i x within here))

pub order_without : (ps : List Piece) (n m i : ℕ) → Sort (spread_records ps) → Sort (held_records 0 n ps ++ (remove (held_records n m ps) i ++ spread_records (drop (n + m) ps)))
order_without ps n m i up = Rises-remove (held_records 0 n ps) (held_records n m ps) (spread_records (drop (n + m) ps)) i (subst (λ (l : List Record). Sort l) (three ps n m) up)

pub narrow_without : (ps : List Piece) (n m i : ℕ) → ForEach (λ r. IsNarrow r.pos) (spread_records ps) → ForEach (λ r. IsNarrow r.pos) (remove (held_records n m ps) i)
narrow_without ps n m i narrow =
    Each-remove (λ r. IsNarrow r.pos) (held_records n m ps) i
    (Each-left (λ r. IsNarrow r.pos) (held_records n m ps) (spread_records (drop (n + m) ps)) (Each-right (λ r. IsNarrow r.pos) (held_records 0 n ps) (held_records n m ps ++ spread_records (drop (n + m) ps))
    (subst (λ (l : List Record). ForEach (λ r. IsNarrow r.pos) l) (three ps n m) narrow)))

pub length_without : (xs : List Record) (i : ℕ) → i < length xs → length (remove xs i) + 1 ≡ length xs
length_without xs i within = length-remove_at xs i within

-- a record of the second of two chunks among the records of both
pub in_second : (ps : List Piece) (n i before : ℕ) (d : Record) → n + 1 < length ps → before ≡ length (get_or ps n no_piece).kept
    → get_or (held_records n 2 ps) (before + i) d ≡ get_or (held_records (n + 1) 1 ps) i d
in_second [] n i before d within is = absurd (omega arith)
in_second (p ∷ []) n i before d within is = absurd (omega arith)
in_second (p ∷ q ∷ ps) zero i before d within is =
    let len : before ≡ length (records_of p) = is ∙ sym (length-records p) in
    ap (λ (k : ℕ). get_or (records_of p ++ (records_of q ++ [])) (k + i) d) len
    ∙ get_or-append-add (records_of p) (records_of q ++ []) i d
in_second (p ∷ q ∷ ps) (suc n) i before d within is =
    let next : suc n + 1 ≡ suc (n + 1) = omega arith in
    rw next (in_second (q ∷ ps) n i before d (omega arith) is)

pub second_fits : (ps : List Piece) (n i before : ℕ) → n + 1 < length ps → before ≡ length (get_or ps n no_piece).kept → i < length (held_records (n + 1) 1 ps)
    → before + i < length (held_records n 2 ps)
second_fits [] n i before within is fits = absurd (omega arith)
second_fits (p ∷ []) n i before within is fits = absurd (omega arith)
second_fits (p ∷ q ∷ ps) zero i before within is fits =
    omega (arith, length-append (records_of p) (records_of q ++ []), length-records p)
second_fits (p ∷ q ∷ ps) (suc n) i before within is fits =
    let next : suc n + 1 ≡ suc (n + 1) = omega arith in
    second_fits (q ∷ ps) n i before (omega arith) is (subst (λ (k : ℕ). i < length (held_records k 1 (p ∷ q ∷ ps))) next fits)

-- a record of the first of two chunks among the records of both
pub in_first : (ps : List Piece) (n i : ℕ) (d : Record) → n + 1 < length ps → i < length (held_records n 1 ps)
    → (i < length (held_records n 2 ps)) × (get_or (held_records n 2 ps) i d ≡ get_or (held_records n 1 ps) i d)
in_first [] n i d within fits = absurd (omega arith)
in_first (p ∷ []) n i d within fits = absurd (omega arith)
in_first (p ∷ q ∷ ps) zero i d within fits =
    let own : i < length (records_of p) = omega (arith, length-append (records_of p) []) in (
      omega (arith, length-append (records_of p) (records_of q ++ [])),
      get_or_append_left (records_of p) (records_of q ++ []) d i own ∙ sym (get_or_append_left (records_of p) [] d i own),
    )
in_first (p ∷ q ∷ ps) (suc n) i d within fits = in_first (q ∷ ps) n i d (omega arith) fits

pub two_are : (ps : List Piece) (n : ℕ) (d : Piece) → n + 1 < length ps
    → length (held_records n 2 ps) ≡ length (get_or ps n d).kept + length (get_or ps (n + 1) d).kept
two_are [] n d within = absurd (omega arith)
two_are (p ∷ []) n d within = absurd (omega arith)
two_are (p ∷ q ∷ ps) zero d within =
    omega (arith, length-append (records_of p) (records_of q ++ []), length-append (records_of q) [], length-records p, length-records q)
two_are (p ∷ q ∷ ps) (suc n) d within =
    let next : suc n + 1 ≡ suc (n + 1) = omega arith in
    rw next (two_are (q ∷ ps) n d (omega arith))

-- what is read of m chunks into an empty list
pub read_some : (ps lent : List Piece) (had items : List Record) (n m : ℕ) → had ≡ [] → lent ≡ ps
    → items ≡ had ++ spread_records (take (n + m - n) (drop n lent)) → items ≡ held_records n m ps
read_some ps lent had items n m none same is =
    let some : n + m - n ≡ m = omega arith in
    is ∙ ap (λ (l : List Record). l ++ spread_records (take (n + m - n) (drop n lent))) none
    ∙ ap (λ (k : ℕ). spread_records (take k (drop n lent))) some
    ∙ ap (λ (l : List Piece). spread_records (take m (drop n l))) same

pub held_narrow : (ps lent : List Piece) (n m : ℕ) → lent ≡ ps → ForEach (λ r. IsNarrow r.pos) (spread_records ps)
    → ForEach (λ r. IsNarrow r.pos) (spread_records (take (n + m - n) (drop n lent)))
held_narrow ps lent n m same narrow =
    let some : n + m - n ≡ m = omega arith in
    subst (λ (k : ℕ). ForEach (λ (r : Record). IsNarrow r.pos) (spread_records (take k (drop n lent)))) (sym some)
    (subst (λ (l : List Piece). ForEach (λ (r : Record). IsNarrow r.pos) (spread_records (take m (drop n l)))) (sym same)
    (Each-left (λ (r : Record). IsNarrow r.pos) (held_records n m ps) (spread_records (drop (n + m) ps))
    (Each-right (λ (r : Record). IsNarrow r.pos) (held_records 0 n ps) (held_records n m ps ++ spread_records (drop (n + m) ps))
    (subst (λ (l : List Record). ForEach (λ (r : Record). IsNarrow r.pos) l) (three ps n m) narrow))))
