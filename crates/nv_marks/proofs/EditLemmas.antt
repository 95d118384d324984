-- One chunk extended_list anew, split into two, or joined with the next one: the chunks stay laid.
use Rattle.std.proofs.Common.{◌≡◌, ◌≤◌, ◌<◌, ◌+◌, ◌-◌, List, [], ◌∷◌, ◌++◌, ℕ, zero, suc, refl, ap, sym, ◌∙◌, append_assoc, length, take, drop, get_or, map, arith, false, subst}
use Rattle.std.specs.Prelude.{IsPermutation, insert}
use Rattle.std.proofs.lemmas.List.{length-take-le, length-drop, length-map, take-append-drop, append-nil, drop_more}
use Rattle.std.proofs.lemmas.List.Sorted.{IsPermutation-append_left, IsPermutation-append_right, IsPermutation-trans, IsPermutation-middle, IsPermutation-sym}
use Rattle.nv_places.specs.Places.{IsNarrow}
use Rattle.nv_marks.specs.declared.record.Record.{Record}
use Rattle.nv_marks.specs.inside.Records.{ForEach, Sort, precedes}
use Rattle.nv_marks.specs.inside.Chunks.{Piece, kept_from, records_of, spread_records, base_of, refilled_piece, IsFit, IsBased, Ample, IsLaid, IsSpare, pieces_edited_at, parted_pieces, held_records}
use Rattle.nv_marks.proofs.EachLemmas.{Each-append, Each-left, Each-right, Each-get_or, Each-permutation, Rises-left, Rises-right, Rises-cross, Rises-append}
use Rattle.nv_marks.proofs.SpreadLemmas.{spread-append, length-records, read_back, refilled_based, spread_at}

-- ---- the chunk at a place, and those before and behind it
pub no_piece : Piece
no_piece = record { base = record { row = 0; col = 0 }; kept = []; room = 0 }

pub at_split : (ps : List Piece) (n : ℕ) (d : Piece) → n < length ps → ps ≡ take n ps ++ get_or ps n d ∷ drop (n + 1) ps
at_split ps n d within = sym (take-append-drop n ps) ∙ ap (λ (l : List Piece). take n ps ++ l) (drop_more ps n d within)

pub edited_split : (n : ℕ) (f : Piece → Piece) (ps : List Piece) (d : Piece) → n < length ps
    → pieces_edited_at n f ps ≡ take n ps ++ f (get_or ps n d) ∷ drop (n + 1) ps
edited_split n f [] d within = absurd (omega arith)
edited_split zero f (p ∷ ps) d within = refl
edited_split (suc n) f (p ∷ ps) d within =
    let next : suc n + 1 ≡ suc (n + 1) = omega arith in
    rw next (ap (λ (l : List Piece). p ∷ l) (edited_split n f ps d (omega arith)))

pub parted_split : (n : ℕ) (rs : List Record) (s : Piece) (ps : List Piece) (d : Piece) → n < length ps
    → parted_pieces n rs s ps ≡ take n ps ++ refilled_piece (take 33 rs) (get_or ps n d) ∷ refilled_piece (drop 33 rs) s ∷ drop (n + 1) ps
parted_split n rs s [] d within = absurd (omega arith)
parted_split zero rs s (p ∷ ps) d within = refl
parted_split (suc n) rs s (p ∷ ps) d within =
    let next : suc n + 1 ≡ suc (n + 1) = omega arith in
    rw next (ap (λ (l : List Piece). p ∷ l) (parted_split n rs s ps d (omega arith)))

-- a chunk put behind the one that was extended_list
pub insert_parted : (n : ℕ) (rs : List Record) (s : Piece) (ps : List Piece) → n < length ps
    → insert (pieces_edited_at n (refilled_piece (take 33 rs)) ps) (n + 1) (refilled_piece (drop 33 rs) s) ≡ parted_pieces n rs s ps
insert_parted n rs s [] within = absurd (omega arith)
insert_parted zero rs s (p ∷ ps) within = refl
insert_parted (suc n) rs s (p ∷ ps) within =
    let next : suc n + 1 ≡ suc (n + 1) = omega arith in
    rw next (ap (λ (l : List Piece). p ∷ l) (insert_parted n rs s ps (omega arith)))

pub held_one : (ps : List Piece) (n : ℕ) (d : Piece) → n < length ps → held_records n 1 ps ≡ records_of (get_or ps n d)
held_one ps n d within =
    ap (λ (l : List Piece). spread_records (take 1 l)) (drop_more ps n d within) ∙ append-nil (records_of (get_or ps n d))

-- ---- neighbours
ample_grown : (fs bs : List Piece) (p q : Piece) → length p.kept ≤ length q.kept → Ample (fs ++ p ∷ bs) → Ample (fs ++ q ∷ bs)
ample_grown [] [] p q more ample = (tt, tt)
ample_grown [] (b ∷ bs) p q more ample = (omega (arith, ample.0), ample.1)
ample_grown (f ∷ []) bs p q more ample = (omega (arith, ample.0), ample_grown [] bs p q more ample.1)
ample_grown (f ∷ f' ∷ fs) bs p q more ample = (ample.0, ample_grown (f' ∷ fs) bs p q more ample.1)

pub ample_big : (q : Piece) (bs : List Piece) → 32 ≤ length q.kept → ForEach IsFit bs → Ample bs → Ample (q ∷ bs)
ample_big q [] big fit ample = (tt, tt)
ample_big q (b ∷ bs) big fit ample = (omega (arith, fit.0.some), ample)

pub ample_behind : (fs : List Piece) (q : Piece) (bs : List Piece) → 32 ≤ length q.kept → ForEach IsFit fs → Ample fs → Ample (q ∷ bs)
    → Ample (fs ++ q ∷ bs)
ample_behind [] q bs big fit ample rest = rest
ample_behind (f ∷ []) q bs big fit ample rest = (omega (arith, fit.0.some), rest)
ample_behind (f ∷ f' ∷ fs) q bs big fit ample rest = (ample.0, ample_behind (f' ∷ fs) q bs big fit.1 ample.1 rest)

pub Ample-left : (ps qs : List Piece) → Ample (ps ++ qs) → Ample ps
Ample-left [] qs ample = tt
Ample-left (p ∷ []) qs ample = (tt, tt)
Ample-left (p ∷ p' ∷ ps) qs ample = (ample.0, Ample-left (p' ∷ ps) qs ample.1)

pub Ample-right : (ps qs : List Piece) → Ample (ps ++ qs) → Ample qs
Ample-right [] qs ample = ample
Ample-right (p ∷ ps) qs ample = Ample-right ps qs ample.1

-- ---- a chunk extended_list
pub refilled_fit : (rs : List Record) (p : Piece) → 0 < length rs → length rs ≤ 64 → 64 ≤ p.room → IsFit (refilled_piece rs p)
refilled_fit rs p some few room =
    let len = length-map rs (kept_from (base_of rs)) in
    record { some = omega (arith, len); few = omega (arith, len); room = room }

pub spread_filled : (fs bs : List Piece) (p : Piece) (rs : List Record) → Sort rs
    → spread_records (fs ++ refilled_piece rs p ∷ bs) ≡ spread_records fs ++ (rs ++ spread_records bs)
spread_filled fs bs p rs up =
    spread-append fs (refilled_piece rs p ∷ bs)
    ∙ ap (λ (l : List Record). spread_records fs ++ (l ++ spread_records bs)) (read_back p rs up)

-- chunks with one in the place of others: what is left to show is that they are ample
pub laid_filled : (fs ms bs : List Piece) (p : Piece) (rs : List Record) → IsLaid (fs ++ (ms ++ bs)) → 0 < length rs → length rs ≤ 64
    → 64 ≤ p.room → Sort (spread_records fs ++ (rs ++ spread_records bs)) → ForEach (λ r. IsNarrow r.pos) rs → Ample (fs ++ refilled_piece rs p ∷ bs)
    → IsLaid (fs ++ refilled_piece rs p ∷ bs)
laid_filled fs ms bs p rs laid some few room up narrow ample = record {
  fit = Each-append IsFit fs (refilled_piece rs p ∷ bs) (Each-left IsFit fs (ms ++ bs) laid.fit)
      (refilled_fit rs p some few room, Each-right IsFit ms bs (Each-right IsFit fs (ms ++ bs) laid.fit));
  ample = ample;
  based = Each-append IsBased fs (refilled_piece rs p ∷ bs) (Each-left IsBased fs (ms ++ bs) laid.based)
      (refilled_based p rs own_up, Each-right IsBased ms bs (Each-right IsBased fs (ms ++ bs) laid.based));
  in_order = subst (λ (l : List Record). Sort l) (sym is) up;
  narrow = subst (λ (l : List Record). ForEach (λ r. IsNarrow r.pos) l) (sym is)
      (Each-append (λ r. IsNarrow r.pos) (spread_records fs) (rs ++ spread_records bs) (Each-left (λ r. IsNarrow r.pos) (spread_records fs) (spread_records ms ++ spread_records bs) old_narrow)
      (Each-append (λ r. IsNarrow r.pos) rs (spread_records bs) narrow
      (Each-right (λ r. IsNarrow r.pos) (spread_records ms) (spread_records bs) (Each-right (λ r. IsNarrow r.pos) (spread_records fs) (spread_records ms ++ spread_records bs) old_narrow))));
}
  where
    own_up : Sort rs
    own_up = Rises-left precedes rs (spread_records bs) (Rises-right precedes (spread_records fs) (rs ++ spread_records bs) up)

    is : spread_records (fs ++ refilled_piece rs p ∷ bs) ≡ spread_records fs ++ (rs ++ spread_records bs)
    is = spread_filled fs bs p rs own_up

    old_narrow : ForEach (λ r. IsNarrow r.pos) (spread_records fs ++ (spread_records ms ++ spread_records bs))
    old_narrow =
        subst (λ (l : List Record). ForEach (λ r. IsNarrow r.pos) l)
        (spread-append fs (ms ++ bs) ∙ ap (λ (l : List Record). spread_records fs ++ l) (spread-append ms bs)) laid.narrow

-- ---- a chunk that gets more records
pub rewritten_one : (ps qs : List Piece) (n : ℕ) (rs : List Record) → IsLaid ps → n < length ps → length (held_records n 1 ps) ≤ length rs → length rs ≤ 64
    → Sort (held_records 0 n ps ++ (rs ++ spread_records (drop (n + 1) ps))) → ForEach (λ r. IsNarrow r.pos) rs → qs ≡ pieces_edited_at n (refilled_piece rs) ps
    → IsLaid qs × (spread_records qs ≡ held_records 0 n ps ++ (rs ++ spread_records (drop (n + 1) ps)))
rewritten_one ps qs n rs laid within more few up narrow is =
    let p : Piece = get_or ps n no_piece in
    let whole : ps ≡ take n ps ++ ((p ∷ []) ++ drop (n + 1) ps) = at_split ps n no_piece within in
    let laid_parts : IsLaid (take n ps ++ ((p ∷ []) ++ drop (n + 1) ps)) = subst (λ (l : List Piece). IsLaid l) whole laid in
    let fit : IsFit p = (Each-right IsFit (take n ps) ((p ∷ []) ++ drop (n + 1) ps) laid_parts.fit).0 in
    let had : length p.kept ≤ length rs = omega (arith, ap length (held_one ps n no_piece within), length-records p) in
    let now : qs ≡ take n ps ++ refilled_piece rs p ∷ drop (n + 1) ps = is ∙ edited_split n (refilled_piece rs) ps no_piece within in
    let own_up : Sort rs = Rises-left precedes rs (spread_records (drop (n + 1) ps)) (Rises-right precedes (held_records 0 n ps) (rs ++ spread_records (drop (n + 1) ps)) up) in (
      subst (λ (l : List Piece). IsLaid l) (sym now)
          (laid_filled (take n ps) (p ∷ []) (drop (n + 1) ps) p rs laid_parts (omega (arith, fit.some)) few fit.room up narrow
          (ample_grown (take n ps) (drop (n + 1) ps) p (refilled_piece rs p) (omega (arith, had, length-map rs (kept_from (base_of rs)))) laid_parts.ample)),
      ap spread_records now ∙ spread_filled (take n ps) (drop (n + 1) ps) p rs own_up,
    )

pub rewritten_two : (ps qs : List Piece) (n : ℕ) (rs : List Record) (s : Piece) → IsLaid ps → n < length ps → IsSpare s → 64 < length rs → length rs ≤ 65
    → Sort (held_records 0 n ps ++ (rs ++ spread_records (drop (n + 1) ps))) → ForEach (λ r. IsNarrow r.pos) rs → qs ≡ parted_pieces n rs s ps
    → IsLaid qs × (spread_records qs ≡ held_records 0 n ps ++ (rs ++ spread_records (drop (n + 1) ps)))
rewritten_two ps qs n rs s laid within spare many few up narrow is =
    let fs : List Piece = take n ps in
    let bs : List Piece = drop (n + 1) ps in
    let p : Piece = get_or ps n no_piece in
    let us : List Record = take 33 rs in
    let cs : List Record = drop 33 rs in
    let both : us ++ cs ≡ rs = take-append-drop 33 rs in
    let len_a : length us ≡ 33 = length-take-le 33 rs (omega arith) in
    let len_c : length cs ≡ length rs - 33 = length-drop 33 rs in
    let whole : ps ≡ fs ++ ((p ∷ []) ++ bs) = at_split ps n no_piece within in
    let laid_parts : IsLaid (fs ++ ((p ∷ []) ++ bs)) = subst (λ (l : List Piece). IsLaid l) whole laid in
    let fit : ForEach IsFit (p ∷ bs) = Each-right IsFit fs ((p ∷ []) ++ bs) laid_parts.fit in
    let fit_fs : ForEach IsFit fs = Each-left IsFit fs ((p ∷ []) ++ bs) laid_parts.fit in
    let split_up : Sort (spread_records fs ++ ((us ++ cs) ++ spread_records bs)) = subst (λ (l : List Record). Sort (spread_records fs ++ (l ++ spread_records bs))) (sym both) up in
    let up_parts : Sort (spread_records fs ++ (us ++ (cs ++ spread_records bs))) =
    subst (λ (l : List Record). Sort (spread_records fs ++ l)) (append_assoc us cs (spread_records bs)) split_up in
    let up_rest : Sort (us ++ (cs ++ spread_records bs)) = Rises-right precedes (spread_records fs) (us ++ (cs ++ spread_records bs)) up_parts in
    let up_c : Sort cs = Rises-left precedes cs (spread_records bs) (Rises-right precedes us (cs ++ spread_records bs) up_rest) in
    let up_a : Sort us = Rises-left precedes us (cs ++ spread_records bs) up_rest in
    let now : qs ≡ fs ++ refilled_piece us p ∷ refilled_piece cs s ∷ bs = is ∙ parted_split n rs s ps no_piece within in
    let narrow_parts : ForEach (λ r. IsNarrow r.pos) (us ++ cs) = subst (λ (l : List Record). ForEach (λ r. IsNarrow r.pos) l) (sym both) narrow in
    let fit_a : IsFit (refilled_piece us p) = refilled_fit us p (omega arith) (omega arith) fit.0.room in
    let fit_c : IsFit (refilled_piece cs s) = refilled_fit cs s (omega arith) (omega arith) spare in
    let size_a : length (map (kept_from (base_of us)) us) ≡ 33 = length-map us (kept_from (base_of us)) ∙ len_a in
    let size_c : length (map (kept_from (base_of cs)) cs) ≡ length rs - 33 = length-map cs (kept_from (base_of cs)) ∙ len_c in
    let ample_bs : Ample bs = Ample-right (p ∷ []) bs (Ample-right fs ((p ∷ []) ++ bs) laid_parts.ample) in
    let ample_c : Ample (refilled_piece cs s ∷ bs) = ample_big (refilled_piece cs s) bs (omega arith) fit.1 ample_bs in
    let ample_a : Ample (refilled_piece us p ∷ refilled_piece cs s ∷ bs) = (omega arith, ample_c) in
    let read : spread_records (fs ++ refilled_piece us p ∷ refilled_piece cs s ∷ bs) ≡ spread_records fs ++ (us ++ (cs ++ spread_records bs)) =
    spread_filled fs (refilled_piece cs s ∷ bs) p us up_a
    ∙ ap (λ (l : List Record). spread_records fs ++ (us ++ (l ++ spread_records bs))) (read_back s cs up_c) in
    let old_narrow : ForEach (λ r. IsNarrow r.pos) (spread_records fs ++ (records_of p ++ spread_records bs)) =
    subst (λ (l : List Record). ForEach (λ r. IsNarrow r.pos) l) (spread-append fs (p ∷ bs)) laid_parts.narrow in (
      subst (λ (l : List Piece). IsLaid l) (sym now) (record {
        fit = Each-append IsFit fs (refilled_piece us p ∷ refilled_piece cs s ∷ bs) fit_fs (fit_a, (fit_c, fit.1));
        ample = ample_behind fs (refilled_piece us p) (refilled_piece cs s ∷ bs) (omega arith) fit_fs (Ample-left fs (p ∷ bs) laid_parts.ample) ample_a;
        based = Each-append IsBased fs (refilled_piece us p ∷ refilled_piece cs s ∷ bs) (Each-left IsBased fs (p ∷ bs) laid_parts.based)
            (refilled_based p us up_a, (refilled_based s cs up_c, (Each-right IsBased fs (p ∷ bs) laid_parts.based).1));
        in_order = subst (λ (l : List Record). Sort l) (sym read) up_parts;
        narrow = subst (λ (l : List Record). ForEach (λ r. IsNarrow r.pos) l) (sym read)
            (Each-append (λ r. IsNarrow r.pos) (spread_records fs) (us ++ (cs ++ spread_records bs)) (Each-left (λ r. IsNarrow r.pos) (spread_records fs) (records_of p ++ spread_records bs) old_narrow)
            (Each-append (λ r. IsNarrow r.pos) us (cs ++ spread_records bs) (Each-left (λ r. IsNarrow r.pos) us cs narrow_parts)
            (Each-append (λ r. IsNarrow r.pos) cs (spread_records bs) (Each-right (λ r. IsNarrow r.pos) us cs narrow_parts)
            (Each-right (λ r. IsNarrow r.pos) (records_of p) (spread_records bs) (Each-right (λ r. IsNarrow r.pos) (spread_records fs) (records_of p ++ spread_records bs) old_narrow)))));
      }),
      ap spread_records now ∙ read ∙ ap (λ (l : List Record). spread_records fs ++ l) (sym (append_assoc us cs (spread_records bs))) ∙ ap (λ (l : List Record). spread_records fs ++ (l ++ spread_records bs)) both,
    )

-- ---- a record put among those of a chunk
module _ (ps : List Piece) (n : ℕ) (r : Record) (rs : List Record) (laid : IsLaid ps) (within : n < length ps)
    (front : ForEach (λ x. precedes r x ≡ false) (held_records 0 n ps)) (behind : ForEach (λ x. precedes x r ≡ false) (spread_records (drop (n + 1) ps)))
    (same : IsPermutation (r ∷ held_records n 1 ps) rs) (up : Sort rs) where
  whole_is : spread_records ps ≡ held_records 0 n ps ++ (held_records n 1 ps ++ spread_records (drop (n + 1) ps))
  whole_is =
      ap spread_records (at_split ps n no_piece within) ∙ spread-append (take n ps) (get_or ps n no_piece ∷ drop (n + 1) ps)
      ∙ ap (λ (l : List Record). held_records 0 n ps ++ (l ++ spread_records (drop (n + 1) ps))) (sym (held_one ps n no_piece within))

  old_up : Sort (held_records 0 n ps ++ (held_records n 1 ps ++ spread_records (drop (n + 1) ps)))
  old_up = subst (λ (l : List Record). Sort l) whole_is laid.in_order

  pub order_with : Sort (held_records 0 n ps ++ (rs ++ spread_records (drop (n + 1) ps)))
  order_with =
      let rest : Sort (held_records n 1 ps ++ spread_records (drop (n + 1) ps)) = Rises-right precedes (held_records 0 n ps) (held_records n 1 ps ++ spread_records (drop (n + 1) ps)) old_up in
      Rises-append precedes (held_records 0 n ps) (rs ++ spread_records (drop (n + 1) ps))
      (Rises-left precedes (held_records 0 n ps) (held_records n 1 ps ++ spread_records (drop (n + 1) ps)) old_up)
      (Rises-append precedes rs (spread_records (drop (n + 1) ps)) up (Rises-right precedes (held_records n 1 ps) (spread_records (drop (n + 1) ps)) rest)
      (Each-permutation (λ x. ForEach (λ y. precedes y x ≡ false) (spread_records (drop (n + 1) ps))) (r ∷ held_records n 1 ps) rs same
      (behind, Rises-cross precedes (held_records n 1 ps) (spread_records (drop (n + 1) ps)) rest)))
      (across (held_records 0 n ps) front (Rises-cross precedes (held_records 0 n ps) (held_records n 1 ps ++ spread_records (drop (n + 1) ps)) old_up))
    where
      across : (xs : List Record) → ForEach (λ x. precedes r x ≡ false) xs
          → ForEach (λ x. ForEach (λ y. precedes y x ≡ false) (held_records n 1 ps ++ spread_records (drop (n + 1) ps))) xs
          → ForEach (λ x. ForEach (λ y. precedes y x ≡ false) (rs ++ spread_records (drop (n + 1) ps))) xs
      across [] before each = tt
      across (x ∷ xs) before each = (
        Each-append (λ y. precedes y x ≡ false) rs (spread_records (drop (n + 1) ps))
            (Each-permutation (λ y. precedes y x ≡ false) (r ∷ held_records n 1 ps) rs same
            (before.0, Each-left (λ y. precedes y x ≡ false) (held_records n 1 ps) (spread_records (drop (n + 1) ps)) each.0))
            (Each-right (λ y. precedes y x ≡ false) (held_records n 1 ps) (spread_records (drop (n + 1) ps)) each.0),
        across xs before.1 each.1,
      )

  pub narrow_with : IsNarrow r.pos → ForEach (λ x. IsNarrow x.pos) rs
  narrow_with one =
      Each-permutation (λ x. IsNarrow x.pos) (r ∷ held_records n 1 ps) rs same (
        one,
        Each-left (λ x. IsNarrow x.pos) (held_records n 1 ps) (spread_records (drop (n + 1) ps)) (Each-right (λ x. IsNarrow x.pos) (held_records 0 n ps)
            (held_records n 1 ps ++ spread_records (drop (n + 1) ps)) (subst (λ (l : List Record). ForEach (λ x. IsNarrow x.pos) l) whole_is laid.narrow)),
      )

  pub same_with : (qs : List Piece) → spread_records qs ≡ held_records 0 n ps ++ (rs ++ spread_records (drop (n + 1) ps)) → IsPermutation (r ∷ spread_records ps) (spread_records qs)
  same_with qs is =
      subst (λ (l : List Record). IsPermutation (r ∷ spread_records ps) l) (sym is)
      (subst (λ (l : List Record). IsPermutation (r ∷ l) (held_records 0 n ps ++ (rs ++ spread_records (drop (n + 1) ps)))) (sym whole_is)
      (IsPermutation-trans (r ∷ (held_records 0 n ps ++ (held_records n 1 ps ++ spread_records (drop (n + 1) ps)))) (held_records 0 n ps ++ ((r ∷ held_records n 1 ps) ++ spread_records (drop (n + 1) ps)))
      (held_records 0 n ps ++ (rs ++ spread_records (drop (n + 1) ps)))
      (IsPermutation-sym (held_records 0 n ps ++ r ∷ (held_records n 1 ps ++ spread_records (drop (n + 1) ps))) (r ∷ (held_records 0 n ps ++ (held_records n 1 ps ++ spread_records (drop (n + 1) ps))))
      (IsPermutation-middle (held_records 0 n ps) r (held_records n 1 ps ++ spread_records (drop (n + 1) ps))))
      (IsPermutation-append_right (held_records 0 n ps) ((r ∷ held_records n 1 ps) ++ spread_records (drop (n + 1) ps)) (rs ++ spread_records (drop (n + 1) ps))
      (IsPermutation-append_left (spread_records (drop (n + 1) ps)) (r ∷ held_records n 1 ps) rs same))))

pub held_few : (ps : List Piece) (n : ℕ) → ForEach IsFit ps → n < length ps → length (held_records n 1 ps) ≤ 64
held_few ps n fit within =
    let p : Piece = get_or ps n no_piece in
    let fits : IsFit p = Each-get_or IsFit ps n no_piece within fit in
    omega (arith, ap length (held_one ps n no_piece within), length-records p, fits.few)

pub held_up : (ps : List Piece) (n : ℕ) → IsLaid ps → n < length ps → Sort (held_records n 1 ps)
held_up ps n laid within =
    let p : Piece = get_or ps n no_piece in
    let parts : spread_records ps ≡ held_records 0 n ps ++ (held_records n 1 ps ++ spread_records (drop (n + 1) ps)) =
    ap spread_records (at_split ps n no_piece within) ∙ spread-append (take n ps) (p ∷ drop (n + 1) ps)
    ∙ ap (λ (l : List Record). held_records 0 n ps ++ (l ++ spread_records (drop (n + 1) ps))) (sym (held_one ps n no_piece within)) in
    Rises-left precedes (held_records n 1 ps) (spread_records (drop (n + 1) ps)) (Rises-right precedes (held_records 0 n ps) (held_records n 1 ps ++ spread_records (drop (n + 1) ps))
    (subst (λ (l : List Record). Sort l) parts laid.in_order))

pub held_each : (P : Record → Type 0) (ps : List Piece) (n : ℕ) → n < length ps → ForEach P (spread_records ps) → ForEach P (held_records n 1 ps)
held_each P ps n within each =
    subst (λ (l : List Record). ForEach P l) (sym (held_one ps n no_piece within)) (spread_at P ps n no_piece within each)

-- what is read of one chunk into an empty list
pub read_one : (ps lent : List Piece) (had items : List Record) (n : ℕ) → had ≡ [] → lent ≡ ps
    → items ≡ had ++ spread_records (take (n + 1 - n) (drop n lent)) → items ≡ held_records n 1 ps
read_one ps lent had items n none same is =
    let one : n + 1 - n ≡ 1 = omega arith in
    is ∙ ap (λ (l : List Record). l ++ spread_records (take (n + 1 - n) (drop n lent))) none
    ∙ ap (λ (k : ℕ). spread_records (take k (drop n lent))) one
    ∙ ap (λ (l : List Piece). spread_records (take 1 (drop n l))) same
