-- What single puts come to: loops over chunks and over the records of a chunk.
use Rattle.std.proofs.Common.{◌≡◌, ◌≤◌, ◌<◌, ◌+◌, ◌-◌, List, [], ◌∷◌, ◌++◌, ℕ, zero, suc, refl, ap, sym, ◌∙◌, append_assoc, length, length-append, take, drop, get_or, set, map, arith, true, subst, inl, inr}
use Rattle.std.proofs.lemmas.Bool.{cases_lt}
use Rattle.std.proofs.lemmas.List.{length-take-le, length-take, length-drop, drop-drop, drop_all, drop_more, set_at, get_or_default}
use Rattle.nv_places.specs.declared.place.Pos.{Pos}
use Rattle.nv_places.specs.declared.place.Extent.{Extent}
use Rattle.nv_places.specs.Moves.{moved_place}
use Rattle.nv_marks.specs.declared.record.Record.{Record}
use Rattle.nv_marks.specs.declared.record.Relative.{Relative}
use Rattle.nv_marks.specs.inside.Records.{ForEach}
use Rattle.nv_marks.proofs.EachLemmas.{Each-drop}
use Rattle.nv_marks.specs.inside.Chunks.{Piece, kept_from, refilled_piece, with_base, with_kept, pieces_edited_at, piece_written_from, written_piece, refit_pieces, pieces_carried_from}

-- ---- the n-th chunk changed
pub put_is : (n : ℕ) (f : Piece → Piece) (ps : List Piece) (q r : Piece) → n < length ps → q ≡ get_or ps n q → r ≡ f q
    → set ps n r ≡ pieces_edited_at n f ps
put_is n f [] q r within here is = absurd (omega arith)
put_is zero f (p ∷ ps) q r within here is = ap (λ (x : Piece). x ∷ ps) (is ∙ ap f here)
put_is (suc n) f (p ∷ ps) q r within here is = ap (λ (l : List Piece). p ∷ l) (put_is n f ps q r (omega arith) here is)

pub edited-past : (n : ℕ) (f : Piece → Piece) (ps : List Piece) → length ps ≤ n → pieces_edited_at n f ps ≡ ps
edited-past n f [] past = refl
edited-past zero f (p ∷ ps) past = absurd (omega arith)
edited-past (suc n) f (p ∷ ps) past = ap (λ (l : List Piece). p ∷ l) (edited-past n f ps (omega arith))

pub edited-same : (n : ℕ) (f : Piece → Piece) (ps : List Piece) → ((p : Piece) → f p ≡ p) → pieces_edited_at n f ps ≡ ps
edited-same n f [] same = refl
edited-same zero f (p ∷ ps) same = ap (λ (x : Piece). x ∷ ps) (same p)
edited-same (suc n) f (p ∷ ps) same = ap (λ (l : List Piece). p ∷ l) (edited-same n f ps same)

pub edited-edited : (n : ℕ) (f g : Piece → Piece) (ps : List Piece)
    → pieces_edited_at n g (pieces_edited_at n f ps) ≡ pieces_edited_at n (λ p. g (f p)) ps
edited-edited n f g [] = refl
edited-edited zero f g (p ∷ ps) = refl
edited-edited (suc n) f g (p ∷ ps) = ap (λ (l : List Piece). p ∷ l) (edited-edited n f g ps)

pub length-edited : (n : ℕ) (f : Piece → Piece) (ps : List Piece) → length (pieces_edited_at n f ps) ≡ length ps
length-edited n f [] = refl
length-edited zero f (p ∷ ps) = refl
length-edited (suc n) f (p ∷ ps) = ap suc (length-edited n f ps)

pub drop-edited : (n : ℕ) (f : Piece → Piece) (ps : List Piece) → drop (n + 1) (pieces_edited_at n f ps) ≡ drop (n + 1) ps
drop-edited n f [] = refl
drop-edited zero f (p ∷ ps) = refl
drop-edited (suc n) f (p ∷ ps) =
    let next : suc n + 1 ≡ suc (n + 1) = omega arith in rw next (drop-edited n f ps)

-- ---- records written_piece into one chunk
pub write_more : (n first at : ℕ) (base : Pos) (rs : List Record) (ps : List Piece) (r : Record) → at < length rs → r ≡ get_or rs at r
    → pieces_edited_at n (piece_written_from (first + at + 1) base (drop (at + 1) rs)) (pieces_edited_at n (with_kept (first + at) (kept_from base r)) ps)
    ≡ pieces_edited_at n (piece_written_from (first + at) base (drop at rs)) ps
write_more n first at base rs ps r within here =
    edited-edited n (with_kept (first + at) (kept_from base r)) (piece_written_from (first + at + 1) base (drop (at + 1) rs)) ps
    ∙ ap (λ (l : List Record). pieces_edited_at n (piece_written_from (first + at) base l) ps) (ap (λ (x : Record). x ∷ drop (at + 1) rs) here ∙ sym (drop_more rs at r within))

pub write_end : (n first at : ℕ) (base : Pos) (rs : List Record) (ps : List Piece) → length rs ≤ at
    → pieces_edited_at n (piece_written_from (first + at) base (drop at rs)) ps ≡ ps
write_end n first at base rs ps past =
    ap (λ (l : List Record). pieces_edited_at n (piece_written_from (first + at) base l) ps) (drop_all at rs past)
    ∙ edited-same n (piece_written_from (first + at) base []) ps (λ p. refl)

pub write_all : (n : ℕ) (base : Pos) (rs : List Record) (ps : List Piece) (first : Record) → 0 < length rs → first ≡ get_or rs 0 first
    → base ≡ first.pos
    → pieces_edited_at n (piece_written_from 0 base rs) (pieces_edited_at n (with_base base) ps) ≡ pieces_edited_at n (written_piece rs) ps
write_all n base [] ps first some here is = absurd (omega arith)
write_all n base (r ∷ rs) ps first some here is =
    edited-edited n (with_base base) (piece_written_from 0 base (r ∷ rs)) ps
    ∙ ap (λ (b : Pos). pieces_edited_at n (λ p. piece_written_from 0 b (r ∷ rs) (with_base b p)) ps) (is ∙ ap (λ (x : Record). x.pos) here)

pub write_none : (n : ℕ) (rs : List Record) (ps : List Piece) → length rs ≡ 0 → ps ≡ pieces_edited_at n (written_piece rs) ps
write_none n [] ps none = sym (edited-same n (written_piece []) ps (λ p. refl))
write_none n (r ∷ rs) ps none = absurd (omega arith)

-- a chunk's records written_piece behind those that were written_piece
written-parts : (done old : List Relative) (base : Pos) (room at : ℕ) (rs : List Record) → length done ≡ at → length old ≡ length rs
    → piece_written_from at base rs (record { base = base; kept = done ++ old; room = room })
    ≡ (let p : Piece = record { base = base; kept = done ++ map (kept_from base) rs; room = room } in p)
written-parts done [] base room at [] is same = refl
written-parts done [] base room at (r ∷ rs) is same = absurd (omega arith)
written-parts done (k ∷ old) base room at [] is same = absurd (omega arith)
written-parts done (k ∷ old) base room at (r ∷ rs) is same =
    ap (λ (l : List Relative). piece_written_from (at + 1) base rs (record { base = base; kept = l; room = room }))
    (set_at done k old (kept_from base r) at is ∙ sym (append_assoc done (kept_from base r ∷ []) old))
    ∙ written-parts (done ++ kept_from base r ∷ []) old base room (at + 1) rs (omega (arith, length-append done (kept_from base r ∷ []))) (omega arith)
    ∙ ap (λ (l : List Relative). let p : Piece = record { base = base; kept = l; room = room } in p)
    (append_assoc done (kept_from base r ∷ []) (map (kept_from base) rs))

-- the same where others stand behind
pub written-midst : (done old rest : List Relative) (base : Pos) (room at : ℕ) (rs : List Record) → length done ≡ at → length old ≡ length rs
    → piece_written_from at base rs (record { base = base; kept = done ++ (old ++ rest); room = room })
    ≡ (let p : Piece = record { base = base; kept = done ++ (map (kept_from base) rs ++ rest); room = room } in p)
written-midst done [] rest base room at [] is same = refl
written-midst done [] rest base room at (r ∷ rs) is same = absurd (omega arith)
written-midst done (k ∷ old) rest base room at [] is same = absurd (omega arith)
written-midst done (k ∷ old) rest base room at (r ∷ rs) is same =
    ap (λ (l : List Relative). piece_written_from (at + 1) base rs (record { base = base; kept = l; room = room }))
    (set_at done k (old ++ rest) (kept_from base r) at is ∙ sym (append_assoc done (kept_from base r ∷ []) (old ++ rest)))
    ∙ written-midst (done ++ kept_from base r ∷ []) old rest base room (at + 1) rs (omega (arith, length-append done (kept_from base r ∷ []))) (omega arith)
    ∙ ap (λ (l : List Relative). let p : Piece = record { base = base; kept = l; room = room } in p)
    (append_assoc done (kept_from base r ∷ []) (map (kept_from base) rs ++ rest))

pub written_is : (rs : List Record) (p : Piece) → 0 < length rs → length p.kept ≡ length rs → written_piece rs p ≡ refilled_piece rs p
written_is [] p some same = absurd (omega arith)
written_is (r ∷ rs) p some same = written-parts [] p.kept r.pos p.room 0 (r ∷ rs) refl same

-- ---- several chunks written_piece
pub refit_more : (n m : ℕ) (ps : List Piece) (rs : List Record) (q : Piece) → n < length ps → q ≡ get_or ps n q
    → refit_pieces (n + 1) m (pieces_edited_at n (written_piece (take (length q.kept) rs)) ps) (drop (length q.kept) rs) ≡ refit_pieces n (suc m) ps rs
refit_more n m [] rs q within here = absurd (omega arith)
refit_more zero m (p ∷ ps) rs q within here =
    (ap (λ (x : Piece). written_piece (take (length x.kept) rs) p ∷ refit_pieces zero m ps (drop (length x.kept) rs)) here)
refit_more (suc n) m (p ∷ ps) rs q within here =
    let next : suc n + 1 ≡ suc (n + 1) = omega arith in
    rw next (ap (λ (l : List Piece). p ∷ l) (refit_more n m ps rs q (omega arith) here))

pub refit_end : (n : ℕ) (ps : List Piece) (rs : List Record) → refit_pieces n 0 ps rs ≡ ps
refit_end n [] rs = refl
refit_end zero (p ∷ ps) rs = refl
refit_end (suc n) (p ∷ ps) rs = ap (λ (l : List Piece). p ∷ l) (refit_end n ps rs)

-- what is left of some records once a part of them is done
pub part_rest : (rs part : List Record) (at size : ℕ) → part ≡ take size (drop at rs)
    → drop (at + length part) rs ≡ drop size (drop at rs)
part_rest rs part at size is = elim (cases_lt (length (drop at rs)) size) [
  | inl short ↦
      drop_all (at + length part) rs (omega (arith, len, length-take size (drop at rs), length-drop at rs))
      ∙ sym (drop_all size (drop at rs) (omega arith))
  | inr fits ↦
      let same : length part ≡ size = len ∙ length-take-le size (drop at rs) fits in
      rw same (sym (drop-drop size at rs))
]
  where
    len : length part ≡ length (take size (drop at rs))
    len = ap length is

-- ---- bases moved
pub carry_more : (n : ℕ) (start : Pos) (old new : Extent) (ps : List Piece) (q : Piece) → n < length ps → q ≡ get_or ps n q
    → pieces_carried_from (n + 1) start old new (pieces_edited_at n (with_base (moved_place true start old new q.base)) ps)
    ≡ pieces_carried_from n start old new ps
carry_more n start old new [] q within here = absurd (omega arith)
carry_more zero start old new (p ∷ ps) q within here =
    (ap (λ (x : Piece). with_base (moved_place true start old new x.base) p ∷ pieces_carried_from zero start old new ps) here)
carry_more (suc n) start old new (p ∷ ps) q within here =
    let next : suc n + 1 ≡ suc (n + 1) = omega arith in
    rw next (ap (λ (l : List Piece). p ∷ l) (carry_more n start old new ps q (omega arith) here))

pub carry_end : (n : ℕ) (start : Pos) (old new : Extent) (ps : List Piece) → length ps ≤ n → pieces_carried_from n start old new ps ≡ ps
carry_end n start old new [] past = refl
carry_end zero start old new (p ∷ ps) past = absurd (omega arith)
carry_end (suc n) start old new (p ∷ ps) past = ap (λ (l : List Piece). p ∷ l) (carry_end n start old new ps (omega arith))

pub carry_same : (n : ℕ) (start : Pos) (old new : Extent) (ps : List Piece)
    → ForEach (λ p. moved_place true start old new p.base ≡ p.base) (drop n ps) → pieces_carried_from n start old new ps ≡ ps
carry_same n start old new [] stay = refl
carry_same zero start old new (p ∷ ps) stay =
    ap (λ (b : Pos). with_base b p ∷ pieces_carried_from zero start old new ps) stay.0
    ∙ ap (λ (l : List Piece). p ∷ l) (carry_same zero start old new ps stay.1)
carry_same (suc n) start old new (p ∷ ps) stay = ap (λ (l : List Piece). p ∷ l) (carry_same n start old new ps stay)

pub refit_step : (n to at size : ℕ) (ps qs whole : List Piece) (rs part : List Record) (q : Piece) → n < to → n < length ps
    → q ≡ get_or ps n q → size ≡ length q.kept → part ≡ take size (drop at rs) → qs ≡ pieces_edited_at n (written_piece part) ps
    → refit_pieces n (to - n) ps (drop at rs) ≡ whole
    → refit_pieces (n + 1) (to - (n + 1)) qs (drop (at + length part) rs) ≡ whole
refit_step n to at size ps qs whole rs part q before within here sized cut put so_far =
    ap (λ (l : List Record). refit_pieces (n + 1) (to - (n + 1)) qs l) (part_rest rs part at (length q.kept) is_part)
    ∙ ap (λ (l : List Piece). refit_pieces (n + 1) (to - (n + 1)) l (drop (length q.kept) (drop at rs)))
    (put ∙ ap (λ (x : List Record). pieces_edited_at n (written_piece x) ps) is_part)
    ∙ refit_more n (to - (n + 1)) ps (drop at rs) q within here
    ∙ sym (ap (λ (k : ℕ). refit_pieces n k ps (drop at rs)) more)
    ∙ so_far
  where
    is_part : part ≡ take (length q.kept) (drop at rs)
    is_part = cut ∙ ap (λ (s : ℕ). take s (drop at rs)) sized

    more : to - n ≡ suc (to - (n + 1))
    more = omega arith

pub refit_last : (n to : ℕ) (ps whole : List Piece) (rs : List Record) → to ≤ n → refit_pieces n (to - n) ps rs ≡ whole → ps ≡ whole
refit_last n to ps whole rs past so_far =
    let none : to - n ≡ 0 = omega arith in
    sym (refit_end n ps rs) ∙ sym (ap (λ (k : ℕ). refit_pieces n k ps rs) none) ∙ so_far

pub part_fits : (rs part : List Record) (at size : ℕ) → at ≤ length rs → part ≡ take size (drop at rs) → at + length part ≤ length rs
part_fits rs part at size within is = omega (arith, ap length is, length-take size (drop at rs), length-drop at rs)

pub write_step : (n first at : ℕ) (base : Pos) (rs : List Record) (ps qs whole : List Piece) (d : Record) (k : Relative) → at < length rs
    → k ≡ kept_from base (get_or rs at d) → qs ≡ pieces_edited_at n (with_kept (first + at) k) ps
    → pieces_edited_at n (piece_written_from (first + at) base (drop at rs)) ps ≡ whole
    → pieces_edited_at n (piece_written_from (first + (at + 1)) base (drop (at + 1) rs)) qs ≡ whole
write_step n first at base rs ps qs whole d k within kept put so_far =
    let next : first + (at + 1) ≡ first + at + 1 = omega arith in
    ap (λ (i : ℕ). pieces_edited_at n (piece_written_from i base (drop (at + 1) rs)) qs) next
    ∙ ap (λ (l : List Piece). pieces_edited_at n (piece_written_from (first + at + 1) base (drop (at + 1) rs)) l)
    (put ∙ ap (λ (x : Relative). pieces_edited_at n (with_kept (first + at) x) ps) kept)
    ∙ write_more n first at base rs ps (get_or rs at d) within (get_or_default rs at d (get_or rs at d) within)
    ∙ so_far

pub carry_step : (n : ℕ) (start : Pos) (old new : Extent) (ps qs whole : List Piece) (q : Piece) (to : Pos) → n < length ps → q ≡ get_or ps n q
    → to ≡ moved_place true start old new q.base → qs ≡ pieces_edited_at n (with_base to) ps → pieces_carried_from n start old new ps ≡ whole
    → pieces_carried_from (n + 1) start old new qs ≡ whole
carry_step n start old new ps qs whole q to within here goes put so_far =
    ap (λ (l : List Piece). pieces_carried_from (n + 1) start old new l) (put ∙ ap (λ (p : Pos). pieces_edited_at n (with_base p) ps) goes)
    ∙ carry_more n start old new ps q within here
    ∙ so_far

-- what one change leaves behind it
pub drop-after : (m n : ℕ) (f : Piece → Piece) (ps qs : List Piece) → n < m → qs ≡ pieces_edited_at n f ps → drop m qs ≡ drop m ps
drop-after m n f ps qs later put =
    let whole : n + 1 + (m - (n + 1)) ≡ m = omega arith in
    sym (ap (λ (k : ℕ). drop k qs) whole) ∙ sym (drop-drop (m - (n + 1)) (n + 1) qs)
    ∙ ap (λ (l : List Piece). drop (m - (n + 1)) l) (ap (drop (n + 1)) put ∙ drop-edited n f ps)
    ∙ drop-drop (m - (n + 1)) (n + 1) ps ∙ ap (λ (k : ℕ). drop k ps) whole

pub Each-drop_next : (P : Piece → Type 0) (n : ℕ) (f : Piece → Piece) (ps qs : List Piece) → qs ≡ pieces_edited_at n f ps → ForEach P (drop n ps)
    → ForEach P (drop (n + 1) qs)
Each-drop_next P n f ps qs put each =
    subst (λ (l : List Piece). ForEach P l) (sym (ap (drop (n + 1)) put ∙ drop-edited n f ps ∙ sym (drop-drop 1 n ps))) (Each-drop P 1 (drop n ps) each)
