-- Records found by their key among chunks.
use Rattle.std.proofs.Common.{◌≡◌, ◌≤◌, ◌<◌, ◌+◌, List, [], ◌∷◌, ◌++◌, ℕ, refl, ap, sym, ◌∙◌, length, take, drop, get_or, map, arith, All, Bool, true, false, cond, subst, Some, None}
use Rattle.std.specs.Prelude.{find, position}
use Rattle.std.proofs.lemmas.List.{get_or-map, take_all}
use Rattle.std.proofs.lemmas.List.Elements.{All-head, All-tail}
use Rattle.std.proofs.lemmas.List.Quantifiers.{position-Some}
use Rattle.nv_marks.specs.declared.record.Record.{Record}
use Rattle.nv_marks.specs.declared.record.Relative.{Relative}
use Rattle.nv_marks.specs.inside.Records.{ForEach, has_key, is_key}
use Rattle.nv_marks.specs.inside.Chunks.{Piece, placed_record, records_of, spread_records, held_records, IsFoundAt}
use Rattle.nv_marks.proofs.NameLemmas.{find-none, find_at, fail_from_position}
use Rattle.nv_marks.proofs.EachLemmas.{Each-append, All-from_each}
use Rattle.nv_marks.proofs.SpreadLemmas.{spread-append, spread_more, length-records}
use Rattle.nv_marks.proofs.EditLemmas.{at_split, held_one}

pub find-behind : {X : Type 0} (t : X → Bool) (xs ys : List X) → ForEach (λ x. t x ≡ false) xs → find t (xs ++ ys) ≡ find t ys
find-behind t [] ys none = refl
find-behind t (x ∷ xs) ys none = rw none.0 (find-behind t xs ys none.1)

pub find-front : {X : Type 0} (t : X → Bool) (xs ys : List X) (m : X) → find t xs ≡ Some m → find t (xs ++ ys) ≡ Some m
find-front t [] ys m found = absurd (cc)
find-front t (x ∷ xs) ys m found = by_case (find-front t xs ys m) (t x) found
  where
    by_case : (find t xs ≡ Some m → find t (xs ++ ys) ≡ Some m) → (b : Bool) → cond b (Some x) (find t xs) ≡ Some m
        → cond b (Some x) (find t (xs ++ ys)) ≡ Some m
    by_case rest true found = found
    by_case rest false found = rest found

-- what a chunk's own search says of its records
pub not_among : (ns id : ℕ) (end : Bool) (p : Piece) → position (λ (k : Relative). is_key ns id end k.info) p.kept ≡ None
    → ForEach (λ r. has_key ns id end r ≡ false) (records_of p)
not_among ns id end p nowhere = all p.kept (fail_from_position (λ (k : Relative). is_key ns id end k.info) p.kept nowhere)
  where
    all : (ks : List Relative) → All (λ (k : Relative). is_key ns id end k.info ≡ false) ks → ForEach (λ r. has_key ns id end r ≡ false) (map (placed_record p.base) ks)
    all [] each = tt
    all (k ∷ ks) each =
        (All-head (λ (k : Relative). is_key ns id end k.info ≡ false) k ks each, all ks (All-tail (λ (k : Relative). is_key ns id end k.info ≡ false) k ks each))

pub is_among : (ns id : ℕ) (end : Bool) (p : Piece) (i : ℕ) (d : Record) → position (λ (k : Relative). is_key ns id end k.info) p.kept ≡ Some i
    → (i < length (records_of p)) × (find (has_key ns id end) (records_of p) ≡ Some (get_or (records_of p) i d))
is_among ns id end p i d there =
    let k0 : Relative = record { by = record { rows = 0; cols = 0 }; info = d.info } in
    let first = position-Some (λ (k : Relative). is_key ns id end k.info) p.kept i k0 there in
    let len = length-records p in
    let within : i < length (records_of p) = omega (arith, first.0, len) in
    let at : (j : ℕ) → j < length p.kept → get_or (records_of p) j d ≡ placed_record p.base (get_or p.kept j k0) = λ j fits. get_or-map (placed_record p.base) p.kept j k0 d fits in (
      within,
      find_at (has_key ns id end) (records_of p) i d within
          (ap (has_key ns id end) (at i first.0) ∙ first.1)
          (λ j below. ap (has_key ns id end) (at j (omega (arith, first.0))) ∙ first.2 j below),
    )

pub found_there : (ns id : ℕ) (end : Bool) (ps : List Piece) (n i : ℕ) (p : Piece) → n < length ps → p ≡ get_or ps n p
    → ForEach (λ r. has_key ns id end r ≡ false) (spread_records (take n ps)) → position (λ (k : Relative). is_key ns id end k.info) p.kept ≡ Some i
    → IsFoundAt (has_key ns id end) ps n i
found_there ns id end ps n i p within here before there =
    let one : held_records n 1 ps ≡ records_of p = held_one ps n p within ∙ ap records_of (sym here) in
    let parts : spread_records ps ≡ spread_records (take n ps) ++ (records_of p ++ spread_records (drop (n + 1) ps)) =
    ap spread_records (at_split ps n p within) ∙ spread-append (take n ps) (get_or ps n p ∷ drop (n + 1) ps)
    ∙ ap (λ (q : Piece). spread_records (take n ps) ++ (records_of q ++ spread_records (drop (n + 1) ps))) (sym here) in
    record {
      chunk = within;
      place = subst (λ (l : List Record). i < length l) (sym one) (is_among ns id end p i no_record there).0;
      found = λ d.
          ap (find (has_key ns id end)) parts
          ∙ find-behind (has_key ns id end) (spread_records (take n ps)) (records_of p ++ spread_records (drop (n + 1) ps)) before
          ∙ find-front (has_key ns id end) (records_of p) (spread_records (drop (n + 1) ps)) (get_or (records_of p) i d) (is_among ns id end p i d there).1
          ∙ ap (λ (l : List Record). Some (get_or l i d)) (sym one);
    }
  where
    no_record : Record
    no_record = record { pos = record { row = 0; col = 0 }; info = record { ns = 0; id = 0; right = false; is_end = false; has_end = false; paint = None; priority = 0; restore = false; invalidate = false; hidden = false; set = 0 } }

pub not_yet_more : (ns id : ℕ) (end : Bool) (ps : List Piece) (n : ℕ) (p : Piece) → n < length ps → p ≡ get_or ps n p
    → ForEach (λ r. has_key ns id end r ≡ false) (spread_records (take n ps)) → position (λ (k : Relative). is_key ns id end k.info) p.kept ≡ None
    → ForEach (λ r. has_key ns id end r ≡ false) (spread_records (take (n + 1) ps))
not_yet_more ns id end ps n p within here before nowhere =
    subst (λ (l : List Record). ForEach (λ r. has_key ns id end r ≡ false) l)
    (sym (spread_more ps n p within ∙ ap (λ (q : Piece). spread_records (take n ps) ++ records_of q) (sym here)))
    (Each-append (λ r. has_key ns id end r ≡ false) (spread_records (take n ps)) (records_of p) before (not_among ns id end p nowhere))

pub nowhere_at_all : (ns id : ℕ) (end : Bool) (ps : List Piece) (n : ℕ) → length ps ≤ n → ForEach (λ r. has_key ns id end r ≡ false) (spread_records (take n ps))
    → find (has_key ns id end) (spread_records ps) ≡ None
nowhere_at_all ns id end ps n past before =
    find-none (has_key ns id end) (spread_records ps) (All-from_each (λ r. has_key ns id end r ≡ false) (spread_records ps)
    (subst (λ (l : List Piece). ForEach (λ r. has_key ns id end r ≡ false) (spread_records l)) (take_all n ps past) before))
