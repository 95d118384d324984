-- How a scan moves.
use Rattle.std.proofs.Common.{◌≡◌, ℕ, ◌+◌, ◌-◌, ◌<◌, ◌≤◌, suc, List, [], ◌∷◌, ◌++◌, length, drop, get_or, sum, reverse, sym, ap, ◌∙◌, subst, arith, length-append}
use Rattle.std.proofs.lemmas.List.{reverse-append}
use Rattle.std.proofs.lemmas.List.Sums.{sum_by-cons}
use Rattle.nv_msgpack.specs.Spelling.{form}
use Rattle.nv_msgpack.specs.Reading.{more, value_at}
use Rattle.nv_stream.specs.inside.Scanning.{head_of, KeepsWanting, IsPlace, IsFresh}
use Rattle.nv_stream.specs.declared.scan.Head.TheVariants.{Bytes, Values}
use Rattle.nv_stream.specs.declared.scan.Scan.{Scan}
use Rattle.nv_stream.proofs.Places.{starts, stays_fed, closes, passes, opens, ends_here, bytes_wait_here, values_wait_here}

-- a scan before a value is at a place of any bytes
pub place_starts : (depth most : ℕ) (bytes : List ℕ) (scan : Scan) → 1 ≤ most → IsFresh scan → IsPlace depth most bytes scan
place_starts depth most bytes scan h f =
    let none : length scan.outer.items ≡ 0 = ap (length {A = ℕ}) f.outer in
    let owed : scan.owed ∷ reverse scan.outer.items ≡ 1 ∷ [] = ap (λ (l : List ℕ). scan.owed ∷ reverse l) f.outer ∙ ap (λ (n : ℕ). n ∷ []) f.owed in
    let inner : depth - length scan.outer.items ≡ depth = omega arith in
    let at = f.at in
    let one = f.owed in
    let all = f.all in
    let behind : sum (reverse scan.outer.items) ≡ 0 = ap (λ (l : List ℕ). sum (reverse l)) f.outer in
    record {
      within = omega arith;
      all = omega arith;
      fits = omega arith;
      deep = omega arith;
      leads = subst (λ (n : ℕ). KeepsWanting depth most bytes n (depth - length scan.outer.items) (scan.owed ∷ reverse scan.outer.items)) (sym f.at)
          (subst (λ (l : List ℕ). KeepsWanting depth most bytes 0 (depth - length scan.outer.items) l) (sym owed)
          (subst (λ (d : ℕ). KeepsWanting depth most bytes 0 d (1 ∷ [])) (sym inner) (starts depth most bytes)));
    }

-- more bytes don't move it
pub place_fed : (depth most : ℕ) (bytes piece : List ℕ) (scan : Scan) → IsPlace depth most bytes scan → IsPlace depth most (bytes ++ piece) scan
place_fed depth most bytes piece scan p =
    let within = p.within in
    record {
      within = omega (arith, length-append bytes piece);
      all = p.all;
      fits = p.fits;
      deep = p.deep;
      leads = stays_fed depth most bytes piece scan.at (depth - length scan.outer.items) (scan.owed ∷ reverse scan.outer.items) p.within p.leads;
    }

-- one value is owed at least
leads_one : (depth most : ℕ) (bytes : List ℕ) (at inner owed : ℕ) (ns : List ℕ) → 0 < owed → KeepsWanting depth most bytes at inner (owed ∷ ns) → KeepsWanting depth most bytes at inner (suc (owed - 1) ∷ ns)
leads_one depth most bytes at inner owed ns h leads =
    let one : owed ≡ suc (owed - 1) = omega arith in
    subst (λ (n : ℕ). KeepsWanting depth most bytes at inner (n ∷ ns)) one leads

-- what the innermost list or map may have
fits_here : (most at all owed behind least : ℕ) → all ≡ owed + behind → 0 < owed → at + all ≤ most → least + at + all ≤ most + 1 → least ≤ ((most - at) - behind) - (owed - 1)
fits_here most at all owed behind least a b c d = omega arith

pub place_passes : (depth most : ℕ) (bytes : List ℕ) (old new : Scan) (least : ℕ) → IsPlace depth most bytes old → 0 < old.owed → old.at < length bytes
    → head_of (form (get_or bytes old.at 0)) (drop (old.at + 1) bytes) ≡ Bytes least → least + old.at + old.owed_in_all ≤ most + 1 → old.at + least ≤ length bytes
    → new.at ≡ old.at + least → new.owed ≡ old.owed - 1 → new.outer.items ≡ old.outer.items → new.owed_in_all ≡ old.owed_in_all - 1 → IsPlace depth most bytes new
place_passes depth most bytes old new least p owed inside head room within at_is owed_is outer_is all_is =
    let ns = reverse old.outer.items in
    let all = p.all in
    let fits = p.fits in
    let deep = p.deep in
    let leads : KeepsWanting depth most bytes (old.at + least) (depth - length old.outer.items) ((old.owed - 1) ∷ reverse old.outer.items) =
    passes depth most bytes old.at (depth - length old.outer.items) (old.owed - 1) (reverse old.outer.items) least inside head
    (fits_here most old.at old.owed_in_all old.owed (sum (reverse old.outer.items)) least all owed fits room) within
    (leads_one depth most bytes old.at (depth - length old.outer.items) old.owed (reverse old.outer.items) owed p.leads) in
    let sums : sum (reverse new.outer.items) ≡ sum (reverse old.outer.items) = ap (λ (l : List ℕ). sum (reverse l)) outer_is in
    let lengths : length new.outer.items ≡ length old.outer.items = ap (length {A = ℕ}) outer_is in
    record {
      within = omega arith;
      all = omega arith;
      fits = omega arith;
      deep = omega arith;
      leads = subst (λ (n : ℕ). KeepsWanting depth most bytes n (depth - length new.outer.items) (new.owed ∷ reverse new.outer.items)) (sym at_is)
          (subst (λ (n : ℕ). KeepsWanting depth most bytes (old.at + least) (depth - length new.outer.items) (n ∷ reverse new.outer.items)) (sym owed_is)
          (subst (λ (l : List ℕ). KeepsWanting depth most bytes (old.at + least) (depth - length l) ((old.owed - 1) ∷ reverse l)) (sym outer_is) leads));
    }

-- the last of a list is the first of the reversed one
reverse_push : (xs : List ℕ) (n : ℕ) → reverse (xs ++ n ∷ []) ≡ n ∷ reverse xs
reverse_push xs n = reverse-append xs (n ∷ [])

sum_push : (xs : List ℕ) (n : ℕ) → sum (reverse (xs ++ n ∷ [])) ≡ n + sum (reverse xs)
sum_push xs n = ap (λ (l : List ℕ). sum l) (reverse_push xs n) ∙ sum_by-cons (λ (x : ℕ). x) n (reverse xs)

pub place_closes : (depth most : ℕ) (bytes : List ℕ) (old new : Scan) (n : ℕ) → IsPlace depth most bytes old → old.owed ≡ 0 → old.outer.items ≡ new.outer.items ++ n ∷ []
    → new.at ≡ old.at → new.owed ≡ n → new.owed_in_all ≡ old.owed_in_all → IsPlace depth most bytes new
place_closes depth most bytes old new n p none outer_is at_is owed_is all_is =
    let xs = new.outer.items in
    let within = p.within in
    let all = p.all in
    let fits = p.fits in
    let deep = p.deep in
    let sums : sum (reverse old.outer.items) ≡ n + sum (reverse new.outer.items) = ap (λ (l : List ℕ). sum (reverse l)) outer_is ∙ sum_push new.outer.items n in
    let lengths : length old.outer.items ≡ length new.outer.items + 1 = ap (length {A = ℕ}) outer_is ∙ length-append new.outer.items (n ∷ []) in
    let owed : old.owed ∷ reverse old.outer.items ≡ 0 ∷ n ∷ reverse new.outer.items =
    ap (λ (l : List ℕ). old.owed ∷ reverse l) outer_is ∙ ap (λ (l : List ℕ). old.owed ∷ l) (reverse_push new.outer.items n)
    ∙ ap (λ (k : ℕ). k ∷ n ∷ reverse new.outer.items) none in
    let before : KeepsWanting depth most bytes old.at (depth - length old.outer.items) (0 ∷ n ∷ reverse new.outer.items) =
    subst (λ (l : List ℕ). KeepsWanting depth most bytes old.at (depth - length old.outer.items) l) owed p.leads in
    let leads = closes depth most bytes old.at (depth - length old.outer.items) n (reverse new.outer.items) before in
    let inner : suc (depth - length old.outer.items) ≡ depth - length new.outer.items = omega arith in
    record {
      within = omega arith;
      all = omega arith;
      fits = omega arith;
      deep = omega arith;
      leads = subst (λ (k : ℕ). KeepsWanting depth most bytes k (depth - length new.outer.items) (new.owed ∷ reverse new.outer.items)) (sym at_is)
          (subst (λ (k : ℕ). KeepsWanting depth most bytes old.at (depth - length new.outer.items) (k ∷ reverse new.outer.items)) (sym owed_is)
          (subst (λ (d : ℕ). KeepsWanting depth most bytes old.at d (n ∷ reverse new.outer.items)) inner leads));
    }

pub place_opens : (depth most : ℕ) (bytes : List ℕ) (old new : Scan) (first count : ℕ) → IsPlace depth most bytes old → 0 < old.owed → old.at < length bytes
    → head_of (form (get_or bytes old.at 0)) (drop (old.at + 1) bytes) ≡ Values first count → first + count + old.at + old.owed_in_all ≤ most + 1 → old.at + first ≤ length bytes → length old.outer.items < depth
    → new.at ≡ old.at + first → new.owed ≡ count → new.outer.items ≡ old.outer.items ++ (old.owed - 1) ∷ [] → new.owed_in_all ≡ old.owed_in_all - 1 + count → IsPlace depth most bytes new
place_opens depth most bytes old new first count p owed inside head room within less at_is owed_is outer_is all_is =
    let all = p.all in
    let fits = p.fits in
    let sums : sum (reverse new.outer.items) ≡ (old.owed - 1) + sum (reverse old.outer.items) = ap (λ (l : List ℕ). sum (reverse l)) outer_is ∙ sum_push old.outer.items (old.owed - 1) in
    let lengths : length new.outer.items ≡ length old.outer.items + 1 = ap (length {A = ℕ}) outer_is ∙ length-append old.outer.items ((old.owed - 1) ∷ []) in
    let inner : depth - length old.outer.items ≡ suc (depth - length new.outer.items) = omega arith in
    let before : KeepsWanting depth most bytes old.at (suc (depth - length new.outer.items)) (suc (old.owed - 1) ∷ reverse old.outer.items) =
    subst (λ (d : ℕ). KeepsWanting depth most bytes old.at d (suc (old.owed - 1) ∷ reverse old.outer.items)) inner
    (leads_one depth most bytes old.at (depth - length old.outer.items) old.owed (reverse old.outer.items) owed p.leads) in
    let leads : KeepsWanting depth most bytes (old.at + first) (depth - length new.outer.items) (count ∷ (old.owed - 1) ∷ reverse old.outer.items) =
    opens depth most bytes old.at (depth - length new.outer.items) (old.owed - 1) (reverse old.outer.items) first count inside head
    (fits_here most old.at old.owed_in_all old.owed (sum (reverse old.outer.items)) (first + count) all owed fits room) within before in
    let stack : reverse new.outer.items ≡ (old.owed - 1) ∷ reverse old.outer.items = ap (λ (l : List ℕ). reverse l) outer_is ∙ reverse_push old.outer.items (old.owed - 1) in
    record {
      within = omega arith;
      all = omega arith;
      fits = omega arith;
      deep = omega arith;
      leads = subst (λ (k : ℕ). KeepsWanting depth most bytes k (depth - length new.outer.items) (new.owed ∷ reverse new.outer.items)) (sym at_is)
          (subst (λ (k : ℕ). KeepsWanting depth most bytes (old.at + first) (depth - length new.outer.items) (k ∷ reverse new.outer.items)) (sym owed_is)
          (subst (λ (l : List ℕ). KeepsWanting depth most bytes (old.at + first) (depth - length new.outer.items) (count ∷ l)) (sym stack) leads));
    }

-- where a scan waits

pub waits_at_end : (depth most : ℕ) (bytes : List ℕ) (scan : Scan) → IsPlace depth most bytes scan → 0 < scan.owed → scan.at ≡ length bytes → value_at depth most bytes ≡ more
waits_at_end depth most bytes scan p owed e =
    ends_here depth most bytes scan.at (depth - length scan.outer.items) (scan.owed - 1) (reverse scan.outer.items) e
    (leads_one depth most bytes scan.at (depth - length scan.outer.items) scan.owed (reverse scan.outer.items) owed p.leads)

pub waits_for_bytes : (depth most : ℕ) (bytes : List ℕ) (scan : Scan) (least : ℕ) → IsPlace depth most bytes scan → 0 < scan.owed → scan.at < length bytes
    → head_of (form (get_or bytes scan.at 0)) (drop (scan.at + 1) bytes) ≡ Bytes least → least + scan.at + scan.owed_in_all ≤ most + 1 → length bytes < scan.at + least → value_at depth most bytes ≡ more
waits_for_bytes depth most bytes scan least p owed inside head room short =
    bytes_wait_here depth most bytes scan.at (depth - length scan.outer.items) (scan.owed - 1) (reverse scan.outer.items) least inside head
    (fits_here most scan.at scan.owed_in_all scan.owed (sum (reverse scan.outer.items)) least p.all owed p.fits room) short
    (leads_one depth most bytes scan.at (depth - length scan.outer.items) scan.owed (reverse scan.outer.items) owed p.leads)

pub waits_for_length : (depth most : ℕ) (bytes : List ℕ) (scan : Scan) (first count : ℕ) → IsPlace depth most bytes scan → 0 < scan.owed → scan.at < length bytes
    → head_of (form (get_or bytes scan.at 0)) (drop (scan.at + 1) bytes) ≡ Values first count → first + count + scan.at + scan.owed_in_all ≤ most + 1 → length bytes < scan.at + first → length scan.outer.items < depth
    → value_at depth most bytes ≡ more
waits_for_length depth most bytes scan first count p owed inside head room short less =
    let inner : depth - length scan.outer.items ≡ suc (depth - (length scan.outer.items + 1)) = omega arith in
    let before : KeepsWanting depth most bytes scan.at (suc (depth - (length scan.outer.items + 1))) (suc (scan.owed - 1) ∷ reverse scan.outer.items) =
    subst (λ (d : ℕ). KeepsWanting depth most bytes scan.at d (suc (scan.owed - 1) ∷ reverse scan.outer.items)) inner
    (leads_one depth most bytes scan.at (depth - length scan.outer.items) scan.owed (reverse scan.outer.items) owed p.leads) in
    values_wait_here depth most bytes scan.at (depth - (length scan.outer.items + 1)) (scan.owed - 1) (reverse scan.outer.items) first count inside head
    (fits_here most scan.at scan.owed_in_all scan.owed (sum (reverse scan.outer.items)) (first + count) p.all owed p.fits room) short before
