-- Sessions in rising order, by the place that a search finds.
use Rattle.std.proofs.Common.{◌≡◌, ◌<◌, ◌≤◌, ℕ, zero, suc, List, [], ◌∷◌, length, refl, sym, ap, subst, ◌∙◌, arith, Bool, true, false, not, cond, get_or, eqb, nat_lt, Result, Ok, Err}
use Rattle.std.proofs.lemmas.Bool.Decides.{nat_tests}
use Rattle.std.proofs.lemmas.List.Kept.{IsStrictlySortedBy-filter}
use Rattle.std.specs.List.{AllByRecursion, insert, remove}
use Rattle.std.specs.List.Sorted.{IsStrictlySortedBy, IsBinarySearchResult}
use Rattle.std.proofs.lemmas.List.Sorted.{searched}
use Rattle.std.proofs.lemmas.Map.Keys.{non_decreasing_from_sorted}
use Rattle.std.specs.Result.{MatchResult}
use Rattle.std.specs.Ordering.{nat_cmp}
use Rattle.std.specs.declared.cmp.Ordering.TheVariants.{Less}
use Rattle.nv_subs.specs.inside.Places.{IsPlaceAmong, IsGapAmong}
use Rattle.nv_subs.specs.Attachments.{AreRising, is_session_of, with_session, without_session}

-- each of the numbers is above one
abbrev pub AllAbove : ℕ → List ℕ → Type 0
AllAbove s xs = AllByRecursion (λ y. s < y) xs

-- the sessions rise: each is below those behind it
abbrev pub Rises : List ℕ → Type 0
Rises [] = Unit {0}
Rises (x ∷ xs) = AllAbove x xs × Rises xs

less-is : (x y : ℕ) → nat_cmp x y ≡ Less → x < y
less-is x y h = grind (arith, nat_tests)

is-less : (x y : ℕ) → x < y → nat_cmp x y ≡ Less
is-less x y h = grind (arith, nat_tests)

all-less-is : (x : ℕ) (ys : List ℕ) → AllByRecursion (λ y. nat_cmp x y ≡ Less) ys → AllAbove x ys
all-less-is x [] h = tt
all-less-is x (y ∷ ys) h = (less-is x y h.0, all-less-is x ys h.1)

all-is-less : (x : ℕ) (ys : List ℕ) → AllAbove x ys → AllByRecursion (λ y. nat_cmp x y ≡ Less) ys
all-is-less x [] h = tt
all-is-less x (y ∷ ys) h = (is-less x y h.0, all-is-less x ys h.1)

pub rising-is : (xs : List ℕ) → AreRising xs → Rises xs
unfolding IsStrictlySortedBy
rising-is [] h = tt
rising-is (x ∷ xs) h = (all-less-is x xs h.0, rising-is xs h.1)

is-rising : (xs : List ℕ) → Rises xs → AreRising xs
unfolding IsStrictlySortedBy
is-rising [] h = tt
is-rising (x ∷ xs) h = (all-is-less x xs h.0, is-rising xs h.1)

-- what is above one is above a smaller one
above-lower : (a b : ℕ) (xs : List ℕ) → a < b → AllAbove b xs → AllAbove a xs
above-lower a b [] lt h = tt
above-lower a b (x ∷ xs) lt h = (omega (arith, lt, h.0), above-lower a b xs lt h.1)

-- ---- a number that isn't there, since all are above it
pub not-among : (s : ℕ) (xs : List ℕ) → AllAbove s xs → is_session_of xs s ≡ false
not-among s [] h = refl
not-among s (x ∷ xs) h =
    let apart : eqb x s ≡ false = grind (arith, nat_tests, h.0) in
    rw apart (not-among s xs h.1)

all-stay : (s : ℕ) (xs : List ℕ) → AllAbove s xs → without_session s xs ≡ xs
all-stay s [] h = refl
all-stay s (x ∷ xs) h =
    let apart : eqb x s ≡ false = grind (arith, nat_tests, h.0) in
    rw apart (ap (λ l. x ∷ l) (all-stay s xs h.1))

goes-first : (s : ℕ) (xs : List ℕ) → AllAbove s xs → with_session s xs ≡ s ∷ xs
goes-first s [] h = refl
goes-first s (x ∷ xs) h =
    let below : nat_lt s x ≡ true = grind (arith, nat_tests, h.0) in
    rw below refl

-- ---- what the search says of a number and its place
above-at : (x : ℕ) (xs : List ℕ) (j : ℕ) → AllAbove x xs → j < length xs → x < get_or xs j 0
above-at x [] j h lt = absurd (omega (arith, lt))
above-at x (y ∷ ys) zero h lt = h.0
above-at x (y ∷ ys) (suc j) h lt = above-at x ys j h.1 (omega (arith, lt))

stands-first : (s x : ℕ) (xs : List ℕ) → x ≡ s → AllAbove x xs → IsPlaceAmong (x ∷ xs) s zero
stands-first s x xs e above =
    let same : eqb x s ≡ true = grind (arith, nat_tests, e) in
    let not_below : nat_lt s x ≡ false = grind (arith, nat_tests, e) in
    let more : AllAbove s xs = subst (λ n. AllAbove n xs) e above in
    record {
      within = omega arith;
      there = rw same refl;
      one_less = rw same (all-stay s xs more);
      one_more = rw (not_below, same) refl;
    }

stands-later : (s x : ℕ) (xs : List ℕ) (j : ℕ) → x < s → IsPlaceAmong xs s j → IsPlaceAmong (x ∷ xs) s (suc j)
stands-later s x xs j lt h =
    let apart : eqb x s ≡ false = grind (arith, nat_tests, lt) in
    let not_below : nat_lt s x ≡ false = grind (arith, nat_tests, lt) in
    let within = h.within in
    record {
      within = omega (arith, within);
      there = rw apart h.there;
      one_less = rw apart (ap (λ l. x ∷ l) h.one_less);
      one_more = rw (not_below, apart) (ap (λ l. x ∷ l) h.one_more);
    }

stands : (s : ℕ) (xs : List ℕ) (i : ℕ) → Rises xs → i < length xs → get_or xs i 0 ≡ s → IsPlaceAmong xs s i
stands s [] i up lt e = absurd (omega (arith, lt))
stands s (x ∷ xs) zero up lt e = stands-first s x xs e up.0
stands s (x ∷ xs) (suc j) up lt e =
    let within : j < length xs = omega (arith, lt) in
    stands-later s x xs j (subst (λ n. x < n) e (above-at x xs j up.0 within)) (stands s xs j up.1 within e)

misses-later : (s x : ℕ) (xs : List ℕ) (j : ℕ) → x < s → IsGapAmong xs s j → IsGapAmong (x ∷ xs) s (suc j)
misses-later s x xs j lt h =
    let apart : eqb x s ≡ false = grind (arith, nat_tests, lt) in
    let not_below : nat_lt s x ≡ false = grind (arith, nat_tests, lt) in
    let within = h.within in
    record {
      within = omega (arith, within);
      there = rw apart h.there;
      one_less = rw apart (ap (λ l. x ∷ l) h.one_less);
      one_more = rw (not_below, apart) (ap (λ l. x ∷ l) h.one_more);
    }

misses-first : (s : ℕ) (xs : List ℕ) → AllAbove s xs → IsGapAmong xs s zero
misses-first s xs above = record {
  within = omega arith;
  there = not-among s xs above;
  one_less = all-stay s xs above;
  one_more = goes-first s xs above;
}

misses : (s : ℕ) (xs : List ℕ) (i : ℕ) → Rises xs → i ≤ length xs
    → ((k : ℕ) → k < i → get_or xs k 0 < s) → ((k : ℕ) → i ≤ k → k < length xs → s < get_or xs k 0) → IsGapAmong xs s i
misses s [] zero up le low high = misses-first s [] tt
misses s [] (suc j) up le low high = absurd (omega (arith, le))
misses s (x ∷ xs) zero up le low high =
    let first : s < x = high zero (omega arith) (omega arith) in
    misses-first s (x ∷ xs) (first, above-lower s x xs first up.0)
misses s (x ∷ xs) (suc j) up le low high =
    misses-later s x xs j (low zero (omega arith))
    (misses s xs j up.1 (omega (arith, le)) (λ k lt. low (suc k) (omega (arith, lt)))
    (λ k from lt. high (suc k) (omega (arith, from)) (omega (arith, lt))))

-- what a search among sessions in rising order says
pub searched_place : (xs : List ℕ) (s : ℕ) (r : Result ℕ ℕ) → AreRising xs → IsBinarySearchResult (λ y. nat_cmp y s) xs r
    → MatchResult r (IsPlaceAmong xs s) (IsGapAmong xs s)
searched_place xs s (Ok i) up h =
    let at = searched xs s (Ok i) h (λ j k. non_decreasing_from_sorted xs up j k 0) in
    stands s xs i (rising-is xs up) at.0 at.1
searched_place xs s (Err i) up h =
    let at = searched xs s (Err i) h (λ j k. non_decreasing_from_sorted xs up j k 0) in
    misses s xs i (rising-is xs up) at.0 at.1 at.2

-- ---- order stays
above-with : (a s : ℕ) (xs : List ℕ) → a < s → AllAbove a xs → AllAbove a (with_session s xs)
above-with a s [] lt h = (lt, tt)
above-with a s (x ∷ xs) lt h = by (nat_lt s x) (eqb x s) (above-with a s xs lt h.1)
  where
    by : (b c : Bool) → AllAbove a (with_session s xs) → AllAbove a (cond b (s ∷ x ∷ xs) (cond c (x ∷ xs) (x ∷ with_session s xs)))
    by true c r = (lt, h)
    by false true r = h
    by false false r = (h.0, r)

rises-with : (s : ℕ) (xs : List ℕ) → Rises xs → Rises (with_session s xs)
rises-with s [] h = (tt, tt)
rises-with s (x ∷ xs) h = by (nat_lt s x) (eqb x s) refl refl (rises-with s xs h.1)
  where
    by : (b c : Bool) → nat_lt s x ≡ b → eqb x s ≡ c → Rises (with_session s xs)
        → Rises (cond b (s ∷ x ∷ xs) (cond c (x ∷ xs) (x ∷ with_session s xs)))
    by true c e f r =
        let lt : s < x = grind (arith, nat_tests, e) in
        ((lt, above-lower s x xs lt h.0), h)
    by false true e f r = h
    by false false e f r =
        let lt : x < s = grind (arith, nat_tests, e, f) in
        (above-with x s xs lt h.0, r)

pub rising-with : (s : ℕ) (xs : List ℕ) → AreRising xs → AreRising (with_session s xs)
rising-with s xs h = is-rising (with_session s xs) (rises-with s xs (rising-is xs h))

pub rising-without : (s : ℕ) (xs : List ℕ) → AreRising xs → AreRising (without_session s xs)
rising-without s xs h = IsStrictlySortedBy-filter nat_cmp (λ x. not (eqb x s)) xs h

pub rising-one : (s : ℕ) → AreRising (s ∷ [])
rising-one s = is-rising (s ∷ []) (tt, tt)

pub rising-none : AreRising []
rising-none = is-rising [] tt

-- the order after a session was put in its gap, or want of memory left the list
pub rising-put : (b : Bool) (xs new : List ℕ) (s i : ℕ) → AreRising xs → IsGapAmong xs s i → new ≡ cond b (insert xs i s) xs → AreRising new
rising-put true xs new s i up gap e = subst AreRising (gap.one_more ∙ sym e) (rising-with s xs up)
rising-put false xs new s i up gap e = subst AreRising (sym e) up

pub rising-removed : (xs new : List ℕ) (s i : ℕ) → AreRising xs → IsPlaceAmong xs s i → new ≡ remove xs i → AreRising new
rising-removed xs new s i up at e = subst AreRising (at.one_less ∙ sym e) (rising-without s xs up)
