-- Which sessions are among others.
use Rattle.std.proofs.Common.{◌≡◌, ◌<◌, ℕ, List, [], ◌∷◌, refl, sym, ap, subst, ◌∙◌, arith, Bool, true, false, not, cond, eqb, nat_lt, ◌||◌, ◌&&◌}
use Rattle.std.proofs.lemmas.Bool.{true≢false}
use Rattle.std.proofs.lemmas.Bool.Decides.{nat_tests}
use Rattle.std.proofs.lemmas.List.Kept.{IsStrictlySortedBy-filter}
use Rattle.std.specs.List.{filter}
use Rattle.std.specs.Ordering.{nat_cmp}
use Rattle.nv_subs.specs.Attachments.{AreRising, is_session_of, with_session, without_session, without_sessions}
use Rattle.nv_subs.proofs.Ranks.{AllAbove, Rises, rising-is, not-among}

same-number : (a b : ℕ) → eqb a b ≡ true → a ≡ b
same-number a b h = grind (arith, nat_tests, h)

eqb-flip : (a b : ℕ) → eqb a b ≡ eqb b a
eqb-flip a b = grind (arith, nat_tests)

eqb-self : (a : ℕ) → eqb a a ≡ true
eqb-self a = grind (arith, nat_tests)

-- ---- one more
or-swap : (a b c : Bool) → (a || (b || c)) ≡ (b || (a || c))
or-swap true true c = refl
or-swap true false c = refl
or-swap false b c = refl

or-again : (a c : Bool) → (a || (a || c)) ≡ (a || c)
or-again true c = refl
or-again false c = refl

pub member-with : (s t : ℕ) (xs : List ℕ) → is_session_of (with_session s xs) t ≡ (eqb s t || is_session_of xs t)
member-with s t [] = refl
member-with s t (x ∷ xs) = by (nat_lt s x) (eqb x s) refl (member-with s t xs)
  where
    by : (b c : Bool) → eqb x s ≡ c → is_session_of (with_session s xs) t ≡ (eqb s t || is_session_of xs t)
        → is_session_of (cond b (s ∷ x ∷ xs) (cond c (x ∷ xs) (x ∷ with_session s xs))) t
        ≡ (eqb s t || (eqb x t || is_session_of xs t))
    by true c e r = refl
    by false true e r =
        sym (ap (λ n. eqb n t || (eqb x t || is_session_of xs t)) (sym (same-number x s e)) ∙ or-again (eqb x t) (is_session_of xs t))
    by false false e r = ap (λ b. eqb x t || b) r ∙ or-swap (eqb x t) (eqb s t) (is_session_of xs t)

-- ---- fewer
-- what a filter keeps, by a test of the number that is asked for
member-kept : (p : ℕ → Bool) (t : ℕ) (xs : List ℕ) → is_session_of (filter p xs) t ≡ (p t && is_session_of xs t)
member-kept p t [] = and-false (p t)
  where
    and-false : (b : Bool) → false ≡ (b && false)
    and-false true = refl
    and-false false = refl
member-kept p t (x ∷ xs) = by (p x) (eqb x t) refl refl (member-kept p t xs)
  where
    both : (a b : Bool) → a ≡ true → (true || b) ≡ (a && (true || b))
    both true b h = refl
    both false b h = absurd (true≢false (sym h))

    none : (a b c : Bool) → a ≡ false → c ≡ (a && b) → c ≡ (a && (true || b))
    none true b c h k = absurd (true≢false h)
    none false b c h k = k

    by : (b c : Bool) → p x ≡ b → eqb x t ≡ c → is_session_of (filter p xs) t ≡ (p t && is_session_of xs t)
        → is_session_of (cond b (x ∷ filter p xs) (filter p xs)) t ≡ (p t && (c || is_session_of xs t))
    by true true e f r =
        let at : p t ≡ true = ap p (sym (same-number x t f)) ∙ e in
        ap (λ c. c || is_session_of (filter p xs) t) f ∙ both (p t) (is_session_of xs t) at
    by true false e f r = ap (λ c. c || is_session_of (filter p xs) t) f ∙ r
    by false true e f r =
        let at : p t ≡ false = ap p (sym (same-number x t f)) ∙ e in
        none (p t) (is_session_of xs t) (is_session_of (filter p xs) t) at r
    by false false e f r = r

pub member-without : (s t : ℕ) (xs : List ℕ) → is_session_of (without_session s xs) t ≡ (not (eqb s t) && is_session_of xs t)
member-without s t xs =
    member-kept (λ x. not (eqb x s)) t xs ∙ ap (λ b. not b && is_session_of xs t) (eqb-flip t s)

pub member-without_several : (several xs : List ℕ) (t : ℕ)
    → is_session_of (without_sessions several xs) t ≡ (not (is_session_of several t) && is_session_of xs t)
member-without_several several xs t = member-kept (λ x. not (is_session_of several x)) t xs

pub rising-without_several : (several xs : List ℕ) → AreRising xs → AreRising (without_sessions several xs)
rising-without_several several xs h = IsStrictlySortedBy-filter nat_cmp (λ x. not (is_session_of several x)) xs h

-- ---- one list
first-among : (x : ℕ) (xs : List ℕ) → is_session_of (x ∷ xs) x ≡ true
first-among x xs = ap (λ b. b || is_session_of xs x) (eqb-self x)

-- what is among numbers that are all above one is above it
among-above : (a t : ℕ) (xs : List ℕ) → AllAbove a xs → is_session_of xs t ≡ true → a < t
among-above a t [] h k = absurd (true≢false (sym k))
among-above a t (x ∷ xs) h k = by (eqb x t) refl k (among-above a t xs h.1)
  where
    by : (b : Bool) → eqb x t ≡ b → (b || is_session_of xs t) ≡ true → (is_session_of xs t ≡ true → a < t) → a < t
    by true e k r = subst (λ n. a < n) (same-number x t e) h.0
    by false e k r = r k

-- of two numbers one is the first of a list, or behind its first
not-below : (x y : ℕ) (ys : List ℕ) → AllAbove y ys → is_session_of (y ∷ ys) x ≡ true → (x < y → ⊥)
not-below x y ys above k lt = by (eqb y x) refl k
  where
    by : (b : Bool) → eqb y x ≡ b → (b || is_session_of ys x) ≡ true → ⊥
    by true e k = omega (arith, lt, same-number y x e)
    by false e k = omega (arith, lt, among-above y x ys above k)

firsts-same : (x y : ℕ) (xs ys : List ℕ) → AllAbove x xs → AllAbove y ys
    → ((t : ℕ) → is_session_of (x ∷ xs) t ≡ is_session_of (y ∷ ys) t) → x ≡ y
firsts-same x y xs ys up vp same =
    let one = not-below x y ys vp (sym (same x) ∙ first-among x xs) in
    let two = not-below y x xs up (same y ∙ first-among y ys) in
    by (nat_lt x y) (nat_lt y x) refl refl one two
  where
    by : (b c : Bool) → nat_lt x y ≡ b → nat_lt y x ≡ c → (x < y → ⊥) → (y < x → ⊥) → x ≡ y
    by true c e f one two = absurd (one (grind (arith, nat_tests, e)))
    by false true e f one two = absurd (two (grind (arith, nat_tests, f)))
    by false false e f one two = grind (arith, nat_tests, e, f)

rests-same : (x : ℕ) (xs ys : List ℕ) → AllAbove x xs → AllAbove x ys
    → ((t : ℕ) → is_session_of (x ∷ xs) t ≡ is_session_of (x ∷ ys) t) → (t : ℕ) → is_session_of xs t ≡ is_session_of ys t
rests-same x xs ys up vp same t = by (eqb x t) refl (same t)
  where
    by : (b : Bool) → eqb x t ≡ b → (b || is_session_of xs t) ≡ (b || is_session_of ys t) → is_session_of xs t ≡ is_session_of ys t
    by true e h =
        let at = same-number x t e in
        subst (λ n. is_session_of xs n ≡ is_session_of ys n) at (not-among x xs up ∙ sym (not-among x ys vp))
    by false e h = h

lists-same : (xs ys : List ℕ) → Rises xs → Rises ys → ((t : ℕ) → is_session_of xs t ≡ is_session_of ys t) → xs ≡ ys
lists-same [] [] up vp same = refl
lists-same [] (y ∷ ys) up vp same = absurd (true≢false (sym (same y ∙ first-among y ys)))
lists-same (x ∷ xs) [] up vp same = absurd (true≢false (sym (first-among x xs) ∙ same x))
lists-same (x ∷ xs) (y ∷ ys) up vp same =
    let first = firsts-same x y xs ys up.0 vp.0 same in
    let above = subst (λ n. AllAbove n ys) (sym first) vp.0 in
    let alike = subst (λ n. (t : ℕ) → is_session_of (x ∷ xs) t ≡ is_session_of (n ∷ ys) t) (sym first) same in
    let rest = lists-same xs ys up.1 vp.1 (rests-same x xs ys up.0 above alike) in
    λ i. first i ∷ rest i

pub one-list : (xs ys : List ℕ) → AreRising xs → AreRising ys → ((t : ℕ) → is_session_of xs t ≡ is_session_of ys t) → xs ≡ ys
one-list xs ys up vp same = lists-same xs ys (rising-is xs up) (rising-is ys vp) same
