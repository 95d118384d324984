-- Who is among those told of a buffer, once some join them or leave them.
use Rattle.std.proofs.Common.{◌≡◌, ℕ, zero, suc, ◌+◌, ◌<◌, Bool, true, false, not, ◌&&◌, ◌||◌, cond, eqb, ltb, ℤ, List, [], ◌∷◌, filter, refl, sym, ap, ◌∙◌, subst, arith, Less}
use Rattle.std.specs.List.{list_any}
use Rattle.std.specs.Ordering.{nat_cmp, int_eq}
use Rattle.std.proofs.lemmas.Bool.Decides.{nat_tests, Decides-int_eq}
use Rattle.std.proofs.lemmas.Map.Views.{any-filter_same, All-after_first}
use Rattle.std.proofs.lemmas.Map.Keys.{sorted_tail}
use Rattle.std.proofs.lemmas.List.Folds.{list_any_none}
use Rattle.nv_subs.specs.Attachments.{Attachments, AreRising, HasSessions, sessions_of, is_session_of, with_session, without_session, without_sessions}

-- a test that holds, and one that doesn't
pub and-false : (b : Bool) → (b && false) ≡ false
and-false true = refl
and-false false = refl

pub same_number : (a b : ℕ) → eqb a b ≡ true → a ≡ b
same_number a b e = grind (arith, nat_tests)

pub eqb-same : (a : ℕ) → eqb a a ≡ true
eqb-same a = grind (arith, nat_tests)

-- one that leaves
pub is_session_of-without : (s t : ℕ) (xs : List ℕ)
    → is_session_of (without_session s xs) t ≡ (not (eqb t s) && is_session_of xs t)
is_session_of-without s t xs =
    any-filter_same (λ k. eqb k t) (λ k. not (eqb k s)) (not (eqb t s))
    (λ k e. ap (λ (n : ℕ). not (eqb n s)) (same_number k t e)) xs

-- several that leave
pub is_session_of-without_all : (several : List ℕ) (t : ℕ) (xs : List ℕ)
    → is_session_of (without_sessions several xs) t
    ≡ (not (is_session_of several t) && is_session_of xs t)
is_session_of-without_all several t xs =
    any-filter_same (λ k. eqb k t) (λ k. not (is_session_of several k)) (not (is_session_of several t))
    (λ k e. ap (λ (n : ℕ). not (is_session_of several n)) (same_number k t e)) xs

-- those for which a test holds
pub is_session_of-filter : (p : ℕ → Bool) (t : ℕ) (xs : List ℕ)
    → is_session_of (filter p xs) t ≡ (p t && is_session_of xs t)
is_session_of-filter p t xs =
    any-filter_same (λ k. eqb k t) p (p t) (λ k e. ap p (same_number k t e)) xs

-- one that joins
with_by_test : (s t x : ℕ) (xs : List ℕ) (less same : Bool) → (same ≡ true → x ≡ s)
    → is_session_of (with_session s xs) t ≡ (eqb s t || is_session_of xs t)
    → is_session_of (cond less (s ∷ x ∷ xs) (cond same (x ∷ xs) (x ∷ with_session s xs))) t
    ≡ (eqb s t || (eqb x t || is_session_of xs t))
with_by_test s t x xs true same is rest = refl
with_by_test s t x xs false true is rest =
    let e = is refl in subst (λ (n : ℕ). (eqb x t || is_session_of xs t) ≡ (eqb n t || (eqb x t || is_session_of xs t))) e (twice (eqb x t) (is_session_of xs t))
  where
    twice : (a b : Bool) → (a || b) ≡ (a || (a || b))
    twice true b = refl
    twice false b = refl
with_by_test s t x xs false false is rest =
    ap (λ (b : Bool). eqb x t || b) rest ∙ swapped (eqb x t) (eqb s t) (is_session_of xs t)
  where
    swapped : (a b c : Bool) → (a || (b || c)) ≡ (b || (a || c))
    swapped true true c = refl
    swapped true false c = refl
    swapped false b c = refl

pub is_session_of-with : (s t : ℕ) (xs : List ℕ)
    → is_session_of (with_session s xs) t ≡ (eqb s t || is_session_of xs t)
is_session_of-with s t [] = refl
is_session_of-with s t (x ∷ xs) =
    with_by_test s t x xs (ltb s x) (eqb x s) (same_number x s) (is_session_of-with s t xs)

-- the first of some in rising order is no other of them
less_apart : (s x : ℕ) → nat_cmp s x ≡ Less → eqb x s ≡ false
less_apart s x e = grind (arith, nat_tests)

pub none_above : (s : ℕ) (xs : List ℕ) → AreRising (s ∷ xs) → is_session_of xs s ≡ false
none_above s xs rising =
    list_any_none (λ x. eqb x s) xs (λ k d h. less_apart s _ (All-after_first nat_cmp s xs rising k d h))

pub rising_tail : (s : ℕ) (xs : List ℕ) → AreRising (s ∷ xs) → AreRising xs
rising_tail s xs rising = sorted_tail nat_cmp s xs rising

-- one buffer has these sessions now
pub told_in : (old new : Attachments) (n b : ℤ) (xs : List ℕ) (t : ℕ) → HasSessions old new n xs
    → is_session_of (sessions_of new b) t
    ≡ cond (int_eq n b) (is_session_of xs t) (is_session_of (sessions_of old b) t)
told_in old new n b xs t has = ap (λ (l : List ℕ). is_session_of l t) (has b) ∙ by_test (int_eq n b)
  where
    by_test : (c : Bool) → is_session_of (cond c xs (sessions_of old b)) t
        ≡ cond c (is_session_of xs t) (is_session_of (sessions_of old b) t)
    by_test true = refl
    by_test false = refl

pub same_buffer : (b n : ℤ) → int_eq b n ≡ true → b ≡ n
same_buffer b n e = grind (arith, Decides-int_eq b n)

int_eq-self : (n : ℤ) → int_eq n n ≡ true
int_eq-self n = grind (arith, Decides-int_eq n n)

pub int_eq-turned : (a b : ℤ) → int_eq a b ≡ int_eq b a
int_eq-turned a b = by (int_eq a b) (int_eq b a) refl refl
  where
    by : (c d : Bool) → int_eq a b ≡ c → int_eq b a ≡ d → int_eq a b ≡ int_eq b a
    by true true e f = e ∙ sym f
    by false false e f = e ∙ sym f
    by true false e f =
        absurd (let t : int_eq b a ≡ true = ap (λ (k : ℤ). int_eq b k) (same_buffer a b e) ∙ int_eq-self b in cc)
    by false true e f =
        absurd (let t : int_eq a b ≡ true = ap (λ (k : ℤ). int_eq a k) (same_buffer b a f) ∙ int_eq-self a in cc)

-- what two tests together tell
pub other_false : (a b : Bool) → a ≡ not b → a ≡ false → b ≡ true
other_false a true e h = refl
other_false a false e h = absurd (cc)

pub other_true : (a b : Bool) → a ≡ not b → a ≡ true → b ≡ false
other_true a false e h = refl
other_true a true e h = absurd (cc)
