-- The entries of one caller, and lists of numbers.
use Rattle.std.proofs.Common.{◌≡◌, ◌≢◌, ℕ, ◌+◌, Bool, true, false, cond, ◌==◌, ◌||◌, ◌⊎◌, inl, inr, ⊎_elim, List, [], ◌∷◌, ◌++◌, length, refl, ap, sym, ◌∙◌, arith, append-nil, length-append, eq-eqb, ne_eqb, eqb-true}
use Rattle.std.proofs.lemmas.List.Elements.{filter-append}
use mathlib.Core.List.{IsPrefix}
use Rattle.nv_turn.specs.Story.{Has, entries_by}

or_cases : (a b : Bool) → (a || b) ≡ true → (a ≡ true) ⊎ (b ≡ true)
or_cases true b h = inl refl
or_cases false b h = inr h

or_left : (a b : Bool) → a ≡ true → (a || b) ≡ true
or_left true b h = refl
or_left false b h = absurd (cc (h))

or_right : (a b : Bool) → b ≡ true → (a || b) ≡ true
or_right true b h = refl
or_right false b h = h

pub has_cases : (c : ℕ) (xs ys : List ℕ) → Has c (xs ++ ys) → Has c xs ⊎ Has c ys
has_cases c [] ys h = inr h
has_cases c (x ∷ xs) ys h =
    ⊎_elim (λ here. inl (or_left (x == c) _ here)) (λ later. ⊎_elim (λ l. inl (or_right (x == c) _ l)) (λ r. inr r) (has_cases c xs ys later)) (or_cases (x == c) _ h)

pub has_left : (c : ℕ) (xs ys : List ℕ) → Has c xs → Has c (xs ++ ys)
has_left c [] ys h = absurd (cc (h))
has_left c (x ∷ xs) ys h =
    ⊎_elim (λ here. or_left (x == c) _ here) (λ later. or_right (x == c) _ (has_left c xs ys later)) (or_cases (x == c) _ h)

pub has_right : (c : ℕ) (xs ys : List ℕ) → Has c ys → Has c (xs ++ ys)
has_right c [] ys h = h
has_right c (x ∷ xs) ys h = or_right (x == c) _ (has_right c xs ys h)

pub has_one : (c : ℕ) → Has c (c ∷ [])
has_one c = or_left (c == c) false (eq-eqb c c refl)

-- one number alone
pub is_one : (c n : ℕ) → Has c (n ∷ []) → n ≡ c
is_one c n h = ⊎_elim (λ t. eqb-true n c t) (λ f. absurd (cc (f))) (or_cases (n == c) false h)

none_by_length : {A : Type 0} (xs : List A) → length xs ≡ 0 → xs ≡ []
none_by_length [] e = refl
none_by_length (x ∷ xs) e = absurd (omega arith)

module _ {E : Type 0} (caller : E → ℕ) where
  pub own-append : (c : ℕ) (xs ys : List E) → entries_by caller c (xs ++ ys) ≡ entries_by caller c xs ++ entries_by caller c ys
  own-append c xs ys = filter-append (λ e. caller e == c) xs ys

  own_other : (c : ℕ) (e : E) → caller e ≢ c → entries_by caller c (e ∷ []) ≡ []
  own_other c e ne = ap (λ b. cond b (e ∷ []) []) (ne_eqb (caller e) c ne)

  own_one : (c : ℕ) (e : E) → caller e ≡ c → entries_by caller c (e ∷ []) ≡ e ∷ []
  own_one c e same = ap (λ b. cond b (e ∷ []) []) (eq-eqb (caller e) c same)

  -- an entry of another caller
  pub own_beside : (c : ℕ) (story : List E) (e : E) → caller e ≢ c → entries_by caller c (story ++ e ∷ []) ≡ entries_by caller c story
  own_beside c story e ne =
      own-append c story (e ∷ []) ∙ (ap (λ (z : List E). entries_by caller c story ++ z) (own_other c e ne) ∙ append-nil (entries_by caller c story))

  -- an entry of this caller
  pub own_added : (c : ℕ) (story : List E) (e : E) → caller e ≡ c → entries_by caller c (story ++ e ∷ []) ≡ entries_by caller c story ++ e ∷ []
  own_added c story e same = own-append c story (e ∷ []) ∙ ap (λ (z : List E). entries_by caller c story ++ z) (own_one c e same)

  -- between two beginnings of a story that have the same entries of c lies none of c
  pub own_between : (c : ℕ) (xs ys zs : List E) → IsPrefix xs ys → IsPrefix ys zs → entries_by caller c zs ≡ entries_by caller c xs → entries_by caller c ys ≡ entries_by caller c xs
  own_between c xs ys zs p q same =
      let whole : entries_by caller c ys ≡ entries_by caller c xs ++ entries_by caller c p.0 = ap (entries_by caller c) (sym p.1) ∙ own-append c xs p.0 in
      let more : entries_by caller c zs ≡ entries_by caller c ys ++ entries_by caller c q.0 = ap (entries_by caller c) (sym q.1) ∙ own-append c ys q.0 in
      let a : length (entries_by caller c ys) ≡ length (entries_by caller c xs) + length (entries_by caller c p.0) = ap length whole ∙ length-append (entries_by caller c xs) (entries_by caller c p.0) in
      let b : length (entries_by caller c zs) ≡ length (entries_by caller c ys) + length (entries_by caller c q.0) = ap length more ∙ length-append (entries_by caller c ys) (entries_by caller c q.0) in
      let d : length (entries_by caller c zs) ≡ length (entries_by caller c xs) = ap length same in
      let none : entries_by caller c p.0 ≡ [] = none_by_length (entries_by caller c p.0) (omega arith) in
      whole ∙ (ap (λ (z : List E). entries_by caller c xs ++ z) none ∙ append-nil (entries_by caller c xs))
