-- Lemmas on lists: elements by place, and numbers among others.
use Rattle.std.proofs.Common.{◌≡◌, ◌<◌, List, [], ◌∷◌, ◌++◌, ℕ, zero, suc, refl, ap, sym, ◌∙◌, subst, length, get_or, reverse, arith, Bool, true, false, not, cond, eqb, ◌||◌, inl, inr, Some, slice_get}
use Rattle.std.proofs.lemmas.Bool.{eq-eqb, eqb-true, or_left, or_right, or_parts, or_from, cases_Bool}
use Rattle.std.proofs.lemmas.List.{reverse-append}
use Rattle.nv_undo.specs.Tree.{has, those_outside}

module _ {X : Type 0} where
  pub slice_get_some : (xs : List X) (i : ℕ) → i < length xs → (x : X) × (slice_get xs i ≡ Some x)
  slice_get_some [] i within = absurd (omega arith)
  slice_get_some (x ∷ xs) zero within = (x, refl)
  slice_get_some (x ∷ xs) (suc i) within = slice_get_some xs i (omega arith)

  pub slice_get-append_left : (xs ys : List X) (i : ℕ) → i < length xs → slice_get (xs ++ ys) i ≡ slice_get xs i
  slice_get-append_left [] ys i within = absurd (omega arith)
  slice_get-append_left (x ∷ xs) ys zero within = refl
  slice_get-append_left (x ∷ xs) ys (suc i) within = slice_get-append_left xs ys i (omega arith)

  pub slice_get-push : (xs : List X) (x : X) → slice_get (xs ++ x ∷ []) (length xs) ≡ Some x
  slice_get-push [] x = refl
  slice_get-push (y ∷ xs) x = slice_get-push xs x

-- a 0 at the end is what stands past the end
pub get_or-push_zero : (xs : List ℕ) (i : ℕ) → get_or (xs ++ 0 ∷ []) i 0 ≡ get_or xs i 0
get_or-push_zero [] zero = refl
get_or-push_zero [] (suc i) = refl
get_or-push_zero (x ∷ xs) zero = refl
get_or-push_zero (x ∷ xs) (suc i) = get_or-push_zero xs i

-- ---- numbers among others
pub has_first : (n : ℕ) (ns : List ℕ) → has (n ∷ ns) n ≡ true
has_first n ns = or_left (eqb n n) (has ns n) (eq-eqb n n refl)

pub has_later : (n : ℕ) (ns : List ℕ) (k : ℕ) → has ns k ≡ true → has (n ∷ ns) k ≡ true
has_later n ns k inside = or_right (eqb n k) (has ns k) inside

-- in one of two lists
pub has-append : (ms ns : List ℕ) (k : ℕ) → has (ms ++ ns) k ≡ (has ms k || has ns k)
has-append [] ns k = refl
has-append (m ∷ ms) ns k = by_case (eqb m k) (has-append ms ns k)
  where
    by_case : (b : Bool) → has (ms ++ ns) k ≡ (has ms k || has ns k) → (b || has (ms ++ ns) k) ≡ ((b || has ms k) || has ns k)
    by_case true rest = refl
    by_case false rest = rest

pub has-reverse : (ns : List ℕ) (k : ℕ) → has ns k ≡ false → has (reverse ns) k ≡ false
has-reverse [] k outside = refl
has-reverse (n ∷ ns) k outside =
    ap (λ ms. has ms k) (reverse-append (n ∷ []) ns)
    ∙ (has-append (reverse ns) (n ∷ []) k ∙ by_case (eqb n k) outside (has-reverse ns k))
  where
    by_case : (b : Bool) → (b || has ns k) ≡ false → (has ns k ≡ false → has (reverse ns) k ≡ false)
        → (has (reverse ns) k || (b || false)) ≡ false
    by_case true outside rest = absurd cc
    by_case false outside rest = rw (rest outside) refl

pub has-reverse_true : (ns : List ℕ) (k : ℕ) → has ns k ≡ true → has (reverse ns) k ≡ true
has-reverse_true [] k inside = absurd cc
has-reverse_true (n ∷ ns) k inside =
    ap (λ ms. has ms k) (reverse-append (n ∷ []) ns)
    ∙ (has-append (reverse ns) (n ∷ []) k ∙ by_case (eqb n k) inside (has-reverse_true ns k))
  where
    by_case : (b : Bool) → (b || has ns k) ≡ true → (has ns k ≡ true → has (reverse ns) k ≡ true)
        → (has (reverse ns) k || (b || false)) ≡ true
    by_case true inside rest = or_right (has (reverse ns) k) true refl
    by_case false inside rest = or_left (has (reverse ns) k) false (rest inside)

-- ---- those that aren't among others
-- none is left of those that all are
pub without_all : (ns ms : List ℕ) → ((k : ℕ) → has ms k ≡ true → has ns k ≡ true) → those_outside ns ms ≡ []
without_all ns [] inside = refl
without_all ns (m ∷ ms) inside =
    rw (inside m (has_first m ms)) (without_all ns ms (λ k here. inside k (has_later m ms k here)))

-- lists with the same of these numbers leave the same of them
pub without_same : (ns ns' ms : List ℕ) → ((k : ℕ) → has ms k ≡ true → has ns k ≡ has ns' k) → those_outside ns ms ≡ those_outside ns' ms
without_same ns ns' [] same = refl
without_same ns ns' (m ∷ ms) same =
    let first : has ns m ≡ has ns' m = same m (has_first m ms) in
    let rest : those_outside ns ms ≡ those_outside ns' ms = without_same ns ns' ms (λ k here. same k (has_later m ms k here)) in
    λ i. cond (not (first i)) (m ∷ rest i) (rest i)

-- what both of two lists say of a number, each of them says
either : (c : Bool) (ms ns : List ℕ) (k : ℕ) (b : Bool) → has ms k ≡ b → has ns k ≡ b → has (cond (not c) ms ns) k ≡ b
either true ms ns k b first second = second
either false ms ns k b first second = first

-- a number that isn't there isn't left
pub without_outside : (ns ms : List ℕ) (k : ℕ) → has ms k ≡ false → has (those_outside ns ms) k ≡ false
without_outside ns [] k outside = refl
without_outside ns (m ∷ ms) k outside =
    let parts = or_parts (eqb m k) (has ms k) outside in
    let rest : has (those_outside ns ms) k ≡ false = without_outside ns ms k parts.1 in
    either (has ns m) (m ∷ those_outside ns ms) (those_outside ns ms) k false (or_from (eqb m k) (has (those_outside ns ms) k) parts.0 rest) rest

-- a number that is among the others isn't left
pub without_inside : (ns ms : List ℕ) (k : ℕ) → has ns k ≡ true → has (those_outside ns ms) k ≡ false
without_inside ns [] k inside = refl
without_inside ns (m ∷ ms) k inside =
    let rest : has (those_outside ns ms) k ≡ false = without_inside ns ms k inside in
    elim (cases_Bool (eqb m k)) [
      | inl same ↦ (
          let there : has ns m ≡ true = subst (λ n. has ns n ≡ true) (sym (eqb-true m k same)) inside in
          ap (λ c. has (cond (not c) (m ∷ those_outside ns ms) (those_outside ns ms)) k) there ∙ rest
          )
      | inr other ↦
          either (has ns m) (m ∷ those_outside ns ms) (those_outside ns ms) k false (or_from (eqb m k) (has (those_outside ns ms) k) other rest) rest
    ]

-- a number that isn't among the others is left
pub without_kept : (ns ms : List ℕ) (k : ℕ) → has ns k ≡ false → has ms k ≡ true → has (those_outside ns ms) k ≡ true
without_kept ns [] k outside here = absurd cc
without_kept ns (m ∷ ms) k outside here =
    elim (cases_Bool (eqb m k)) [
      | inl same ↦ (
          let there : has ns m ≡ false = subst (λ n. has ns n ≡ false) (sym (eqb-true m k same)) outside in
          ap (λ c. has (cond (not c) (m ∷ those_outside ns ms) (those_outside ns ms)) k) there
          ∙ or_left (eqb m k) (has (those_outside ns ms) k) same
          )
      | inr other ↦ (
          let behind : has ms k ≡ true = subst (λ b. (b || has ms k) ≡ true) other here in
          let rest : has (those_outside ns ms) k ≡ true = without_kept ns ms k outside behind in
          either (has ns m) (m ∷ those_outside ns ms) (those_outside ns ms) k true (or_right (eqb m k) (has (those_outside ns ms) k) rest) rest
          )
    ]
