-- The passes that a turn begins with, in order.
use Rattle.std.proofs.Common.{◌≡◌, ℕ, zero, suc, ◌+◌, ◌-◌, List, [], ◌∷◌, ◌++◌, map, refl, ap, sym, subst, ◌∙◌, arith, Option, add-one}
use Rattle.std.specs.List.{range_with_len}
use Rattle.nv_turn.specs.declared.view.View.{View}
use Rattle.nv_turn.specs.Passes.{TurnId, PassState, first_pass, first_passes}
use Rattle.nv_turn.specs.inside.Rule.{note, numbers_of, first_seen, numbers_carried}
use Rattle.nv_turn.specs.inside.Seats.{pass_of}

range_more : (a n : ℕ) → range_with_len a (suc n) ≡ range_with_len a n ++ (a + n) ∷ []
range_more a zero = ap (λ k. k ∷ []) (omega arith)
range_more a (suc n) =
    let one : a + 1 + n ≡ a + suc n = omega arith in
    ap (λ z. a ∷ z) (range_more (a + 1) n ∙ ap (λ k. range_with_len (a + 1) n ++ k ∷ []) one)

map_more : {A B : Type 0} (f : A → B) (xs : List A) (x : A) → map f (xs ++ x ∷ []) ≡ map f xs ++ f x ∷ []
map_more f [] x = refl
map_more f (y ∷ ys) x = ap (λ z. f y ∷ z) (map_more f ys x)

pub map_range_more : {A : Type 0} (f : ℕ → A) (a n k : ℕ) → a + n ≡ k → map f (range_with_len a (n + 1)) ≡ map f (range_with_len a n) ++ f k ∷ []
map_range_more f a n k e =
    let more : range_with_len a (n + 1) ≡ range_with_len a n ++ k ∷ [] = ap (range_with_len a) (add-one n) ∙ (range_more a n ∙ ap (λ j. range_with_len a n ++ j ∷ []) e) in
    ap (map f) more ∙ map_more f (range_with_len a n) k

module _ {E D : Type 0} (turn : TurnId) (start : Option D) where
  pub dealt_none : first_passes {E = E} turn start 0 ≡ []
  unfolding first_passes
  dealt_none = refl

  pub dealt_more : (n : ℕ) → first_passes {E = E} turn start (n + 1) ≡ first_passes turn start n ++ first_pass turn start (n + 1) ∷ []
  unfolding first_passes
  dealt_more n = map_range_more (first_pass turn start) 1 n (n + 1) (omega arith)

  pub dealt_at : (k n : ℕ) → k + 1 ≡ n → first_passes {E = E} turn start n ≡ first_passes turn start k ++ first_pass turn start n ∷ []
  dealt_at k n e = subst (λ m. first_passes {E = E} turn start m ≡ first_passes turn start k ++ first_pass turn start m ∷ []) e (dealt_more k)

  -- one more pass
  pub dealt_push : (xs ys : List (PassState E D)) (p : PassState E D) (k n : ℕ) → ys ≡ xs ++ p ∷ [] → xs ≡ first_passes turn start k → p ≡ first_pass turn start n → k + 1 ≡ n → ys ≡ first_passes turn start n
  dealt_push xs ys p k n ys_is xs_is p_is e = ys_is ∙ (ap (λ z. z ++ p ∷ []) xs_is ∙ (ap (λ z. first_passes turn start k ++ z ∷ []) p_is ∙ sym (dealt_at k n e)))

  -- a pass that has just drawn its number
  pub fresh_pass : (z : TurnId) (number n : ℕ) (v : View E D) → z ≡ turn → v.notes ≡ note [] (n ∷ []) ∷ [] → v.start ≡ start → n ≡ number → pass_of z number v ≡ first_pass turn start number
  fresh_pass z number n v z_is notes start_is n_is =
      let numbers : numbers_carried v ≡ number ∷ [] = ap numbers_of notes ∙ ap (λ (k : ℕ). k ∷ []) n_is in
      let seen : first_seen v.notes ≡ [] = ap first_seen notes in
      λ i. record { turn = z_is i; number = number; numbers = numbers i; seen = seen i; start = start_is i }

-- two lists that end in one element each
pub ends_same : {A : Type 0} (xs ys : List A) (x y : A) → xs ++ x ∷ [] ≡ ys ++ y ∷ [] → (xs ≡ ys) × (x ≡ y)
ends_same [] [] x y e = (refl, cc (e))
ends_same [] (b ∷ []) x y e = absurd (cc (e))
ends_same [] (b ∷ d ∷ ys) x y e = absurd (cc (e))
ends_same (a ∷ []) [] x y e = absurd (cc (e))
ends_same (a ∷ d ∷ xs) [] x y e = absurd (cc (e))
ends_same (a ∷ xs) (b ∷ ys) x y e = let rest = ends_same xs ys x y (cc (e)) in let one = rest.0 in (cc (e, one), rest.1)

some_end : {A : Type 0} (xs : List A) (x : A) → xs ++ x ∷ [] ≡ [] → ⊥
some_end [] x e = cc (e)
some_end (y ∷ xs) x e = cc (e)

-- the last of such passes, and those before it
pub dealt_last : {E D : Type 0} (turn : TurnId) (start : Option D) (n : ℕ) (all rest : List (PassState E D)) (p : PassState E D)
    → all ≡ first_passes turn start n → all ≡ rest ++ p ∷ [] → (p ≡ first_pass turn start n) × (rest ≡ first_passes turn start (n - 1))
dealt_last turn start zero all rest p is ends = absurd (some_end rest p (sym ends ∙ (is ∙ dealt_none turn start)))
dealt_last turn start (suc n) all rest p is ends =
    let same = ends_same rest (first_passes turn start n) p (first_pass turn start (suc n)) (sym ends ∙ (is ∙ dealt_at turn start n (suc n) (omega arith))) in
    let less : n ≡ suc n - 1 = omega arith in
    (same.1, same.0 ∙ ap (first_passes turn start) less)
