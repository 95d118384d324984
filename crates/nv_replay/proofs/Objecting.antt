-- Who says no first.
use Rattle.std.proofs.Common.{◌≡◌, ◌⊎◌, inl, inr, ◌∙◌, ℕ, zero, suc, ◌+◌, ◌<◌, ◌≤◌, Bool, true, false, List, [], ◌∷◌, ◌++◌, length, slice_get, Option, Some, None, ap, refl, sym, subst, arith, nat_lt}
use Rattle.std.specs.List.{AllByRecursion}
use Rattle.std.proofs.lemmas.Bool.Decides.{nat_tests}
use Rattle.std.proofs.lemmas.List.{length-append}
use Rattle.std.proofs.lemmas.Option.{none-some, same_Some, slice_get_within}
use Rattle.nv_watch.specs.Verdicts.{Rule, Sight, IsVerdict}
use Rattle.nv_watch.specs.declared.verdict.Verdict.{Verdict}
use Rattle.nv_watch.specs.declared.verdict.Verdict.TheVariants.{Yes, No}
use Rattle.nv_replay.specs.Ends.{AllSayYes, IsFirstNo}
use Rattle.nv_replay.specs.inside.Endings.{SaysNoFirst}
use Rattle.nv_replay.specs.inside.Watching.{HaveSaid, sooner}

module _ {X : Type 0} where
  pub get_more : (xs : List X) (x : X) (i : ℕ) (y : X) → slice_get (xs ++ x ∷ []) i ≡ Some y → (slice_get xs i ≡ Some y) ⊎ ((i ≡ length xs) × (x ≡ y))
  get_more [] x zero y e = inr (refl, same_Some x y e)
  get_more [] x (suc i) y e = absurd (none-some y e)
  get_more (z ∷ xs) x zero y e = inl e
  get_more (z ∷ xs) x (suc i) y e = on (get_more xs x i y e)
    where
      on : (slice_get xs i ≡ Some y) ⊎ ((i ≡ length xs) × (x ≡ y)) → (slice_get xs i ≡ Some y) ⊎ ((suc i ≡ suc (length xs)) × (x ≡ y))
      on (inl h) = inl h
      on (inr h) = inr (ap (λ (n : ℕ). suc n) h.0, h.1)

  pub get_left : (xs more : List X) (i : ℕ) (y : X) → slice_get xs i ≡ Some y → slice_get (xs ++ more) i ≡ Some y
  get_left [] more i y e = absurd (none-some y e)
  get_left (z ∷ xs) more zero y e = e
  get_left (z ∷ xs) more (suc i) y e = get_left xs more i y e

  pub get_last : (xs : List X) (x : X) → slice_get (xs ++ x ∷ []) (length xs) ≡ Some x
  get_last [] x = refl
  get_last (z ∷ xs) x = get_last xs x

all_yes_more : (vs : List Verdict) → AllByRecursion (λ v. v ≡ Yes) vs → AllByRecursion (λ v. v ≡ Yes) (vs ++ Yes ∷ [])
all_yes_more [] all = (refl, tt)
all_yes_more (v ∷ vs) all = (all.0, all_yes_more vs all.1)

yes_is_no_no : (n : ℕ) → Yes ≡ No n → ⊥
yes_is_no_no n e = cc

no_of_no : (n m : ℕ) → No n ≡ No m → n ≡ m
no_of_no n m e = cc

-- where all say yes none says no
none_says_no : (vs : List Verdict) (i m : ℕ) → AllByRecursion (λ v. v ≡ Yes) vs → slice_get vs i ≡ Some (No m) → ⊥
none_says_no [] i m all e = none-some (No m) e
none_says_no (v ∷ vs) zero m all e = yes_is_no_no m (sym all.0 ∙ same_Some v (No m) e)
none_says_no (v ∷ vs) (suc i) m all e = none_says_no vs i m all.1 e

-- what is so of each no among verdicts and of a further no is so of each among all
each_no : (P : ℕ → ℕ → Type 0) (vs : List Verdict) (v : Verdict) → ((i m : ℕ) → slice_get vs i ≡ Some (No m) → P i m) → ((m : ℕ) → v ≡ No m → P (length vs) m)
    → (i m : ℕ) → slice_get (vs ++ v ∷ []) i ≡ Some (No m) → P i m
each_no P vs v before last i m e = on (get_more vs v i (No m) e)
  where
    on : (slice_get vs i ≡ Some (No m)) ⊎ ((i ≡ length vs) × (v ≡ No m)) → P i m
    on (inl h) = before i m h
    on (inr h) = subst (λ (j : ℕ). P j m) (sym h.0) (last m h.1)

abbrev Later : ℕ → ℕ → ℕ → ℕ → Type 0
Later place n i m = (n < m) ⊎ ((n ≡ m) × (place ≤ i))

later_still : (place n p k i m : ℕ) → n < k → Later p k i m → Later place n i m
later_still place n p k i m less (inl h) = inl (omega (arith, less, h))
later_still place n p k i m less (inr h) = inl (omega (arith, less, h.0))

at_least : (n m p q : ℕ) → n ≤ m → p ≤ q → Later p n q m
at_least n m p q le behind = on (nat_lt n m) refl
  where
    on : (t : Bool) → nat_lt n m ≡ t → Later p n q m
    on true t = inl (grind (arith, nat_tests))
    on false t = let e : n ≡ m = grind (arith, nat_tests) in inr (e, behind)

-- one more verdict
pub says_more : (vs : List Verdict) (told : Option (ℕ × ℕ)) (v : Verdict) → SaysNoFirst (length vs) vs told → SaysNoFirst (length vs + 1) (vs ++ v ∷ []) (sooner told (length vs) v)
says_more vs None Yes h = (length-append vs (Yes ∷ []), all_yes_more vs h.1)
says_more vs None (No n) h = record {
  all = length-append vs (No n ∷ []);
  there = get_last vs (No n);
  first = each_no (Later (length vs) n) vs (No n) (λ i m e. absurd (none_says_no vs i m h.1 e)) (λ m e. at_least n m (length vs) (length vs) (let s = no_of_no n m e in omega (arith, s)) (omega arith));
}
says_more vs (Some told) Yes h = record {
  all = length-append vs (Yes ∷ []);
  there = get_left vs (Yes ∷ []) told.0 (No told.1) h.there;
  first = each_no (Later told.0 told.1) vs Yes h.first (λ m e. absurd (yes_is_no_no m e));
}
says_more vs (Some told) (No n) h = on (nat_lt n told.1) refl
  where
    on : (t : Bool) → nat_lt n told.1 ≡ t → SaysNoFirst (length vs + 1) (vs ++ No n ∷ []) (Rattle.std.specs.Prelude.cond t (Some (length vs, n)) (Some told))
    on true t =
        let less : n < told.1 = grind (arith, nat_tests) in
        record {
          all = length-append vs (No n ∷ []);
          there = get_last vs (No n);
          first = each_no (Later (length vs) n) vs (No n) (λ i m e. later_still (length vs) n told.0 told.1 i m less (h.first i m e))
              (λ m e. at_least n m (length vs) (length vs) (let s = no_of_no n m e in omega (arith, s)) (omega arith));
        }
    on false t =
        let le : told.1 ≤ n = grind (arith, nat_tests) in
        let within : told.0 < length vs = slice_get_within vs told.0 (No told.1) h.there in
        record {
          all = length-append vs (No n ∷ []);
          there = get_left vs (No n ∷ []) told.0 (No told.1) h.there;
          first = each_no (Later told.0 told.1) vs (No n) h.first
              (λ m e. at_least told.1 m told.0 (length vs) (let s = no_of_no n m e in omega (arith, s, le)) (omega (arith, within)));
        }

pub says_at : (vs : List Verdict) (told : Option (ℕ × ℕ)) (v : Verdict) (place : ℕ) → length vs ≡ place → SaysNoFirst place vs told
    → SaysNoFirst (place + 1) (vs ++ v ∷ []) (sooner told place v)
says_at vs told v place many = subst (λ (p : ℕ). SaysNoFirst p vs told → SaysNoFirst (p + 1) (vs ++ v ∷ []) (sooner told p v)) many (says_more vs told v)

module _ {B : Type 0} (HasSeen : B → List Sight → Type 0) (Breaks : B → Rule) where
  pub none_said : (ws : List B) → HaveSaid ws [] HasSeen Breaks
  none_said ws = record { said = λ i w v seen there e. absurd (none-some v e) }

  -- one more has said its verdict
  pub said_more : (ws : List B) (vs : List Verdict) (w : B) (v : Verdict) → HaveSaid ws vs HasSeen Breaks → slice_get ws (length vs) ≡ Some w
      → ((seen : List Sight) → HasSeen w seen → IsVerdict (Breaks w) seen v) → HaveSaid ws (vs ++ v ∷ []) HasSeen Breaks
  said_more ws vs w v before there says = record { said = λ i b u seen at e h. on i b u seen at (get_more vs v i u e) h }
    where
      on : (i : ℕ) (b : B) (u : Verdict) (seen : List Sight) → slice_get ws i ≡ Some b → (slice_get vs i ≡ Some u) ⊎ ((i ≡ length vs) × (v ≡ u))
          → HasSeen b seen → IsVerdict (Breaks b) seen u
      on i b u seen at (inl e) h = before.said i b u seen at e h
      on i b u seen at (inr e) h =
          let same : w ≡ b = same_Some w b (sym there ∙ ap (λ (j : ℕ). slice_get ws j) (sym e.0) ∙ at) in
          subst (λ (x : Verdict). IsVerdict (Breaks b) seen x) e.1
          (subst (λ (x : B). HasSeen x seen → IsVerdict (Breaks x) seen v) same (says seen) h)
