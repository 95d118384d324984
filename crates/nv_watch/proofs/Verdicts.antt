-- A verdict grows with what is seen.
use Rattle.std.proofs.Common.{◌≡◌, refl, ap, sym, ◌∙◌, ◌⊎◌, inl, inr, ℕ, ◌≤◌, Bool, true, false, List, [], ◌∷◌, ◌++◌, append_assoc, subst, arith, nat_le}
use Rattle.std.specs.Prelude.{min}
use Rattle.nv_watch.specs.Verdicts.{Sight, Rule, IsBrokenAt, IsVerdict, verdict_with}
use Rattle.nv_watch.specs.declared.verdict.Verdict.{Verdict}
use Rattle.nv_watch.specs.declared.verdict.Verdict.TheVariants.{Yes, No}

-- a list with one more behind it, cut somewhere: before the end, or at it
pub record CutBefore (front before : List Sight) (here : Sight) : Type 0 where
  pub less : List Sight
  pub whole : front ≡ before ++ here ∷ less

cut_cases : (front before behind : List Sight) (x here : Sight) → front ++ x ∷ [] ≡ before ++ here ∷ behind
    → CutBefore front before here ⊎ ((before ≡ front) × (here ≡ x))
cut_cases [] [] behind x here e = let h : here ≡ x = cc in inr (refl, h)
cut_cases [] (b ∷ []) behind x here e = absurd cc
cut_cases [] (b ∷ c ∷ before) behind x here e = absurd cc
cut_cases (f ∷ front) [] behind x here e = let h : f ≡ here = cc in inl (record { less = front; whole = ap (λ (y : Sight). y ∷ front) h })
cut_cases (f ∷ front) (b ∷ before) behind x here e = step (cut_cases front before behind x here (let t : front ++ x ∷ [] ≡ before ++ here ∷ behind = cc in t)) (let h : f ≡ b = cc in h)
  where
    step : CutBefore front before here ⊎ ((before ≡ front) × (here ≡ x)) → f ≡ b
        → CutBefore (f ∷ front) (b ∷ before) here ⊎ ((b ∷ before ≡ f ∷ front) × (here ≡ x))
    step (inl c) h = inl (record { less = c.less; whole = ap (λ (y : Sight). y ∷ front) h ∙ ap (λ (t : List Sight). b ∷ t) c.whole })
    step (inr c) h = inr (ap (λ (y : Sight). y ∷ before) (sym h) ∙ ap (λ (t : List Sight). f ∷ t) c.0, c.1)

-- what was broken is broken in more
broken_longer : (breaks : Rule) (seen : List Sight) (x : Sight) (n : ℕ) → IsBrokenAt breaks seen n → IsBrokenAt breaks (seen ++ x ∷ []) n
broken_longer breaks seen x n b = record {
  before = b.before;
  here = b.here;
  behind = b.behind ++ x ∷ [];
  whole = ap (λ (t : List Sight). t ++ x ∷ []) b.whole ∙ append_assoc b.before (b.here ∷ b.behind) (x ∷ []);
  breaks_here = b.breaks_here;
  number = b.number;
}

broken_here : (breaks : Rule) (seen : List Sight) (x : Sight) → breaks seen x → IsBrokenAt breaks (seen ++ x ∷ []) x.step.at
broken_here breaks seen x h = record {
  before = seen;
  here = x;
  behind = [];
  whole = refl;
  breaks_here = h;
  number = refl;
}

broken_cases : (breaks : Rule) (seen : List Sight) (x : Sight) (n : ℕ) → IsBrokenAt breaks (seen ++ x ∷ []) n
    → IsBrokenAt breaks seen n ⊎ (breaks seen x × (x.step.at ≡ n))
broken_cases breaks seen x n b = step (cut_cases seen b.before b.behind x b.here b.whole)
  where
    step : CutBefore seen b.before b.here ⊎ ((b.before ≡ seen) × (b.here ≡ x)) → IsBrokenAt breaks seen n ⊎ (breaks seen x × (x.step.at ≡ n))
    step (inl c) = inl (record { before = b.before; here = b.here; behind = c.less; whole = c.whole; breaks_here = b.breaks_here; number = b.number })
    step (inr c) =
        inr (subst (λ (y : Sight). breaks seen y) c.1 (subst (λ (t : List Sight). breaks t b.here) c.0 b.breaks_here), ap (λ (y : Sight). y.step.at) (sym c.1) ∙ b.number)

min_cases : (a b : ℕ) → (min a b ≡ a) ⊎ (min a b ≡ b)
min_cases a b = by_order (nat_le a b) refl
  where
    by_order : (t : Bool) → nat_le a b ≡ t → (min a b ≡ a) ⊎ (min a b ≡ b)
    by_order true e = inl (grind (arith, e))
    by_order false e = inr (grind (arith, e))

-- a verdict once one more was seen, and it is known whether it breaks the rule
pub verdict_grows : (breaks : Rule) (seen : List Sight) (x : Sight) (v : Verdict) (broken : Bool)
    → (broken ≡ true → breaks seen x) → (broken ≡ false → breaks seen x → ⊥)
    → IsVerdict breaks seen v → IsVerdict breaks (seen ++ x ∷ []) (verdict_with v x.step.at broken)
verdict_grows breaks seen x Yes false broke kept known = λ n b. step n (broken_cases breaks seen x n b)
  where
    step : (n : ℕ) → IsBrokenAt breaks seen n ⊎ (breaks seen x × (x.step.at ≡ n)) → ⊥
    step n (inl b) = known n b
    step n (inr h) = kept refl h.0
verdict_grows breaks seen x Yes true broke kept known = (broken_here breaks seen x (broke refl), λ n b. step n (broken_cases breaks seen x n b))
  where
    step : (n : ℕ) → IsBrokenAt breaks seen n ⊎ (breaks seen x × (x.step.at ≡ n)) → x.step.at ≤ n
    step n (inl b) = absurd (known n b)
    step n (inr h) = omega (arith, h.1)
verdict_grows breaks seen x (No m) false broke kept known = (broken_longer breaks seen x m known.0, λ n b. step n (broken_cases breaks seen x n b))
  where
    step : (n : ℕ) → IsBrokenAt breaks seen n ⊎ (breaks seen x × (x.step.at ≡ n)) → m ≤ n
    step n (inl b) = known.1 n b
    step n (inr h) = absurd (kept refl h.0)
verdict_grows breaks seen x (No m) true broke kept known = (least (min_cases m x.step.at), λ n b. step n (broken_cases breaks seen x n b))
  where
    least : (min m x.step.at ≡ m) ⊎ (min m x.step.at ≡ x.step.at) → IsBrokenAt breaks (seen ++ x ∷ []) (min m x.step.at)
    least (inl e) = subst (λ (k : ℕ). IsBrokenAt breaks (seen ++ x ∷ []) k) (sym e) (broken_longer breaks seen x m known.0)
    least (inr e) = subst (λ (k : ℕ). IsBrokenAt breaks (seen ++ x ∷ []) k) (sym e) (broken_here breaks seen x (broke refl))

    step : (n : ℕ) → IsBrokenAt breaks seen n ⊎ (breaks seen x × (x.step.at ≡ n)) → min m x.step.at ≤ n
    step n (inl b) = omega (arith, known.1 n b)
    step n (inr h) = omega (arith, h.1)

-- nothing was seen, and nothing is broken
pub none_broken : (breaks : Rule) (n : ℕ) → IsBrokenAt breaks [] n → ⊥
none_broken breaks n b = by_front b.before b.whole
  where
    by_front : (before : List Sight) → [] ≡ before ++ b.here ∷ b.behind → ⊥
    by_front [] e = cc
    by_front (x ∷ before) e = cc
