-- Lemmas on what stands under a handle.
use Rattle.std.proofs.Common.{◌≡◌, ℤ, List, [], ◌∷◌, ◌++◌, refl, ap, ◌∙◌, arith, Bool, true, false, not, cond, Option, Some, None}
use Rattle.std.specs.Prelude.{option_map, filter}
use Rattle.std.specs.Option.{option_or}
use Rattle.std.specs.Ordering.{int_eq}
use Rattle.std.proofs.lemmas.Int.{ints}
use Rattle.nv_model.specs.Editors.{at_handle, updated_at, handles_of}

pub same_int : (a b : ℤ) → int_eq a b ≡ true → a ≡ b
same_int a b is = grind (arith, ints)

pub int_eq-itself : (a : ℤ) → int_eq a a ≡ true
int_eq-itself a = grind (arith, ints)

pub int_eq-flip : (a b : ℤ) → int_eq a b ≡ int_eq b a
int_eq-flip a b = grind (arith, ints)

module _ {A : Type 0} where
  -- after an update of what stands under a handle
  pub at_updated : (n k : ℤ) (f : A → A) (es : List (ℤ × A))
      → at_handle (updated_at n f es) k ≡ cond (int_eq n k) (option_map f (at_handle es k)) (at_handle es k)
  at_updated n k f [] = either_none (int_eq n k)
    where
      either_none : (b : Bool) → None ≡ cond b (option_map f None) None
      either_none true = refl
      either_none false = refl
  at_updated n k f (e ∷ es) = step (at_updated n k f es) (int_eq e.0 n) refl (int_eq e.0 k) refl
    where
      step : at_handle (updated_at n f es) k ≡ cond (int_eq n k) (option_map f (at_handle es k)) (at_handle es k)
          → (b : Bool) → int_eq e.0 n ≡ b → (c : Bool) → int_eq e.0 k ≡ c
          → at_handle (cond b (e.0, f e.1) e ∷ updated_at n f es) k
          ≡ cond (int_eq n k) (option_map f (cond c (Some e.1) (at_handle es k))) (cond c (Some e.1) (at_handle es k))
      step rest true is true there = let same : int_eq n k ≡ true = grind (arith, ints) in rw (there, same) refl
      step rest true is false there = rw there rest
      step rest false is true there = let apart : int_eq n k ≡ false = grind (arith, ints) in rw (there, apart) refl
      step rest false is false there = rw there rest

  pub handles-updated : (n : ℤ) (f : A → A) (es : List (ℤ × A)) → handles_of (updated_at n f es) ≡ handles_of es
  handles-updated n f [] = refl
  handles-updated n f (e ∷ es) = step (handles-updated n f es) (int_eq e.0 n)
    where
      step : handles_of (updated_at n f es) ≡ handles_of es → (b : Bool)
          → handles_of (cond b (e.0, f e.1) e ∷ updated_at n f es) ≡ e.0 ∷ handles_of es
      step rest true = ap (λ (l : List ℤ). e.0 ∷ l) rest
      step rest false = ap (λ (l : List ℤ). e.0 ∷ l) rest

  -- behind other entries
  pub at_append : (k : ℤ) (es fs : List (ℤ × A)) → at_handle (es ++ fs) k ≡ option_or (at_handle es k) (at_handle fs k)
  at_append k [] fs = refl
  at_append k (e ∷ es) fs = step (at_append k es fs) (int_eq e.0 k)
    where
      step : at_handle (es ++ fs) k ≡ option_or (at_handle es k) (at_handle fs k) → (b : Bool)
          → cond b (Some e.1) (at_handle (es ++ fs) k) ≡ option_or (cond b (Some e.1) (at_handle es k)) (at_handle fs k)
      step rest true = refl
      step rest false = rest

  pub handles-append : (es fs : List (ℤ × A)) → handles_of (es ++ fs) ≡ handles_of es ++ handles_of fs
  handles-append [] fs = refl
  handles-append (e ∷ es) fs = ap (λ (l : List ℤ). e.0 ∷ l) (handles-append es fs)

  -- without what stands under a handle
  pub at_dropped : (n k : ℤ) (es : List (ℤ × A))
      → at_handle (filter (λ (e : ℤ × A). not (int_eq e.0 n)) es) k ≡ cond (int_eq n k) None (at_handle es k)
  at_dropped n k [] = either_none (int_eq n k)
    where
      either_none : (b : Bool) → ◌≡◌ {A = Option A} None (cond b None None)
      either_none true = refl
      either_none false = refl
  at_dropped n k (e ∷ es) = step (at_dropped n k es) (int_eq e.0 n) refl (int_eq e.0 k) refl
    where
      step : at_handle (filter (λ (d : ℤ × A). not (int_eq d.0 n)) es) k ≡ cond (int_eq n k) None (at_handle es k)
          → (b : Bool) → int_eq e.0 n ≡ b → (c : Bool) → int_eq e.0 k ≡ c
          → at_handle (cond (not b) (e ∷ filter (λ (d : ℤ × A). not (int_eq d.0 n)) es) (filter (λ (d : ℤ × A). not (int_eq d.0 n)) es)) k
          ≡ cond (int_eq n k) None (cond c (Some e.1) (at_handle es k))
      step rest true is true there = let same : int_eq n k ≡ true = grind (arith, ints) in rest ∙ rw same refl
      step rest true is false there = rest
      step rest false is true there = let apart : int_eq n k ≡ false = grind (arith, ints) in rw (there, apart) refl
      step rest false is false there = rw there rest
