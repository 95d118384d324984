-- Lanes that go back, one after another.
use Rattle.std.proofs.Common.{◌≡◌, ℕ, ◌+◌, ◌≤◌, List, [], ◌∷◌, ◌++◌, length, Option, Some, None, refl, sym, ap, ◌∙◌, arith, append_assoc, append-nil}
use Rattle.std.specs.Prelude.{option_map}
use Rattle.nv_io.specs.Known.{append_items, IsOut}
use Rattle.nv_run.specs.inside.Lanes.{AreOut}

-- where so many are out, one is
pub out_is : (known : Option ℕ) (n m : ℕ) → n ≡ m + 1 → AreOut known n → IsOut known
out_is None n m e h = h
out_is (Some k) n m e h = omega (arith, h, e)

-- and where one of them goes back, one less is out
pub out_still : (old new : Option ℕ) (n m : ℕ) → n ≡ m + 1 → old ≡ option_map (λ k. k + 1) new → AreOut old n → AreOut new m
out_still None None n m e f h = h
out_still (Some a) None n m e f h = cc
out_still None (Some b) n m e f h = cc
out_still (Some a) (Some b) n m e f h =
    let same : a ≡ b + 1 = cc in
    omega (arith, h, e, same)

pub lent_none : (known : Option ℕ) → known ≡ option_map (λ k. k + 0) known
lent_none None = refl
lent_none (Some k) = ap (λ (n : ℕ). Some n) (omega arith)

pub lent_still : (first old new : Option ℕ) (n : ℕ) → first ≡ option_map (λ k. k + n) old → old ≡ option_map (λ k. k + 1) new → first ≡ option_map (λ k. k + (n + 1)) new
lent_still first old None n f g = f ∙ ap (option_map (λ (k : ℕ). k + n)) g
lent_still first old (Some b) n f g =
    f ∙ ap (option_map (λ (k : ℕ). k + n)) g ∙ ap (λ (k : ℕ). Some k) (omega arith)

module _ {A : Type 0} where
  -- one of those that are to go back went
  pub back_still : (old new first : Option (List A)) (x : A) (xs ys zs : List A) → xs ≡ x ∷ ys → new ≡ append_items old (x ∷ []) → append_items old xs ≡ append_items first zs → append_items new ys ≡ append_items first zs
  back_still None new first x xs ys zs e f g = ap (λ (o : Option (List A)). append_items o ys) f ∙ g
  back_still (Some old) new first x xs ys zs e f g =
      ap (λ (o : Option (List A)). append_items o ys) f ∙ ap (λ (l : List A). Some l) (append_assoc old (x ∷ []) ys ∙ ap (λ (l : List A). old ++ l) (sym e)) ∙ g

  -- none is to go back
  pub back_all : (known : Option (List A)) (xs : List A) → xs ≡ [] → append_items known xs ≡ known
  back_all None xs e = refl
  back_all (Some l) xs e = ap (λ (r : List A). Some r) (ap (λ (r : List A). l ++ r) e ∙ append-nil l)

  pub none_left : (xs : List A) → length xs ≡ 0 → xs ≡ []
  none_left [] e = refl
  none_left (x ∷ xs) e = absurd (omega (arith, e))
