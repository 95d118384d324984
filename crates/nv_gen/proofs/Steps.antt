-- One draw of several.
use Rattle.std.proofs.Common.{◌≡◌, refl, ap, sym, ◌∙◌, ℕ, suc, ◌+◌, ◌-◌, ◌<◌, List, [], ◌∷◌, ◌++◌, map, append_assoc, arith}
use Rattle.nv_value.specs.Content.{text, trees_of, one}
use Rattle.nv_args.specs.Texts.{strings}
use Rattle.nv_gen.specs.Draws.{Draws, several}

-- what is left of several draws is one and what is left then
pub several_left : {A : Type 0} (d : Draws A) (n i x : ℕ) → i < n
    → several (n - i) d x ≡ several (suc (n - (i + 1))) d x
several_left d n i x below =
    let e : n - i ≡ suc (n - (i + 1)) = omega (arith, below) in ap (λ (m : ℕ). several m d x) e

-- what is made of the draws so far and of those to come, with one more drawn
pub more_drawn : {A B : Type 0} (d : Draws A) (f : A → B) (more : List A → List B) (front later : List B) (n i x y : ℕ) (all : List B)
    → ((a : A) (others : List A) → more (a ∷ others) ≡ f a ∷ more others) → i < n
    → later ≡ front ++ f (d x).0 ∷ [] → y ≡ (d x).1
    → front ++ more (several (n - i) d x).0 ≡ all
    → later ++ more (several (n - (i + 1)) d y).0 ≡ all
more_drawn d f more front later n i x y all step below l_is y_is before =
    rw (l_is, y_is) (append_assoc front (f (d x).0 ∷ []) (more (several (n - (i + 1)) d (d x).1).0)
    ∙ ap (λ t. front ++ t) (sym (step (d x).0 (several (n - (i + 1)) d (d x).1).0))
    ∙ ap (λ t. front ++ more t.0) (sym (several_left d n i x below)) ∙ before)

-- the number after all draws stays the same
pub still_later : {A : Type 0} (d : Draws A) (n i x y all : ℕ) → i < n → y ≡ (d x).1
    → (several (n - i) d x).1 ≡ all → (several (n - (i + 1)) d y).1 ≡ all
still_later d n i x y all below y_is before =
    rw y_is (ap (λ t. t.1) (sym (several_left d n i x below)) ∙ before)

-- strings as values
pub strings_are : (lines : List (List ℕ)) → strings lines ≡ trees_of (map text lines)
strings_are [] = refl
strings_are (line ∷ lines) = ap (one (text line)) (strings_are lines)
