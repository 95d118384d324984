-- The handles of buffers as values.
use Rattle.std.proofs.Common.{◌≡◌, ℕ, suc, ℤ, List, [], ◌∷◌, ◌++◌, map, length, ap, sym, ◌∙◌, refl, append_assoc}
use Rattle.nv_value.specs.Content.{Tree}
use Rattle.nv_model.specs.Editors.{handles_of}

-- one more value, of the first handle that is left
pub one_more : (f : ℤ → Tree) (values new all : List Tree) (rest later : List ℤ) (k : ℤ) (value : Tree)
    → rest ≡ k ∷ later → value ≡ f k → new ≡ values ++ value ∷ [] → values ++ map f rest ≡ all → new ++ map f later ≡ all
one_more f values new all rest later k value left made grown before =
    ap (λ (front : List Tree). front ++ map f later) (grown ∙ ap (λ (t : Tree). values ++ t ∷ []) made)
    ∙ append_assoc values (f k ∷ []) (map f later)
    ∙ ap (λ (ks : List ℤ). values ++ map f ks) (sym left)
    ∙ before

mapped_length : {A B : Type 0} (f : A → B) (xs : List A) → length (map f xs) ≡ length xs
mapped_length f [] = refl
mapped_length f (x ∷ xs) = ap (λ (n : ℕ). suc n) (mapped_length f xs)

-- as many values as buffers
pub as_many : {A B C : Type 0} (f : A → C) (g : ℤ → C) (xs : List A) (es : List (ℤ × B)) → map f xs ≡ map g (handles_of es) → length xs ≡ length es
as_many f g xs es same =
    sym (mapped_length f xs) ∙ ap length same ∙ mapped_length g (handles_of es) ∙ mapped_length (λ e. e.0) es
