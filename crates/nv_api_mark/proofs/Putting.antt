-- Values put behind others.
use Rattle.std.proofs.Common.{◌≡◌, ◌∙◌, List, [], ◌∷◌, ◌++◌, map, ap, append_assoc}
use Rattle.std.proofs.lemmas.List.{map-append}

-- one more at the end, before the rest
pub one-more : {A B : Type 0} (f : A → B) (old new : List A) (x : A) (y : B) (rest : List B) → new ≡ old ++ x ∷ [] → f x ≡ y → map f new ++ rest ≡ map f old ++ y ∷ rest
one-more f old new x y rest e is =
    ap (λ l. map f l ++ rest) e
    ∙ ap (λ l. l ++ rest) (map-append f old (x ∷ []))
    ∙ append_assoc (map f old) (f x ∷ []) rest
    ∙ ap (λ z. map f old ++ z ∷ rest) is
