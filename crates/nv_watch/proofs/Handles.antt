-- Buffers one after another, by their handles.
use Rattle.std.proofs.Common.{◌≡◌, ap, sym, ◌∙◌, ℕ, zero, suc, ◌<◌, ℤ, List, [], ◌∷◌, ◌++◌, flat_map, map, drop, length, get_or, append_assoc, arith}

-- what is left from a place on begins with the one at the place
pub rest_here : {X : Type 0} (xs : List X) (i : ℕ) (x : X) → i < length xs → x ≡ get_or xs i x → drop i xs ≡ x ∷ drop (suc i) xs
rest_here [] i x below is = absurd (omega (arith, below))
rest_here (y ∷ ys) zero x below is = ap (λ (z : _). z ∷ ys) (sym is)
rest_here (y ∷ ys) (suc i) x below is = rest_here ys i x (omega (arith, below)) is

-- what stands under one more handle
pub one_more : {X : Type 0} (f : ℤ → List X) (done new all : List X) (rest later : List ℤ) (k : ℤ)
    → rest ≡ k ∷ later → new ≡ done ++ f k → done ++ flat_map f rest ≡ all → new ++ flat_map f later ≡ all
one_more {X = X} f done new all rest later k left more before =
    ap (λ (front : List X). front ++ flat_map f later) more
    ∙ append_assoc done (f k) (flat_map f later)
    ∙ ap (λ (l : List ℤ). done ++ flat_map f l) (sym left)
    ∙ before

-- what is made of one more item
pub one_more_made : {X Y : Type 0} (f : X → Y) (done new all : List Y) (items rest : List X) (x : X) (y : Y)
    → items ≡ x ∷ rest → y ≡ f x → new ≡ done ++ y ∷ [] → done ++ map f items ≡ all → new ++ map f rest ≡ all
one_more_made {X = X} {Y = Y} f done new all items rest x y parts made more before =
    ap (λ (front : List Y). front ++ map f rest) more
    ∙ append_assoc done (y ∷ []) (map f rest)
    ∙ ap (λ (z : Y). done ++ z ∷ map f rest) made
    ∙ ap (λ (l : List X). done ++ map f l) (sym parts)
    ∙ before
