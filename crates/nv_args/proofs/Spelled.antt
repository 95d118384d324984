-- Lists of values that are made one by one, and can be spelled.
use Rattle.std.proofs.Common.{◌≡◌, ℕ, suc, ◌+◌, ◌<◌, ◌≤◌, ◌^◌, List, [], ◌∷◌, ◌++◌, length, map, drop, refl, ap, sym, ◌∙◌, append_assoc, arith, add-one, drop-cons, get_or}
use Rattle.std.proofs.lemmas.List.{append-nil, drop_all, length-map}
use Rattle.nv_value.specs.Content.{Tree, count, list, trees_of}
use Rattle.nv_msgpack.specs.Shortest.{HasSpelling, HaveSpellings}

-- how many trees a list has
pub count-trees : (ts : List Tree) → count (trees_of ts) ≡ length ts
count-trees [] = refl
count-trees (t ∷ ts) = ap suc (count-trees ts)

-- one more value
pub spelled-more : (ts : List Tree) (t : Tree) → HaveSpellings (trees_of ts) → HasSpelling t → HaveSpellings (trees_of (ts ++ t ∷ []))
spelled-more [] t all one = (one, tt)
spelled-more (u ∷ us) t all one = (all.0, spelled-more us t all.1 one)

-- what is made of the first of some is with the rest all of them
pub made-more : {A B : Type 0} (f : A → B) (front later : List B) (t : B) (xs : List A) (i : ℕ) (d : A) → i < length xs
    → front ++ map f (drop i xs) ≡ map f xs → later ≡ front ++ t ∷ [] → t ≡ f (get_or xs i d)
    → later ++ map f (drop (i + 1) xs) ≡ map f xs
made-more f front later t xs i d h e more is =
    ap (λ l. l ++ map f (drop (i + 1) xs)) more
    ∙ append_assoc front (t ∷ []) (map f (drop (i + 1) xs))
    ∙ ap (λ u. front ++ u ∷ map f (drop (i + 1) xs)) is
    ∙ ap (λ n. front ++ f (get_or xs i d) ∷ map f (drop n xs)) (add-one i)
    ∙ ap (λ l. front ++ map f l) (sym (drop-cons xs i d h))
    ∙ e

-- at the end nothing is left
pub made-all : {A B : Type 0} (f : A → B) (made : List B) (xs : List A) (i : ℕ) → length xs ≤ i → made ++ map f (drop i xs) ≡ map f xs → made ≡ map f xs
made-all f made xs i h e = sym (append-nil made) ∙ ap (λ l. made ++ map f l) (sym (drop_all i xs h)) ∙ e

-- as many values as things
pub list-spelled : {A : Type 0} (f : A → Tree) (made : List Tree) (xs : List A) → made ≡ map f xs → length xs < 2 ^ 32 → HaveSpellings (trees_of made)
    → HasSpelling (list (trees_of made))
list-spelled f made xs e few each = (omega (arith, count-trees made, ap length e, length-map xs f), each)
