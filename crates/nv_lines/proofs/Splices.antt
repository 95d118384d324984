-- Lemmas on rows that are replaced.
use Rattle.std.proofs.Common.{◌≡◌, ℕ, ◌+◌, ◌<◌, ◌≤◌, List, ◌++◌, length, take, drop, arith, length-append, sym, ap, suc, set, [], ◌∷◌, ◌∙◌, All, None}
use Rattle.std.proofs.lemmas.Iterator.{items_from_drains}
use Rattle.std.proofs.lemmas.Iterator.Adapters.{YieldsList-from_vec}
use Rattle.std.proofs.lemmas.List.{map-id, length-drop, length-take, take-append-drop, take-set, drop-set}
use Rattle.std.proofs.lemmas.List.Elements.{All-append, All-take, All-drop}
use Rattle.std.specs.Iterator.{YieldsThen}
use Rattle.std.specs.List.{splice}
use Rattle.std.specs.Vec.Iter.{into_iter_items, into_iter_len, into_iter_steps}
use Rattle.std.specs.declared.vec.IntoIter.{IntoIter}

-- the iterator of a vector gave its elements
pub vec_gave : {A Z : Type 0} (it : IntoIter A Z) (all xs : List A) → into_iter_items it ≡ all → into_iter_len it ≡ length all
    → ((rest : IntoIter A Z) × YieldsThen into_iter_steps it xs None rest) → xs ≡ all
vec_gave it all xs items len h =
    sym (map-id xs) ∙ items_from_drains xs (h.1.0, h.1.1, λ _. (h.0, h.1.2)) (YieldsList-from_vec all items len)

-- a fact of each element that was there and of each new one
pub All-splice : {X : Type 0} (P : X → Type 0) (xs new : List X) (from to : ℕ) → All P xs → All P new → All P (splice xs from to new)
All-splice P xs new from to old added =
    All-append P (take from xs) (new ++ drop to xs) (All-take P from xs old) (All-append P new (drop to xs) added (All-drop P to xs old))

-- a list from which not all is taken without something new keeps an element
pub length-splice_some : {X : Type 0} (xs new : List X) (from to : ℕ) → from ≤ to → to ≤ length xs → to < from + length new + length xs
    → 0 < length (splice xs from to new)
length-splice_some xs new from to order within left =
    omega (arith, length-append (take from xs) (new ++ drop to xs), length-append new (drop to xs), length-take from xs, length-drop to xs)

-- one element in place of another
pub set_is_splice : {X : Type 0} (xs : List X) (x : X) (from to : ℕ) → from < length xs → from + 1 ≡ to
    → set xs from x ≡ splice xs from to (x ∷ [])
set_is_splice xs x from to within next =
    sym (take-append-drop from (set xs from x))
    ∙ ap (λ l. l ++ drop from (set xs from x)) (take-set xs from x)
    ∙ ap (λ l. take from xs ++ l) (drop-set xs from x within)
    ∙ ap (λ n. take from xs ++ x ∷ drop n xs) next

-- nothing in place of one element
pub remove_is_splice : {X : Type 0} (xs new : List X) (from to : ℕ) → from + 1 ≡ to → new ≡ []
    → take from xs ++ drop (suc from) xs ≡ splice xs from to new
remove_is_splice xs new from to next none =
    ap (λ n. take from xs ++ drop n xs) (let is : suc from ≡ to = omega arith in is)
    ∙ ap (λ l. take from xs ++ (l ++ drop to xs)) (sym none)
