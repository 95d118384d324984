-- Lists with the same elements stay so when each element gives way to a list, or some elements go.
use Rattle.std.proofs.Common.{◌≡◌, ◌<◌, List, [], ◌∷◌, ◌++◌, ℕ, zero, suc, refl, ap, sym, ◌∙◌, append_assoc, length, take, drop, get_or, set, arith, Bool, true, false, cond, subst}
use Rattle.std.specs.Prelude.{IsPermutation, filter}
use Rattle.std.specs.List.{flat_map, swap}
use Rattle.std.proofs.lemmas.List.{set_split}
use Rattle.std.proofs.lemmas.List.Concat.{flat_map-append}
use Rattle.std.proofs.lemmas.List.Sorted.{IsPermutation-refl, IsPermutation-trans, IsPermutation-keeps, IsPermutation-append_left, IsPermutation-append_right, IsPermutation-append_comm}

-- two parts of a list change places
swap_blocks : {Y : Type 0} (u v a b : List Y) → IsPermutation (v ++ (a ++ (u ++ b))) (u ++ (a ++ (v ++ b)))
swap_blocks u v a b =
    let left : ((v ++ a) ++ u) ++ b ≡ v ++ (a ++ (u ++ b)) = append_assoc (v ++ a) u b ∙ append_assoc v a (u ++ b) in
    let right : (u ++ (a ++ v)) ++ b ≡ u ++ (a ++ (v ++ b)) = append_assoc u (a ++ v) b ∙ ap (λ l. u ++ l) (append_assoc a v b) in
    subst (λ l. IsPermutation l (u ++ (a ++ (v ++ b)))) left
    (subst (λ l. IsPermutation (((v ++ a) ++ u) ++ b) l) right
    (IsPermutation-append_left b ((v ++ a) ++ u) (u ++ (a ++ v))
    (IsPermutation-trans ((v ++ a) ++ u) (u ++ (v ++ a)) (u ++ (a ++ v)) (IsPermutation-append_comm (v ++ a) u)
    (IsPermutation-append_right u (v ++ a) (a ++ v) (IsPermutation-append_comm v a)))))

module _ {X Y : Type 0} (g : X → List Y) where
  flat_set : (l : List X) (i : ℕ) (x : X) → i < length l
      → flat_map g (set l i x) ≡ flat_map g (take i l) ++ (g x ++ flat_map g (drop (suc i) l))
  flat_set l i x within = ap (flat_map g) (set_split l i x within) ∙ flat_map-append g (take i l) (x ∷ drop (suc i) l)

  flat_at : (l : List X) (i : ℕ) (d : X) → i < length l
      → flat_map g l ≡ flat_map g (take i l) ++ (g (get_or l i d) ++ flat_map g (drop (suc i) l))
  flat_at [] i d within = absurd (omega arith)
  flat_at (x ∷ l) zero d within = refl
  flat_at (x ∷ l) (suc i) d within =
      ap (λ r. g x ++ r) (flat_at l i d (omega arith))
      ∙ sym (append_assoc (g x) (flat_map g (take i l)) (g (get_or l i d) ++ flat_map g (drop (suc i) l)))

  with_first : (x : X) (l : List X) (i : ℕ) (d : X) → i < length l
      → IsPermutation (flat_map g (x ∷ l)) (flat_map g (get_or l i d ∷ set l i x))
  with_first x l i d within =
      subst (λ r. IsPermutation (g x ++ r) (g (get_or l i d) ++ flat_map g (set l i x))) (sym (flat_at l i d within))
      (subst (λ r. IsPermutation (g x ++ (flat_map g (take i l) ++ (g (get_or l i d) ++ flat_map g (drop (suc i) l)))) (g (get_or l i d) ++ r))
      (sym (flat_set l i x within))
      (swap_blocks (g (get_or l i d)) (g x) (flat_map g (take i l)) (flat_map g (drop (suc i) l))))

  flat_swap : (l : List X) (i j : ℕ) (d : X) → i < length l → j < length l
      → IsPermutation (flat_map g l) (flat_map g (set (set l i (get_or l j d)) j (get_or l i d)))
  flat_swap [] i j d first second = absurd (omega arith)
  flat_swap (x ∷ l) zero zero d first second = IsPermutation-refl (flat_map g (x ∷ l))
  flat_swap (x ∷ l) zero (suc j) d first second = with_first x l j d (omega arith)
  flat_swap (x ∷ l) (suc i) zero d first second = with_first x l i d (omega arith)
  flat_swap (x ∷ l) (suc i) (suc j) d first second =
      IsPermutation-append_right (g x) (flat_map g l) (flat_map g (set (set l i (get_or l j d)) j (get_or l i d)))
      (flat_swap l i j d (omega arith) (omega arith))

  pub IsPermutation-flat : (xs ys : List X) → IsPermutation xs ys → IsPermutation (flat_map g xs) (flat_map g ys)
  IsPermutation-flat xs ys moves =
      IsPermutation-keeps xs (λ l. IsPermutation (flat_map g xs) (flat_map g l)) (IsPermutation-refl (flat_map g xs)) step ys moves
    where
      step : (l : List X) (i j : ℕ) → i < length l → j < length l → IsPermutation (flat_map g xs) (flat_map g l)
          → IsPermutation (flat_map g xs) (flat_map g (swap l i j))
      step [] i j first second so_far = so_far
      step (d ∷ l) i j first second so_far =
          IsPermutation-trans (flat_map g xs) (flat_map g (d ∷ l)) (flat_map g (set (set (d ∷ l) i (get_or (d ∷ l) j d)) j (get_or (d ∷ l) i d)))
          so_far (flat_swap (d ∷ l) i j d first second)

filter-flat : {X : Type 0} (p : X → Bool) (xs : List X) → flat_map (λ x. cond (p x) (x ∷ []) []) xs ≡ filter p xs
filter-flat p [] = refl
filter-flat p (x ∷ xs) = by_case (p x) (filter-flat p xs)
  where
    by_case : (b : Bool) → flat_map (λ y. cond (p y) (y ∷ []) []) xs ≡ filter p xs
        → cond b (x ∷ []) [] ++ flat_map (λ y. cond (p y) (y ∷ []) []) xs ≡ cond b (x ∷ filter p xs) (filter p xs)
    by_case true rest = ap (λ l. x ∷ l) rest
    by_case false rest = rest

pub IsPermutation-filter : {X : Type 0} (p : X → Bool) (xs ys : List X) → IsPermutation xs ys → IsPermutation (filter p xs) (filter p ys)
IsPermutation-filter p xs ys moves =
    subst (λ l. IsPermutation l (filter p ys)) (filter-flat p xs)
    (subst (λ l. IsPermutation (flat_map (λ x. cond (p x) (x ∷ []) []) xs) l) (filter-flat p ys)
    (IsPermutation-flat (λ x. cond (p x) (x ∷ []) []) xs ys moves))
