-- Lemmas on what holds of each element, and on lists in order.
use Rattle.std.proofs.Common.{◌≡◌, ◌≤◌, ◌<◌, ◌+◌, ◌-◌, List, [], ◌∷◌, ◌++◌, ℕ, zero, suc, refl, ap, sym, ◌∙◌, length, take, drop, get_or, set, map, arith, All, Bool, true, false, cond, subst}
use Rattle.std.specs.Prelude.{IsPermutation, IsSortedBy, filter}
use Rattle.std.proofs.lemmas.Bool.{both_ways}
use Rattle.std.specs.Cmp.{IsStrictWeakOrder}
use Rattle.std.proofs.lemmas.List.{get_or-append_right, get_or-drop, length-map, length-take-le, get_or_default}
use Rattle.std.proofs.lemmas.List.Edits.{map_over_more}
use Rattle.std.proofs.lemmas.List.Elements.{All-nil, All-cons, All-head, All-tail}
use Rattle.std.proofs.lemmas.List.Sorted.{All-permutation, sorted_far}
use Rattle.std.specs.List.Sorted.{IsPartitionPoint, IsPartitionedBy}
use Rattle.nv_marks.specs.inside.Records.{ForEach, Rises}

module _ {X : Type 0} (P : X → Type 0) where
  pub Each-append : (xs ys : List X) → ForEach P xs → ForEach P ys → ForEach P (xs ++ ys)
  Each-append [] ys a b = b
  Each-append (x ∷ xs) ys a b = (a.0, Each-append xs ys a.1 b)

  pub Each-left : (xs ys : List X) → ForEach P (xs ++ ys) → ForEach P xs
  Each-left [] ys a = tt
  Each-left (x ∷ xs) ys a = (a.0, Each-left xs ys a.1)

  pub Each-right : (xs ys : List X) → ForEach P (xs ++ ys) → ForEach P ys
  Each-right [] ys a = a
  Each-right (x ∷ xs) ys a = Each-right xs ys a.1

  pub Each-weaker : (Q : X → Type 0) → ((x : X) → P x → Q x) → (xs : List X) → ForEach P xs → ForEach Q xs
  Each-weaker Q weaker [] a = tt
  Each-weaker Q weaker (x ∷ xs) a = (weaker x a.0, Each-weaker Q weaker xs a.1)

  pub Each-always : ((x : X) → P x) → (xs : List X) → ForEach P xs
  Each-always always [] = tt
  Each-always always (x ∷ xs) = (always x, Each-always always xs)

  pub Each-take : (n : ℕ) (xs : List X) → ForEach P xs → ForEach P (take n xs)
  Each-take zero xs a = tt
  Each-take (suc n) [] a = tt
  Each-take (suc n) (x ∷ xs) a = (a.0, Each-take n xs a.1)

  pub Each-drop : (n : ℕ) (xs : List X) → ForEach P xs → ForEach P (drop n xs)
  Each-drop zero xs a = a
  Each-drop (suc n) [] a = tt
  Each-drop (suc n) (x ∷ xs) a = Each-drop n xs a.1

  pub Each-get_or : (xs : List X) (i : ℕ) (d : X) → i < length xs → ForEach P xs → P (get_or xs i d)
  Each-get_or [] i d within a = absurd (omega arith)
  Each-get_or (x ∷ xs) zero d within a = a.0
  Each-get_or (x ∷ xs) (suc i) d within a = Each-get_or xs i d (omega arith) a.1

  pub Each-from_get_or : (xs : List X) → ((i : ℕ) (d : X) → i < length xs → P (get_or xs i d)) → ForEach P xs
  Each-from_get_or [] at = tt
  Each-from_get_or (x ∷ xs) at = (at 0 x (omega arith), Each-from_get_or xs (λ i d within. at (suc i) d (omega arith)))

  pub Each-from_all : (xs : List X) → All P xs → ForEach P xs
  Each-from_all [] a = tt
  Each-from_all (x ∷ xs) a = (All-head P x xs a, Each-from_all xs (All-tail P x xs a))

  pub All-from_each : (xs : List X) → ForEach P xs → All P xs
  All-from_each [] a = All-nil P
  All-from_each (x ∷ xs) a = All-cons P x xs a.0 (All-from_each xs a.1)

  pub Each-permutation : (xs ys : List X) → IsPermutation xs ys → ForEach P xs → ForEach P ys
  Each-permutation xs ys moves a = Each-from_all ys (All-permutation P xs ys moves (All-from_each xs a))

  pub Each-filter : (p : X → Bool) (xs : List X) → ForEach P xs → ForEach P (filter p xs)
  Each-filter p [] a = tt
  Each-filter p (x ∷ xs) a = by_case (Each-filter p xs a.1) (p x)
    where
      by_case : ForEach P (filter p xs) → (b : Bool) → ForEach P (cond b (x ∷ filter p xs) (filter p xs))
      by_case rest true = (a.0, rest)
      by_case rest false = rest

pub Each-map : {X Y : Type 0} (P : X → Type 0) (f : Y → X) (ys : List Y) → ForEach (λ y. P (f y)) ys → ForEach P (map f ys)
Each-map P f [] a = tt
Each-map P f (y ∷ ys) a = (a.0, Each-map P f ys a.1)

pub Each-unmap : {X Y : Type 0} (P : X → Type 0) (f : Y → X) (ys : List Y) → ForEach P (map f ys) → ForEach (λ y. P (f y)) ys
Each-unmap P f [] a = tt
Each-unmap P f (y ∷ ys) a = (a.0, Each-unmap P f ys a.1)

pub Each-both : {X : Type 0} (P Q : X → Type 0) (xs : List X) → ForEach P xs → ForEach Q xs → ForEach (λ x. P x × Q x) xs
Each-both P Q [] a b = tt
Each-both P Q (x ∷ xs) a b = ((a.0, b.0), Each-both P Q xs a.1 b.1)

-- ---- lists in order
module _ {X : Type 0} (lt : X → X → Bool) where
  pub Rises-left : (xs ys : List X) → Rises lt (xs ++ ys) → Rises lt xs
  Rises-left [] ys up = tt
  Rises-left (x ∷ xs) ys up = (Each-left (λ y. lt y x ≡ false) xs ys up.0, Rises-left xs ys up.1)

  pub Rises-right : (xs ys : List X) → Rises lt (xs ++ ys) → Rises lt ys
  Rises-right [] ys up = up
  Rises-right (x ∷ xs) ys up = Rises-right xs ys up.1

  pub Rises-cross : (xs ys : List X) → Rises lt (xs ++ ys) → ForEach (λ x. ForEach (λ y. lt y x ≡ false) ys) xs
  Rises-cross [] ys up = tt
  Rises-cross (x ∷ xs) ys up = (Each-right (λ y. lt y x ≡ false) xs ys up.0, Rises-cross xs ys up.1)

  pub Rises-append : (xs ys : List X) → Rises lt xs → Rises lt ys → ForEach (λ x. ForEach (λ y. lt y x ≡ false) ys) xs
      → Rises lt (xs ++ ys)
  Rises-append [] ys a b across = b
  Rises-append (x ∷ xs) ys a b across =
      (Each-append (λ y. lt y x ≡ false) xs ys a.0 across.0, Rises-append xs ys a.1 b across.1)

  sorted_tail : (x : X) (xs : List X) → IsSortedBy lt (x ∷ xs) → IsSortedBy lt xs
  sorted_tail x xs up k d low within =
      let next : suc k + 1 ≡ suc (k + 1) = omega arith in
      subst (λ (n : ℕ). lt (get_or (x ∷ xs) n d) (get_or xs k d) ≡ false) next (up (suc k) d (omega arith) (omega arith))

  pub Rises-from_sorted : IsStrictWeakOrder lt → (xs : List X) → IsSortedBy lt xs → Rises lt xs
  Rises-from_sorted ranks [] up = tt
  Rises-from_sorted ranks (x ∷ xs) up = (
    Each-from_get_or (λ y. lt y x ≡ false) xs
        (λ i d within. sorted_far lt ranks (x ∷ xs) up 0 (suc i) d (omega arith) (omega arith)),
    Rises-from_sorted ranks xs (sorted_tail x xs up),
  )

  pub sorted_from_rises : (xs : List X) → Rises lt xs → IsSortedBy lt xs
  sorted_from_rises [] up k d low within = absurd (omega arith)
  sorted_from_rises (x ∷ xs) up zero d low within =
      let first : 0 + 1 ≡ suc 0 = omega arith in
      subst (λ (n : ℕ). lt (get_or (x ∷ xs) n d) x ≡ false) (sym first) (Each-get_or (λ y. lt y x ≡ false) xs 0 d (omega arith) up.0)
  sorted_from_rises (x ∷ xs) up (suc k) d low within =
      let next : suc k + 1 ≡ suc (k + 1) = omega arith in
      subst (λ (n : ℕ). lt (get_or (x ∷ xs) n d) (get_or xs k d) ≡ false) (sym next)
      (sorted_from_rises xs up.1 k d (omega arith) (omega arith))

  -- in a sorted list those before an element come first
  pub lower_parts : IsStrictWeakOrder lt → (y : X) (xs : List X) → IsSortedBy lt xs → IsPartitionedBy (λ x. lt x y) xs
  lower_parts ranks y xs up i j d in_order within before = by_case (lt (get_or xs i d) y) refl
    where
      by_case : (b : Bool) → lt (get_or xs i d) y ≡ b → lt (get_or xs i d) y ≡ true
      by_case true is = is
      by_case false is =
          absurd (both_ways (lt (get_or xs j d) y)
          (ranks.chain (get_or xs j d) (get_or xs i d) y (sorted_far lt ranks xs up i j d in_order within) is) before)

-- ---- what holds of each element from a place on
pub each_from : {X : Type 0} (P : X → Type 0) (xs : List X) (n : ℕ) → ((k : ℕ) (d : X) → n ≤ k → k < length xs → P (get_or xs k d)) → ForEach P (drop n xs)
each_from P [] zero all = tt
each_from P [] (suc n) all = tt
each_from P (x ∷ xs) zero all = (all 0 x (omega arith) (omega arith), each_from P xs zero (λ k d low within. all (suc k) d (omega arith) (omega arith)))
each_from P (x ∷ xs) (suc n) all = each_from P xs n (λ k d low within. all (suc k) d (omega arith) (omega arith))

-- ---- what a partition point says
module _ {X : Type 0} (t : X → Bool) where
  pub point_front : (xs : List X) (n : ℕ) → IsPartitionPoint (λ y. t y ≡ true) (λ y. t y ≡ false) xs n
      → ForEach (λ y. t y ≡ true) (take n xs)
  point_front xs zero point = tt
  point_front [] (suc n) point = tt
  point_front (x ∷ xs) (suc n) point =
      (point.0 0 x (omega arith) (omega arith), point_front xs n (λ k d low within. point.0 (suc k) d (omega arith) (omega arith), λ k d low within. point.1 (suc k) d (omega arith) (omega arith)))

  pub point_rest : (xs : List X) (n : ℕ) → IsPartitionPoint (λ y. t y ≡ true) (λ y. t y ≡ false) xs n
      → ForEach (λ y. t y ≡ false) (drop n xs)
  point_rest [] zero point = tt
  point_rest [] (suc n) point = tt
  point_rest (x ∷ xs) zero point =
      (point.1 0 x (omega arith) (omega arith), point_rest xs zero (λ k d low within. absurd (omega arith), λ k d low within. point.1 (suc k) d (omega arith) (omega arith)))
  point_rest (x ∷ xs) (suc n) point =
      point_rest xs n (λ k d low within. point.0 (suc k) d (omega arith) (omega arith), λ k d low within. point.1 (suc k) d (omega arith) (omega arith))

-- ---- a map in place
module _ {X : Type 0} (f : X → X) (xs ys : List X) (i : ℕ) (within : i < length xs) (is : ys ≡ map f (take i xs) ++ drop i xs) where
  -- the element that it comes to next is as it was
  pub next_in_place : (d : X) → get_or ys i d ≡ get_or xs i d
  next_in_place d =
      let len : length (map f (take i xs)) ≡ i = length-map (take i xs) f ∙ length-take-le i xs (omega arith) in
      let here : i - i ≡ 0 = omega arith in
      let there : i + 0 ≡ i = omega arith in
      ap (λ (l : List X). get_or l i d) is
      ∙ get_or-append_right (map f (take i xs)) (drop i xs) i i d len (omega arith)
      ∙ ap (λ (n : ℕ). get_or (drop i xs) n d) here
      ∙ get_or-drop i xs 0 d
      ∙ ap (λ (n : ℕ). get_or xs n d) there

  pub more_in_place : (d changed : X) → i < length ys → changed ≡ f (get_or ys i d) → set ys i changed ≡ map f (take (i + 1) xs) ++ drop (i + 1) xs
  more_in_place d changed room goes =
      ap (λ (x : X). set ys i x) goes
      ∙ map_over_more f xs ys i (get_or ys i d) within is (get_or_default ys i d (get_or ys i d) room)
