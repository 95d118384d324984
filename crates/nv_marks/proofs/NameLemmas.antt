-- Lemmas on finding marks by namespace and id.
use Rattle.std.proofs.Common.{◌≡◌, ◌<◌, ◌+◌, List, [], ◌∷◌, ℕ, zero, suc, refl, ap, sym, ◌∙◌, length, get_or, map, arith, All, Bool, true, false, not, cond, ltb, subst, Option, Some, None}
use Rattle.std.specs.Prelude.{IsPermutation, filter, find, remove, option_map, position}
use Rattle.std.specs.List.{IsDistinct, position_or_len}
use Rattle.std.proofs.lemmas.Bool.{both_ways}
use Rattle.std.proofs.lemmas.Bool.Decides.{nat_tests}
use Rattle.std.proofs.lemmas.List.Elements.{All-nil, All-cons, All-head, All-tail, All-weaker, All-from_recursion, recursion_from_All, filter_passes}
use Rattle.std.proofs.lemmas.List.Sorted.{All-permutation, IsPermutation-sym}
use Rattle.std.proofs.lemmas.List.Kept.{AllPairs-filter}
use Rattle.std.proofs.lemmas.List.{get_or-map, length-map}
use Rattle.std.proofs.lemmas.Map.Keys.{IsDistinct-head, IsDistinct-tail, IsDistinct-cons, IsDistinct-from_apart, apart_from_distinct}
use Rattle.nv_marks.specs.Marks.{is_named, mark_at, without}
use Rattle.nv_marks.specs.Sound.{same_name}
use Rattle.nv_marks.specs.declared.extmark.Mark.{Mark}

-- ---- a test of elements, and the first that passes it
module _ {X : Type 0} (p : X → Bool) where
  pub find-none : (xs : List X) → All (λ x. p x ≡ false) xs → find p xs ≡ None
  find-none [] all_fail = refl
  find-none (x ∷ xs) all_fail =
      let fails : p x ≡ false = All-head (λ y. p y ≡ false) x xs all_fail in
      rw fails (find-none xs (All-tail (λ y. p y ≡ false) x xs all_fail))

  pub none_passes : (xs : List X) → find p xs ≡ None → All (λ x. p x ≡ false) xs
  none_passes [] nothing = All-nil (λ y. p y ≡ false)
  none_passes (x ∷ xs) nothing = by_case (none_passes xs) (p x) refl nothing
    where
      by_case : (find p xs ≡ None → All (λ y. p y ≡ false) xs) → (b : Bool) → p x ≡ b → cond b (Some x) (find p xs) ≡ None
          → All (λ y. p y ≡ false) (x ∷ xs)
      by_case rest true is e = absurd cc
      by_case rest false is e = All-cons (λ y. p y ≡ false) x xs is (rest e)

  -- what holds of all holds of the first that passes, and it passes
  pub find-All : (P : X → Type 0) (xs : List X) (m : X) → All P xs → find p xs ≡ Some m → P m × (p m ≡ true)
  find-All P [] m all found = absurd cc
  find-All P (x ∷ xs) m all found = by_case (find-All P xs m (All-tail P x xs all)) (p x) refl found
    where
      by_case : (find p xs ≡ Some m → P m × (p m ≡ true)) → (b : Bool) → p x ≡ b → cond b (Some x) (find p xs) ≡ Some m
          → P m × (p m ≡ true)
      by_case rest true is e =
          let here : x ≡ m = cc in (subst P here (All-head P x xs all), subst (λ y. p y ≡ true) here is)
      by_case rest false is e = rest e

  pub find-map : (f : X → X) → ((x : X) → p (f x) ≡ p x) → (xs : List X) → find p (map f xs) ≡ option_map f (find p xs)
  find-map f keeps [] = refl
  find-map f keeps (x ∷ xs) = rw (keeps x) (by_case (find-map f keeps xs) (p x))
    where
      by_case : find p (map f xs) ≡ option_map f (find p xs) → (b : Bool)
          → cond b (Some (f x)) (find p (map f xs)) ≡ option_map f (cond b (Some x) (find p xs))
      by_case rest true = refl
      by_case rest false = rest

  pub find_at : (xs : List X) (i : ℕ) (d : X) → i < length xs → p (get_or xs i d) ≡ true
      → ((k : ℕ) → k < i → p (get_or xs k d) ≡ false) → find p xs ≡ Some (get_or xs i d)
  find_at [] i d within passes before = absurd (omega arith)
  find_at (x ∷ xs) zero d within passes before = rw passes refl
  find_at (x ∷ xs) (suc i) d within passes before =
      let fails : p x ≡ false = before 0 (omega arith) in
      rw fails (find_at xs i d (omega arith) passes (λ k lt. before (suc k) (omega arith)))

  pub filter-all : (xs : List X) → All (λ x. p x ≡ false) xs → filter (λ x. not (p x)) xs ≡ xs
  filter-all [] all_fail = refl
  filter-all (x ∷ xs) all_fail =
      let fails : p x ≡ false = All-head (λ y. p y ≡ false) x xs all_fail in
      rw fails (ap (λ l. x ∷ l) (filter-all xs (All-tail (λ y. p y ≡ false) x xs all_fail)))

  pub fail_from_position : (xs : List X) → position p xs ≡ None → All (λ x. p x ≡ false) xs
  fail_from_position xs nowhere = all_fail xs (past (ltb (position_or_len p xs) (length xs)) refl)
    where
      past : (b : Bool) → ltb (position_or_len p xs) (length xs) ≡ b → ltb (position_or_len p xs) (length xs) ≡ false
      past true is =
          let there : position p xs ≡ Some (position_or_len p xs) = rw is refl in
          absurd cc
      past false is = is

      all_fail : (xs : List X) → ltb (position_or_len p xs) (length xs) ≡ false → All (λ x. p x ≡ false) xs
      all_fail [] over = All-nil (λ y. p y ≡ false)
      all_fail (x ∷ xs) over = by_case (all_fail xs) (p x) refl over
        where
          by_case : (ltb (position_or_len p xs) (length xs) ≡ false → All (λ x. p x ≡ false) xs) → (b : Bool) → p x ≡ b
              → ltb (cond (not b) (1 + position_or_len p xs) 0) (suc (length xs)) ≡ false → All (λ y. p y ≡ false) (x ∷ xs)
          by_case rest true is over = absurd (grind (arith, nat_tests))
          by_case rest false is over = All-cons (λ y. p y ≡ false) x xs is (rest (grind (arith, nat_tests)))

-- ---- elements told apart by `same`, and a test that no two of them pass
module _ {X : Type 0} (same : X → X → Bool) (p : X → Bool) (once : (x y : X) → p x ≡ true → p y ≡ true → same x y ≡ true) where
  pub others_fail : (x : X) (xs : List X) → p x ≡ true → IsDistinct same (x ∷ xs) → All (λ y. p y ≡ false) xs
  others_fail x xs passes apart =
      All-weaker (λ y. same x y ≡ false) (λ y. p y ≡ false) fails xs (All-from_recursion (λ y. same x y ≡ false) xs (IsDistinct-head same x xs apart))
    where
      fails : (y : X) → same x y ≡ false → p y ≡ false
      fails y differs = by_case (p y) refl
        where
          by_case : (b : Bool) → p y ≡ b → p y ≡ false
          by_case true is = absurd (both_ways (same x y) differs (once x y passes is))
          by_case false is = is

  -- only the one that is found passes
  pub only_found : (xs : List X) (m : X) → IsDistinct same xs → find p xs ≡ Some m → All (λ y. p y ≡ true → y ≡ m) xs
  only_found [] m apart found = All-nil (λ y. p y ≡ true → y ≡ m)
  only_found (x ∷ xs) m apart found = by_case (only_found xs m (IsDistinct-tail same x xs apart)) (p x) refl found
    where
      by_case : (find p xs ≡ Some m → All (λ y. p y ≡ true → y ≡ m) xs) → (b : Bool) → p x ≡ b → cond b (Some x) (find p xs) ≡ Some m → All (λ y. p y ≡ true → y ≡ m) (x ∷ xs)
      by_case rest true is e =
          let here : x ≡ m = cc in
          All-cons (λ y. p y ≡ true → y ≡ m) x xs (λ _. here)
          (All-weaker (λ y. p y ≡ false) (λ y. p y ≡ true → y ≡ m) (λ y fails passes. absurd (both_ways (p y) fails passes)) xs (others_fail x xs is apart))
      by_case rest false is e =
          All-cons (λ y. p y ≡ true → y ≡ m) x xs (λ passes. absurd (both_ways (p x) is passes)) (rest e)

  pub find-permutation : (xs ys : List X) → IsPermutation xs ys → IsDistinct same xs → find p ys ≡ find p xs
  find-permutation xs ys moved apart = by_case (find p xs) refl (find p ys) refl
    where
      by_case : (o : Option X) → find p xs ≡ o → (q : Option X) → find p ys ≡ q → find p ys ≡ find p xs
      by_case None none q is =
          find-none p ys (All-permutation (λ y. p y ≡ false) xs ys moved (none_passes p xs none)) ∙ sym none
      by_case (Some m) found None none =
          let nowhere : find p xs ≡ None =
          find-none p xs (All-permutation (λ y. p y ≡ false) ys xs (IsPermutation-sym xs ys moved) (none_passes p ys none)) in
          absurd cc
      by_case (Some m) found (Some k) there =
          let only = All-permutation (λ y. p y ≡ true → y ≡ m) xs ys moved (only_found xs m apart found) in
          let is = find-All p (λ y. p y ≡ true → y ≡ m) ys k only there in
          let same_one : k ≡ m = is.0 is.1 in
          cc

  pub filter-remove : (xs : List X) (i : ℕ) (d : X) → IsDistinct same xs → i < length xs → p (get_or xs i d) ≡ true
      → ((k : ℕ) → k < i → p (get_or xs k d) ≡ false) → filter (λ x. not (p x)) xs ≡ remove xs i
  filter-remove [] i d apart within passes before = absurd (omega arith)
  filter-remove (x ∷ xs) zero d apart within passes before =
      rw passes (filter-all p xs (others_fail x xs passes apart))
  filter-remove (x ∷ xs) (suc i) d apart within passes before =
      let fails : p x ≡ false = before 0 (omega arith) in
      rw fails (ap (λ l. x ∷ l)
      (filter-remove xs i d (IsDistinct-tail same x xs apart) (omega arith) passes (λ k lt. before (suc k) (omega arith))))

-- ---- marks
pub named_once : (ns id : ℕ) (x y : Mark) → is_named ns id x ≡ true → is_named ns id y ≡ true → same_name x y ≡ true
named_once ns id x y of_x of_y = grind (arith, nat_tests)

pub same_name-flips : (x y : Mark) → same_name x y ≡ same_name y x
same_name-flips x y = grind (arith, nat_tests)

pub IsDistinct-without : (p : Mark → Bool) (marks : List Mark) → IsDistinct same_name marks → IsDistinct same_name (filter p marks)
IsDistinct-without p marks apart =
    IsDistinct-from_apart same_name (filter p marks)
    (AllPairs-filter (λ x y. same_name x y ≡ false) p marks (λ i j d before within. apart_from_distinct same_name marks i j d apart before within))

-- marks that keep their names stay apart
pub IsDistinct-map : (f : Mark → Mark) → ((m k : Mark) → same_name (f m) (f k) ≡ same_name m k) → (marks : List Mark)
    → IsDistinct same_name marks → IsDistinct same_name (map f marks)
IsDistinct-map f keeps marks apart =
    IsDistinct-from_apart same_name (map f marks) (λ i j d before within.
    let len = length-map marks f in
    let at_i : get_or (map f marks) i d ≡ f (get_or marks i d) = get_or-map f marks i d d (omega arith) in
    let at_j : get_or (map f marks) j d ≡ f (get_or marks j d) = get_or-map f marks j d d (omega arith) in
    rw (at_i, at_j) (keeps (get_or marks i d) (get_or marks j d) ∙ apart_from_distinct same_name marks i j d apart before (omega arith)))

-- a mark beside the others of other names
pub IsDistinct-with : (mark : Mark) (marks : List Mark) → IsDistinct same_name marks
    → IsDistinct same_name (mark ∷ without mark.ns mark.id marks)
IsDistinct-with mark marks apart =
    IsDistinct-cons same_name mark (without mark.ns mark.id marks)
    (recursion_from_All (λ k. same_name mark k ≡ false) (without mark.ns mark.id marks)
    (All-weaker (λ k. not (is_named mark.ns mark.id k) ≡ true) (λ k. same_name mark k ≡ false) (λ k other. other_name k other)
    (without mark.ns mark.id marks) (filter_passes (λ k. not (is_named mark.ns mark.id k)) marks)))
    (IsDistinct-without (λ k. not (is_named mark.ns mark.id k)) marks apart)
  where
    other_name : (k : Mark) → not (is_named mark.ns mark.id k) ≡ true → same_name mark k ≡ false
    other_name k other = grind (arith, nat_tests)

-- what is found once a mark is set
pub mark_at-with : (mark : Mark) (marks : List Mark) (ns id : ℕ)
    → mark_at (mark ∷ without mark.ns mark.id marks) ns id ≡ cond (is_named ns id mark) (Some mark) (mark_at marks ns id)
mark_at-with mark marks ns id = by_case (is_named ns id mark) refl
  where
    others : (marks : List Mark) → is_named ns id mark ≡ false → mark_at (without mark.ns mark.id marks) ns id ≡ mark_at marks ns id
    others [] other = refl
    others (k ∷ marks) other = step (others marks other) (is_named mark.ns mark.id k) refl
      where
        step : mark_at (without mark.ns mark.id marks) ns id ≡ mark_at marks ns id → (b : Bool) → is_named mark.ns mark.id k ≡ b
            → mark_at (cond (not b) (k ∷ without mark.ns mark.id marks) (without mark.ns mark.id marks)) ns id ≡ mark_at (k ∷ marks) ns id
        step rest true is =
            let apart : is_named ns id k ≡ false = grind (arith, nat_tests) in
            rest ∙ sym (rw apart refl)
        step rest false is = ap (λ o. cond (is_named ns id k) (Some k) o) rest

    by_case : (b : Bool) → is_named ns id mark ≡ b
        → cond (is_named ns id mark) (Some mark) (mark_at (without mark.ns mark.id marks) ns id)
        ≡ cond (is_named ns id mark) (Some mark) (mark_at marks ns id)
    by_case true is = rw is refl
    by_case false is = ap (λ o. cond (is_named ns id mark) (Some mark) o) (others marks is)
