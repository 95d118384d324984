-- Lists in which one element is looked for, and lists that are mapped.
use Rattle.std.proofs.Common.{◌≡◌, ℕ, ℤ, zero, suc, ◌+◌, ◌<◌, ◌≤◌, Bool, true, false, not, cond, List, [], ◌∷◌, length, map, ◌||◌, ◌&&◌, get_or, set, Option, Some, None, refl, ap, sym, ◌∙◌, arith}
use Rattle.std.specs.Prelude.{find, filter, position, take_while, option_map, nat_lt, if◌then◌else◌, take, drop, unwrap_or}
use Rattle.nv_windows.specs.Operations.{last_or}
use Rattle.std.specs.List.{list_any, list_all, position_or_len, prefix_len}
use Rattle.std.proofs.lemmas.Bool.Decides.{nat_tests}
use Rattle.std.proofs.lemmas.List.{length-map}
use Rattle.std.proofs.lemmas.List.Quantifiers.{position-Some}

position_or_len-map : {X Y : Type 0} (p : Y → Bool) (f : X → Y) (xs : List X) → position_or_len p (map f xs) ≡ position_or_len (λ x. p (f x)) xs
position_or_len-map p f [] = refl
position_or_len-map p f (x ∷ xs) = ap (λ n. cond (not (p (f x))) (1 + n) 0) (position_or_len-map p f xs)

-- a test of what a function gives
pub position-map : {X Y : Type 0} (p : Y → Bool) (f : X → Y) (xs : List X) → position p (map f xs) ≡ position (λ x. p (f x)) xs
position-map p f xs = λ i.
    cond (nat_lt (position_or_len-map p f xs i) (length-map xs f i)) (Some (position_or_len-map p f xs i)) None

pub find-map : {X Y : Type 0} (p : Y → Bool) (f : X → Y) (xs : List X) → find p (map f xs) ≡ option_map f (find (λ x. p (f x)) xs)
find-map p f [] = refl
find-map p f (x ∷ xs) = by_case (p (f x)) (find-map p f xs)
  where
    by_case : (b : Bool) → find p (map f xs) ≡ option_map f (find (λ x. p (f x)) xs)
        → cond b (Some (f x)) (find p (map f xs)) ≡ option_map f (cond b (Some x) (find (λ x. p (f x)) xs))
    by_case true rest = refl
    by_case false rest = rest

pub filter-map : {X Y : Type 0} (p : Y → Bool) (f : X → Y) (xs : List X) → filter p (map f xs) ≡ map f (filter (λ x. p (f x)) xs)
filter-map p f [] = refl
filter-map p f (x ∷ xs) = by_case (p (f x)) (filter-map p f xs)
  where
    by_case : (b : Bool) → filter p (map f xs) ≡ map f (filter (λ x. p (f x)) xs)
        → cond b (f x ∷ filter p (map f xs)) (filter p (map f xs)) ≡ map f (cond b (x ∷ filter (λ x. p (f x)) xs) (filter (λ x. p (f x)) xs))
    by_case true rest = ap (λ l. f x ∷ l) rest
    by_case false rest = rest

pub any-map : {X Y : Type 0} (p : Y → Bool) (f : X → Y) (xs : List X) → list_any p (map f xs) ≡ list_any (λ x. p (f x)) xs
any-map p f [] = refl
any-map p f (x ∷ xs) = ap (λ b. p (f x) || b) (any-map p f xs)

pub all-map : {X Y : Type 0} (p : Y → Bool) (f : X → Y) (xs : List X) → list_all p (map f xs) ≡ list_all (λ x. p (f x)) xs
all-map p f [] = refl
all-map p f (x ∷ xs) = ap (λ b. p (f x) && b) (all-map p f xs)

-- the first that passes, by its place
module _ {X : Type 0} (p : X → Bool) where
  pub find_at : (xs : List X) (i : ℕ) (d : X) → i < length xs → p (get_or xs i d) ≡ true
      → ((k : ℕ) → k < i → p (get_or xs k d) ≡ false) → find p xs ≡ Some (get_or xs i d)
  find_at [] i d within passes before = absurd (omega arith)
  find_at (x ∷ xs) zero d within passes before = rw passes refl
  find_at (x ∷ xs) (suc i) d within passes before =
      let fails : p x ≡ false = before 0 (omega arith) in
      rw fails (find_at xs i d (omega arith) passes (λ k lt. before (suc k) (omega arith)))

  pub find_by_position : (xs : List X) (i : ℕ) (d : X) → position p xs ≡ Some i → find p xs ≡ Some (get_or xs i d)
  find_by_position xs i d e = let first = position-Some p xs i d e in find_at xs i d first.0 first.1 first.2

  -- none passes
  fails_past : (xs : List X) → nat_lt (position_or_len p xs) (length xs) ≡ false → find p xs ≡ None
  fails_past [] over = refl
  fails_past (x ∷ xs) over = by_case (fails_past xs) (p x) refl over
    where
      by_case : (nat_lt (position_or_len p xs) (length xs) ≡ false → find p xs ≡ None) → (b : Bool) → p x ≡ b
          → nat_lt (cond (not b) (1 + position_or_len p xs) 0) (suc (length xs)) ≡ false → cond b (Some x) (find p xs) ≡ None
      by_case rest true is over = absurd (grind (arith, nat_tests))
      by_case rest false is over = rest (grind (arith, nat_tests))

  past_none : (b : Bool) (n : ℕ) → cond b (Some n) None ≡ None → b ≡ false
  past_none true n e = cc
  past_none false n e = refl

  pub find_nowhere : (xs : List X) → position p xs ≡ None → find p xs ≡ None
  find_nowhere xs e = fails_past xs (past_none (nat_lt (position_or_len p xs) (length xs)) (position_or_len p xs) e)

  pub map_nowhere : (f : X → X) (xs : List X) → find p xs ≡ None → map (λ x. if p x then f x else x) xs ≡ xs
  map_nowhere f [] e = refl
  map_nowhere f (x ∷ xs) e = by_case (map_nowhere f xs) (p x) refl e
    where
      by_case : (find p xs ≡ None → map (λ x. if p x then f x else x) xs ≡ xs) → (b : Bool) → p x ≡ b → cond b (Some x) (find p xs) ≡ None
          → (if b then f x else x) ∷ map (λ x. if p x then f x else x) xs ≡ x ∷ xs
      by_case rest true is e = cc
      by_case rest false is e = ap (λ l. x ∷ l) (rest e)

  more_by_one : (i : ℕ) → suc i + 1 ≡ suc (i + 1)
  more_by_one i = omega arith

  -- where one alone passes, the list mapped there is the list with that one replaced
  pub map_at : (f : X → X) (xs : List X) (i : ℕ) (d : X) → i < length xs → p (get_or xs i d) ≡ true
      → ((k : ℕ) → k < i → p (get_or xs k d) ≡ false) → find p (drop (i + 1) xs) ≡ None
      → map (λ x. if p x then f x else x) xs ≡ set xs i (f (get_or xs i d))
  map_at f [] i d within passes before behind = absurd (omega arith)
  map_at f (x ∷ xs) zero d within passes before behind = rw passes (ap (λ l. f x ∷ l) (map_nowhere f xs behind))
  map_at f (x ∷ xs) (suc i) d within passes before behind =
      let fails : p x ≡ false = before 0 (omega arith) in
      let next : drop (suc i + 1) (x ∷ xs) ≡ drop (i + 1) xs = ap (λ n. drop n (x ∷ xs)) (more_by_one i) in
      rw fails (ap (λ l. x ∷ l) (map_at f xs i d (omega arith) passes (λ k lt. before (suc k) (omega arith)) (sym (ap (find p) next) ∙ behind)))

  -- what stands before the first that passes
  pub take_while_until : (xs : List X) → length (take_while (λ x. not (p x)) xs) ≡ position_or_len p xs
  take_while_until [] = refl
  take_while_until (x ∷ xs) = by_case (p x) (take_while_until xs)
    where
      more : (n : ℕ) → 1 + n ≡ suc n
      more n = omega arith

      by_case : (b : Bool) → length (take_while (λ x. not (p x)) xs) ≡ position_or_len p xs
          → length (take (cond (not b) (1 + prefix_len (λ x. not (p x)) xs) 0) (x ∷ xs)) ≡ cond (not b) (1 + position_or_len p xs) 0
      by_case true rest = refl
      by_case false rest =
          ap (λ n. length (take n (x ∷ xs))) (more (prefix_len (λ x. not (p x)) xs)) ∙ ap suc rest ∙ sym (more (position_or_len p xs))

-- a place, and the length where there is none
pub prefix_most : {X : Type 0} (p : X → Bool) (xs : List X) → prefix_len p xs ≤ length xs
prefix_most p [] = omega arith
prefix_most p (x ∷ xs) = by_case (prefix_most p xs) (p x)
  where
    by_case : prefix_len p xs ≤ length xs → (b : Bool) → cond b (1 + prefix_len p xs) 0 ≤ suc (length xs)
    by_case rest true = omega (arith, rest)
    by_case rest false = omega arith

pub place_or_len : {X : Type 0} (p : X → Bool) (xs : List X) (o : Option ℕ) → o ≡ position p xs → unwrap_or o (length xs) ≡ position_or_len p xs
place_or_len p xs o e = ap (λ q. unwrap_or q (length xs)) e ∙ by_case (nat_lt (position_or_len p xs) (length xs)) refl
  where
    by_case : (b : Bool) → nat_lt (position_or_len p xs) (length xs) ≡ b → unwrap_or (cond b (Some (position_or_len p xs)) None) (length xs) ≡ position_or_len p xs
    by_case true is = refl
    by_case false is = let most = prefix_most (λ x. not (p x)) xs in grind (arith, nat_tests)

-- the last of those before a place
pub last_taken : (other : ℤ) (ks : List ℤ) (n : ℕ) (d : ℤ) → n < length ks → last_or other (take (suc n) ks) ≡ get_or ks n d
last_taken other [] n d h = absurd (omega arith)
last_taken other (k ∷ ks) zero d h = refl
last_taken other (k ∷ ks) (suc n) d h = last_taken k ks n d (omega arith)
