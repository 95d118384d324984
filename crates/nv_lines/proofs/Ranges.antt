-- Lemmas on parts of lists.
use Rattle.std.proofs.Common.{◌≡◌, ℕ, ◌+◌, ◌-◌, ◌<◌, ◌≤◌, zero, suc, List, [], ◌∷◌, ◌++◌, length, take, drop, refl, sym, ap, ◌∙◌, append_assoc, arith, length-append, length-drop, slice_range, get_or}
use Rattle.std.proofs.lemmas.List.{append-nil, take-append-drop, take_all, take-append-le, drop-append-le, drop-drop, drop_all, length-take-le, take-take, drop-take, take_more, get_or-drop}
use Rattle.std.specs.List.{splice}

-- a front of two lists in a row
pub take-append : {X : Type 0} (n : ℕ) (a b : List X) → take n (a ++ b) ≡ take n a ++ take (n - length a) b
take-append n [] b =
    ap (λ m. take m b) (let e : n ≡ n - 0 = omega arith in e) ∙ ap (λ l. l ++ take (n - 0) b) (sym (take_all n [] (omega arith)))
take-append zero (x ∷ a) b = ap (λ m. take m b) (let e : zero ≡ zero - length (x ∷ a) = omega arith in e)
take-append (suc n) (x ∷ a) b =
    ap (λ l. x ∷ l) (take-append n a b)
    ∙ ap (λ m. x ∷ (take n a ++ take m b)) (let e : n - length a ≡ suc n - length (x ∷ a) = omega arith in e)

-- what is behind a front of two lists in a row
pub drop-append : {X : Type 0} (n : ℕ) (a b : List X) → drop n (a ++ b) ≡ drop n a ++ drop (n - length a) b
drop-append n [] b =
    ap (λ m. drop m b) (let e : n ≡ n - 0 = omega arith in e) ∙ ap (λ l. l ++ drop (n - 0) b) (sym (drop_all n [] (omega arith)))
drop-append zero (x ∷ a) b = ap (λ m. (x ∷ a) ++ drop m b) (let e : zero ≡ zero - length (x ∷ a) = omega arith in e)
drop-append (suc n) (x ∷ a) b =
    drop-append n a b
    ∙ ap (λ m. drop n a ++ drop m b) (let e : n - length a ≡ suc n - length (x ∷ a) = omega arith in e)

-- a part of two lists in a row
pub slice_range-append : {X : Type 0} (a b : List X) (from to : ℕ)
    → slice_range (a ++ b) from to ≡ slice_range a from to ++ slice_range b (from - length a) (to - length a)
slice_range-append a b from to =
    ap (take (to - from)) (drop-append from a b)
    ∙ take-append (to - from) (drop from a) (drop (from - length a) b)
    ∙ ap (λ m. take (to - from) (drop from a) ++ take m (drop (from - length a) b)) (omega (arith, length-drop from a))

-- a part that begins behind the front of two lists is one of the second
pub slice_range-behind : {X : Type 0} (a b : List X) (from to : ℕ) → length a ≤ from
    → slice_range (a ++ b) from to ≡ slice_range b (from - length a) (to - length a)
slice_range-behind a b from to h =
    slice_range-append a b from to
    ∙ ap (λ l. take (to - from) l ++ slice_range b (from - length a) (to - length a)) (drop_all from a h)
    ∙ ap (λ l. l ++ slice_range b (from - length a) (to - length a)) (take_all (to - from) [] (omega arith))

-- rows that lie in the middle of three lists are replaced there
pub splice_inside : {X : Type 0} (a m b new : List X) (row from to : ℕ) → row ≡ length a → row ≤ from → from ≤ to → to ≤ row + length m
    → splice (a ++ (m ++ b)) from to new ≡ a ++ (splice m (from - row) (to - row) new ++ b)
splice_inside a m b new row from to e low order high =
    let within : to - length a ≤ length m = omega arith in
    let front : take from (a ++ (m ++ b)) ≡ a ++ take (from - row) m =
    take-append from a (m ++ b)
    ∙ ap (λ l. l ++ take (from - length a) (m ++ b)) (take_all from a (omega arith))
    ∙ ap (λ n. a ++ take (from - n) (m ++ b)) (sym e)
    ∙ ap (λ l. a ++ l) (take-append-le (from - row) m b (omega arith)) in
    let back : drop to (a ++ (m ++ b)) ≡ drop (to - row) m ++ b =
    drop-append to a (m ++ b)
    ∙ ap (λ l. l ++ drop (to - length a) (m ++ b)) (drop_all to a (omega arith))
    ∙ ap (λ n. drop (to - n) (m ++ b)) (sym e)
    ∙ drop-append-le (to - row) m b (omega arith) in
    ap (λ l. l ++ (new ++ drop to (a ++ (m ++ b)))) front
    ∙ ap (λ l. (a ++ take (from - row) m) ++ (new ++ l)) back
    ∙ append_assoc a (take (from - row) m) (new ++ (drop (to - row) m ++ b))
    ∙ ap (λ l. a ++ (take (from - row) m ++ l)) (sym (append_assoc new (drop (to - row) m) b))
    ∙ ap (λ l. a ++ l) (sym (append_assoc (take (from - row) m) (new ++ drop (to - row) m) b))

-- a part of the middle one of three lists
pub slice_range-inside : {X : Type 0} (a m b : List X) (row from to : ℕ) → row ≡ length a → row ≤ from → to ≤ row + length m
    → slice_range (a ++ (m ++ b)) from to ≡ slice_range m (from - row) (to - row)
slice_range-inside a m b row from to e low high =
    slice_range-behind a (m ++ b) from to (omega arith)
    ∙ ap (λ n. slice_range (m ++ b) (from - n) (to - n)) (sym e)
    ∙ slice_range-append m b (from - row) (to - row)
    ∙ ap (λ n. slice_range m (from - row) (to - row) ++ take n (drop (from - row - length m) b))
    (let none : to - row - length m - (from - row - length m) ≡ 0 = omega arith in none)
    ∙ append-nil (slice_range m (from - row) (to - row))

-- a list as what stands before a part, the part and what stands behind it
pub three_parts : {X : Type 0} (xs : List X) (from to : ℕ) → from ≤ to → xs ≡ take from xs ++ (slice_range xs from to ++ drop to xs)
three_parts xs from to order =
    let back : drop (to - from) (drop from xs) ≡ drop to xs =
    drop-drop (to - from) from xs ∙ ap (λ n. drop n xs) (let e : from + (to - from) ≡ to = omega arith in e) in
    sym (take-append-drop from xs)
    ∙ ap (λ l. take from xs ++ l) (sym (take-append-drop (to - from) (drop from xs)))
    ∙ ap (λ l. take from xs ++ (slice_range xs from to ++ l)) back

pub length-slice_range : {X : Type 0} (xs : List X) (from to : ℕ) → from ≤ to → to ≤ length xs → length (slice_range xs from to) ≡ to - from
length-slice_range xs from to order within = length-take-le (to - from) (drop from xs) (omega (arith, length-drop from xs))

pub length-splice : {X : Type 0} (xs new : List X) (from to : ℕ) → from ≤ to → to ≤ length xs
    → length (splice xs from to new) ≡ length xs - (to - from) + length new
length-splice xs new from to order within =
    omega (arith, length-append (take from xs) (new ++ drop to xs), length-append new (drop to xs), length-take-le from xs (omega arith), length-drop to xs)

-- what stood at the places up to here, and so many behind a splice
pub take-splice : {X : Type 0} (xs made : List X) (first end n : ℕ) → first ≤ end → end ≤ length xs → end ≤ n
    → take (n - end + (first + length made)) (splice xs first end made) ≡ take first xs ++ (made ++ take (n - end) (drop end xs))
take-splice xs made first end n order within past =
    let front : length (take first xs) ≡ first = length-take-le first xs (omega arith) in
    take-append (n - end + (first + length made)) (take first xs) (made ++ drop end xs)
    ∙ ap (λ l. l ++ take (n - end + (first + length made) - length (take first xs)) (made ++ drop end xs))
    (take_all (n - end + (first + length made)) (take first xs) (omega arith))
    ∙ ap (λ l. take first xs ++ l) (take-append (n - end + (first + length made) - length (take first xs)) made (drop end xs))
    ∙ ap (λ l. take first xs ++ (l ++ take (n - end + (first + length made) - length (take first xs) - length made) (drop end xs)))
    (take_all (n - end + (first + length made) - length (take first xs)) made (omega arith))
    ∙ ap (λ m. take first xs ++ (made ++ take m (drop end xs)))
    (let same : n - end + (first + length made) - length (take first xs) - length made ≡ n - end = omega arith in same)

-- a front that ends before what is replaced stays
pub take-splice-front : {X : Type 0} (xs made : List X) (first end n : ℕ) → n ≤ first → first ≤ length xs
    → take n (splice xs first end made) ≡ take n xs
take-splice-front xs made first end n before within =
    take-append-le n (take first xs) (made ++ drop end xs) (omega (arith, length-take-le first xs within))
    ∙ ap (take n) refl
    ∙ sym (take-append-le n (take first xs) (drop first xs) (omega (arith, length-take-le first xs within)))
    ∙ ap (take n) (take-append-drop first xs)

-- a front of a list as a shorter one and what is between
pub take_further : {X : Type 0} (xs : List X) (m n : ℕ) → m ≤ n → take n xs ≡ take m xs ++ take (n - m) (drop m xs)
take_further xs m n h =
    let whole : m + (n - m) ≡ n = omega arith in
    sym (take-append-drop m (take n xs))
    ∙ ap (λ l. l ++ drop m (take n xs)) (take-take m n xs h)
    ∙ ap (λ k. take m xs ++ drop m (take k xs)) (sym whole)
    ∙ ap (λ l. take m xs ++ l) (drop-take m (n - m) xs)

-- a part that lies in the first of two lists
pub slice_range-front : {X : Type 0} (a b : List X) (from to : ℕ) → to ≤ length a → slice_range (a ++ b) from to ≡ slice_range a from to
slice_range-front a b from to h =
    slice_range-append a b from to
    ∙ ap (λ n. slice_range a from to ++ take n (drop (from - length a) b))
    (let none : to - length a - (from - length a) ≡ 0 = omega arith in none)
    ∙ append-nil (slice_range a from to)

-- a part that lies before an item that came in, or went
pub slice_range-before : {X : Type 0} (xs ys : List X) (n from to : ℕ) → to ≤ n → n ≤ length xs
    → slice_range (take n xs ++ ys) from to ≡ slice_range xs from to
slice_range-before xs ys n from to h within =
    let len : length (take n xs) ≡ n = length-take-le n xs within in
    slice_range-front (take n xs) ys from to (omega arith)
    ∙ sym (slice_range-front (take n xs) (drop n xs) from to (omega arith))
    ∙ ap (λ l. slice_range l from to) (take-append-drop n xs)

-- a part with one item more
pub slice_range-more : {X : Type 0} (xs : List X) (from n : ℕ) (d : X) → from ≤ n → n < length xs
    → slice_range xs from (n + 1) ≡ slice_range xs from n ++ get_or xs n d ∷ []
slice_range-more xs from n d order within =
    let place : from + (n - from) ≡ n = omega arith in
    ap (λ m. take m (drop from xs)) (let same : n + 1 - from ≡ n - from + 1 = omega arith in same)
    ∙ take_more (drop from xs) (n - from) d (omega (arith, length-drop from xs))
    ∙ ap (λ x. take (n - from) (drop from xs) ++ x ∷ []) (get_or-drop from xs (n - from) d ∙ ap (λ m. get_or xs m d) place)
