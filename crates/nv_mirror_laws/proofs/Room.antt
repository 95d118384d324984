-- With more room the reading of a value is the same, unless it was too long.
use Rattle.std.proofs.Common.{◌≡◌, ◌⊎◌, ℕ, ◌+◌, ◌-◌, ◌≤◌, zero, suc, List, [], ◌∷◌, length, take, drop, refl, sym, ap, ◌∙◌, arith, cond, ltb, Bool, true, false, inl, inr, ⊎_elim}
use Rattle.std.proofs.lemmas.Bool.{ltb-true, ltb-false}
use Rattle.nv_value.specs.Content.{Tree, Trees, one}
use Rattle.nv_msgpack.specs.Spelling.{Size, Raw, Many, Form, unused, alone, raw, many, form, width, number_in, extra, raw_value, values, many_value}
use Rattle.nv_msgpack.specs.Reading.{Reading, whole, more, flawed, bad, too_deep, too_long, Inside, none, some, map_reading, after, reading_then, items_at, raw_at, many_at, read_by, read_with, value_at}

abbrev SameOrLong : {A : Type 0} → Reading A → Reading A → Type 0
SameOrLong small large = ((k : ℕ) × (small ≡ flawed too_long k)) ⊎ (large ≡ small)

abbrev Roomy : (ℕ → List ℕ → Reading Tree) → Type 0
Roomy read = (room larger : ℕ) (bytes : List ℕ) → room ≤ larger → SameOrLong (read room bytes) (read larger bytes)

abbrev RoomyItems : (ℕ → ℕ → List ℕ → Reading Trees) → Type 0
RoomyItems read = (n room larger : ℕ) (bytes : List ℕ) → room ≤ larger → SameOrLong (read n room bytes) (read n larger bytes)

abbrev RoomyInside : Inside → Type 0
RoomyInside none = Unit {0}
RoomyInside (some read) = RoomyItems read

-- the same of what is made of a reading
mapped : {A B : Type 0} (f : A → B) (small large : Reading A) → SameOrLong small large → SameOrLong (map_reading f small) (map_reading f large)
mapped f small large (inl p) = inl (p.0, ap (map_reading f) p.1)
mapped f small large (inr e) = inr (ap (map_reading f) e)

behind : {A : Type 0} (n : ℕ) (small large : Reading A) → SameOrLong small large → SameOrLong (after n small) (after n large)
behind n small large (inl p) = inl (n + p.0, ap (after n) p.1)
behind n small large (inr e) = inr (ap (after n) e)

-- a value, and then others
chained_same : (r : Reading Tree) (f g : Tree → ℕ → Reading Trees) → ((a : Tree) (k : ℕ) → SameOrLong (f a k) (g a k)) → SameOrLong (reading_then r f) (reading_then r g)
chained_same (whole a k) f g h = behind k (f a k) (g a k) (h a k)
chained_same more f g h = inr refl
chained_same (flawed x k) f g h = inr refl

chained : (small large : Reading Tree) (f g : Tree → ℕ → Reading Trees) → SameOrLong small large → ((a : Tree) (k : ℕ) → SameOrLong (f a k) (g a k))
    → SameOrLong (reading_then small f) (reading_then large g)
chained small large f g (inl p) h = inl (p.0, ap (λ (r : Reading Tree). reading_then r f) p.1)
chained small large f g (inr e) h =
    ⊎_elim (λ p. inl p) (λ d. inr (ap (λ (r : Reading Tree). reading_then r g) e ∙ d)) (chained_same small f g h)

-- two tests in a row
tested : {A : Type 0} (room larger least len w : ℕ) (small large : Reading A) (a b c : Bool) → ltb room least ≡ a → ltb len w ≡ b → ltb larger least ≡ c → room ≤ larger → SameOrLong small large
    → SameOrLong (cond a (flawed too_long 0) (cond b more small)) (cond c (flawed too_long 0) (cond b more large))
tested room larger least len w small large true b c p q r h same = inl (0, refl)
tested room larger least len w small large false b true p q r h same = absurd (omega (arith, ltb-false room least p, ltb-true larger least r, h))
tested room larger least len w small large false true false p q r h same = inr refl
tested room larger least len w small large false false false p q r h same = same

raw_roomy : (r : Raw) (s : Size) (room larger : ℕ) (rest : List ℕ) → room ≤ larger → SameOrLong (raw_at r s room rest) (raw_at r s larger rest)
raw_roomy r s room larger rest h =
    let least = 1 + width s + (number_in s rest + extra r) in
    let v = whole (raw_value r (take (number_in s rest + extra r) (drop (width s) rest))) least in
    tested room larger least (1 + length rest) least v v (ltb room least) (ltb (1 + length rest) least) (ltb larger least) refl refl refl h (inr refl)

many_roomy : (read : ℕ → ℕ → List ℕ → Reading Trees) → RoomyItems read → (m : Many) (s : Size) (room larger : ℕ) (rest : List ℕ) → room ≤ larger
    → SameOrLong (many_at read m s room rest) (many_at read m s larger rest)
many_roomy read law m s room larger rest h =
    let head = 1 + width s in
    let n = values m (number_in s rest) in
    let small = read n (room - head) (drop (width s) rest) in
    let large = read n (larger - head) (drop (width s) rest) in
    let inner = law n (room - head) (larger - head) (drop (width s) rest) (omega (arith, h)) in
    let same = behind head (map_reading (many_value m) small) (map_reading (many_value m) large) (mapped (many_value m) small large inner) in
    tested room larger (head + n) (length rest) (width s) (after head (map_reading (many_value m) small)) (after head (map_reading (many_value m) large))
    (ltb room (head + n)) (ltb (length rest) (width s)) (ltb larger (head + n)) refl refl refl h same

by_form : (i : Inside) → RoomyInside i → (f : Form) (room larger : ℕ) (rest : List ℕ) → room ≤ larger → SameOrLong (read_by i f room rest) (read_by i f larger rest)
by_form i law unused room larger rest h = inr refl
by_form i law (alone t) room larger rest h = inr refl
by_form i law (raw r s) room larger rest h = raw_roomy r s room larger rest h
by_form none law (many m s) room larger rest h = inr refl
by_form (some read) law (many m s) room larger rest h = many_roomy read law m s room larger rest h

with_inside : (i : Inside) → RoomyInside i → Roomy (read_with i)
with_inside i law room larger [] h = inr refl
with_inside i law room larger (b ∷ rest) h = by_form i law (form b) room larger rest h

items_roomy : (read : ℕ → List ℕ → Reading Tree) → Roomy read → RoomyItems (items_at read)
unfolding items_at
items_roomy read law zero room larger bytes h = inr refl
items_roomy read law (suc n) room larger bytes h =
    chained (read (room - n) bytes) (read (larger - n) bytes)
    (λ t k. map_reading (one t) (items_at read n (room - k) (drop k bytes))) (λ t k. map_reading (one t) (items_at read n (larger - k) (drop k bytes)))
    (law (room - n) (larger - n) bytes (omega (arith, h)))
    (λ t k. mapped (one t) (items_at read n (room - k) (drop k bytes)) (items_at read n (larger - k) (drop k bytes))
    (items_roomy read law n (room - k) (larger - k) (drop k bytes) (omega (arith, h))))

pub roomy : (depth : ℕ) → Roomy (value_at depth)
unfolding value_at
roomy zero = with_inside none tt
roomy (suc depth) = with_inside (some (items_at (value_at depth))) (items_roomy (value_at depth) (roomy depth))

-- another flaw than that stays
pub bad_stays : (depth room larger : ℕ) (bytes : List ℕ) (n : ℕ) → room ≤ larger → value_at depth room bytes ≡ flawed bad n → value_at depth larger bytes ≡ flawed bad n
bad_stays depth room larger bytes n h e =
    ⊎_elim (λ p. let c : flawed bad n ≡ flawed too_long p.0 = sym e ∙ p.1 in absurd (bad_apart n p.0 c)) (λ same. same ∙ e) (roomy depth room larger bytes h)
  where
    bad_apart : (n k : ℕ) → ◌≡◌ {A = Reading Tree} (flawed bad n) (flawed too_long k) → ⊥
    bad_apart n k c = cc

pub deep_stays : (depth room larger : ℕ) (bytes : List ℕ) (n : ℕ) → room ≤ larger → value_at depth room bytes ≡ flawed too_deep n → value_at depth larger bytes ≡ flawed too_deep n
deep_stays depth room larger bytes n h e =
    ⊎_elim (λ p. let c : flawed too_deep n ≡ flawed too_long p.0 = sym e ∙ p.1 in absurd (deep_apart n p.0 c)) (λ same. same ∙ e) (roomy depth room larger bytes h)
  where
    deep_apart : (n k : ℕ) → ◌≡◌ {A = Reading Tree} (flawed too_deep n) (flawed too_long k) → ⊥
    deep_apart n k c = cc
