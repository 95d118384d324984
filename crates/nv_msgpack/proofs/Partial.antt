-- A reading wants more exactly where bytes can follow that make a spelling within the bounds.
use Rattle.std.proofs.Common.{◌≡◌, ◌⊎◌, ℕ, ◌+◌, ◌-◌, ◌<◌, ◌≤◌, zero, suc, List, [], ◌∷◌, ◌++◌, length, take, drop, refl, sym, ap, ◌∙◌, arith, length-append, cond, ltb, Bool, true, false, inl, inr, ⊎_elim}
use Rattle.std.proofs.Math.ListN.{replicate}
use Rattle.std.proofs.lemmas.List.{append_assoc, take-append-drop, length-drop, length-take-le, length-replicate}
use Rattle.std.proofs.lemmas.Bool.{ltb-true, ltb-false}
use Rattle.nv_value.specs.Content.{Tree, nil, Trees, no_more, one, count}
use Rattle.nv_msgpack.specs.Spelling.{Size, Raw, Many, Form, unused, alone, raw, many, form, middle, width, number_in, extra, raw_value, values, many_value, SpelledBy, SpelledWith, Each, SpellsIn}
use Rattle.nv_msgpack.specs.Reading.{Reading, whole, more, flawed, too_long, Inside, none, some, map_reading, after, items_at, read_by, read_with, value_at}
use Rattle.nv_msgpack.proofs.Lengths.{number_in-take, number_in-zeros}
use Rattle.nv_msgpack.proofs.Readings.{mapped-is_more, after-is_more, chained-is_more}
use Rattle.nv_msgpack.proofs.Sound.{IsSound, sound}

-- bytes that make the bytes a spelling of something by S, within the room
pub record Grown (S : Tree → List ℕ → Type 0) (room : ℕ) (bytes : List ℕ) : Type 0 where
  pub tail : List ℕ
  pub tree : Tree
  pub some_tail : 0 < length tail
  pub fits : length bytes + length tail ≤ room
  pub spelled : S tree (bytes ++ tail)

-- the same of n values
pub record GrownItems (I : Trees → List ℕ → Type 0) (n room : ℕ) (bytes : List ℕ) : Type 0 where
  pub tail : List ℕ
  pub trees : Trees
  pub some_tail : 0 < length tail
  pub fits : length bytes + length tail ≤ room
  pub counted : count trees ≡ n
  pub spelled : I trees (bytes ++ tail)

abbrev pub Grows : (Tree → List ℕ → Type 0) → (ℕ → List ℕ → Reading Tree) → Type 0
Grows S read = (room : ℕ) (bytes : List ℕ) → 0 < room → read room bytes ≡ more → Grown S room bytes

abbrev pub GrowItems : (Trees → List ℕ → Type 0) → (ℕ → ℕ → List ℕ → Reading Trees) → Type 0
GrowItems I read = (n room : ℕ) (bytes : List ℕ) → n ≤ room → read n room bytes ≡ more → GrownItems I n room bytes

-- n nils, a byte each
abbrev nils : ℕ → Trees
nils zero = no_more
nils (suc n) = one nil (nils n)

count-nils : (n : ℕ) → count (nils n) ≡ n
count-nils zero = refl
count-nils (suc n) = ap (λ (x : ℕ). suc x) (count-nils n)

abbrev pub SpellsNils : (Trees → List ℕ → Type 0) → Type 0
SpellsNils I = (n : ℕ) → I (nils n) (replicate n 0xc0)

abbrev pub GrowsInside : (Trees → List ℕ → Type 0) → Inside → Type 0
GrowsInside I none = Unit {0}
GrowsInside I (some read) = SpellsNils I × GrowItems I read

spells_nil : (I : Trees → List ℕ → Type 0) → SpelledWith I nil (0xc0 ∷ [])
unfolding form middle
spells_nil I = (refl, refl)

spells_nils : (S : Tree → List ℕ → Type 0) → S nil (0xc0 ∷ []) → SpellsNils (Each S)
spells_nils S h zero = refl
spells_nils S h (suc n) = (0xc0 ∷ [], replicate n 0xc0, h, refl, spells_nils S h n)

pub wants : {A : Type 0} (room least len w : ℕ) (v : Reading A) (a b : Bool) → ltb room least ≡ a → ltb len w ≡ b
    → cond a (flawed too_long 0) (cond b more v) ≡ more → (least ≤ room) × ((len < w) ⊎ ((w ≤ len) × (v ≡ more)))
wants room least len w v true b p q e = cc
wants room least len w v false true p q e = (ltb-false room least p, inl (ltb-true len w q))
wants room least len w v false false p q e = (ltb-false room least p, inr (ltb-false len w q, e))

raw_grows : (I : Trees → List ℕ → Type 0) (r : Raw) (s : Size) (room : ℕ) (rest : List ℕ) → 1 + width s + (number_in s rest + extra r) ≤ room → 1 + length rest < 1 + width s + (number_in s rest + extra r)
    → (tail : List ℕ) × (t : Tree) × (0 < length tail) × (suc (length rest) + length tail ≤ room) × SpelledBy I (raw r s) t (rest ++ tail)
raw_grows I r s room rest h l =
    let n = number_in s rest in
    let missing = width s + (n + extra r) - length rest in
    let tail = replicate missing 0 in
    let tail_long : length tail ≡ missing = length-replicate {A = ℕ} missing 0 in
    let full = rest ++ tail in
    let full_long : length full ≡ width s + (n + extra r) = length-append rest tail ∙ omega arith in
    let size = take (width s) full in
    let size_long : length size ≡ width s = length-take-le (width s) full (omega arith) in
    let bytes = drop (width s) full in
    let same : number_in s size ≡ n = number_in-take s (width s) full (omega arith) (omega arith) ∙ number_in-zeros s missing rest in
    let bytes_long : length bytes ≡ n + extra r = length-drop (width s) full ∙ omega arith in (
      tail,
      raw_value r bytes,
      omega arith,
      omega arith,
      (size, bytes, size_long, bytes_long ∙ ap (λ (x : ℕ). x + extra r) (sym same), sym (take-append-drop (width s) full), refl),
    )

-- a list or map whose length has not come is filled with nils
many_grows_length : (I : Trees → List ℕ → Type 0) → SpellsNils I → (m : Many) (s : Size) (room : ℕ) (rest : List ℕ) → 1 + width s + values m (number_in s rest) ≤ room → length rest < width s
    → (tail : List ℕ) × (t : Tree) × (0 < length tail) × (suc (length rest) + length tail ≤ room) × SpelledBy I (many m s) t (rest ++ tail)
many_grows_length I fills m s room rest h l =
    let n = values m (number_in s rest) in
    let missing = width s - length rest in
    let zeros = replicate missing 0 in
    let zeros_long : length zeros ≡ missing = length-replicate {A = ℕ} missing 0 in
    let body = replicate n 0xc0 in
    let body_long : length body ≡ n = length-replicate {A = ℕ} n 0xc0 in
    let size = rest ++ zeros in
    let size_long : length size ≡ width s = length-append rest zeros ∙ omega arith in
    let tail_long : length (zeros ++ body) ≡ missing + n = length-append zeros body ∙ omega arith in (
      zeros ++ body,
      many_value m (nils n),
      omega arith,
      omega arith,
      (size, body, nils n, size_long, count-nils n ∙ ap (λ (x : ℕ). values m x) (sym (number_in-zeros s missing rest)), sym (append_assoc rest zeros body), refl, fills n),
    )

many_grows_inside : (I : Trees → List ℕ → Type 0) (m : Many) (s : Size) (room : ℕ) (rest : List ℕ) → 1 + width s + values m (number_in s rest) ≤ room → width s ≤ length rest
    → GrownItems I (values m (number_in s rest)) (room - (1 + width s)) (drop (width s) rest)
    → (tail : List ℕ) × (t : Tree) × (0 < length tail) × (suc (length rest) + length tail ≤ room) × SpelledBy I (many m s) t (rest ++ tail)
many_grows_inside I m s room rest h l g =
    let size = take (width s) rest in
    let size_long : length size ≡ width s = length-take-le (width s) rest l in
    let same : number_in s size ≡ number_in s rest = number_in-take s (width s) rest (omega arith) l in
    let behind = drop (width s) rest in
    let behind_long : length behind ≡ length rest - width s = length-drop (width s) rest in
    let f = g.fits in
    let split : rest ++ g.tail ≡ size ++ (behind ++ g.tail) = ap (λ (x : List ℕ). x ++ g.tail) (sym (take-append-drop (width s) rest)) ∙ append_assoc size behind g.tail in (
      g.tail,
      many_value m g.trees,
      g.some_tail,
      omega arith,
      (size, behind ++ g.tail, g.trees, size_long, g.counted ∙ ap (λ (x : ℕ). values m x) (sym same), split, refl, g.spelled),
    )

grows_by : (I : Trees → List ℕ → Type 0) (i : Inside) → GrowsInside I i → (f : Form) (room : ℕ) (rest : List ℕ) → read_by i f room rest ≡ more
    → (tail : List ℕ) × (t : Tree) × (0 < length tail) × (suc (length rest) + length tail ≤ room) × SpelledBy I f t (rest ++ tail)
grows_by I i law unused room rest e = cc
grows_by I i law (alone u) room rest e = cc
grows_by I i law (raw r s) room rest e =
    let least = 1 + width s + (number_in s rest + extra r) in
    let w = wants room least (1 + length rest) least (whole (raw_value r (take (number_in s rest + extra r) (drop (width s) rest))) least) (ltb room least) (ltb (1 + length rest) least) refl refl e in
    ⊎_elim (λ l. raw_grows I r s room rest w.0 l) (λ p. let q = p.1 in cc) w.1
grows_by I none law (many m s) room rest e = cc
grows_by I (some read) law (many m s) room rest e =
    let n = values m (number_in s rest) in
    let inner = read n (room - (1 + width s)) (drop (width s) rest) in
    let w = wants room (1 + width s + n) (length rest) (width s) (after (1 + width s) (map_reading (many_value m) inner)) (ltb room (1 + width s + n)) (ltb (length rest) (width s)) refl refl e in
    let fit = w.0 in
    ⊎_elim (λ l. many_grows_length I law.0 m s room rest w.0 l)
    (λ p. many_grows_inside I m s room rest w.0 p.0
    (law.1 n (room - (1 + width s)) (drop (width s) rest) (omega arith) (mapped-is_more (many_value m) inner (after-is_more (1 + width s) (map_reading (many_value m) inner) p.1))))
    w.1

grows_with : (I : Trees → List ℕ → Type 0) (i : Inside) → GrowsInside I i → Grows (SpelledWith I) (read_with i)
grows_with I i law room [] h e = record { tail = 0xc0 ∷ []; tree = nil; some_tail = omega arith; fits = omega arith; spelled = spells_nil I }
grows_with I i law room (b ∷ rest) h e =
    let g = grows_by I i law (form b) room rest e in
    record { tail = g.0; tree = g.1; some_tail = g.2; fits = g.3; spelled = g.4 }

grow_items : (S : Tree → List ℕ → Type 0) (read : ℕ → List ℕ → Reading Tree) → IsSound S read → S nil (0xc0 ∷ []) → Grows S read → GrowItems (Each S) (items_at read)
unfolding items_at
grow_items S read is_sound fill law zero room bytes h e = cc
grow_items S read is_sound fill law (suc n) room bytes h e =
    let next = λ (t : Tree) (k : ℕ). map_reading (one t) (items_at read n (room - k) (drop k bytes)) in
    ⊎_elim
    (λ first.
    let g = law (room - n) bytes (omega arith) first in
    let owed = replicate n 0xc0 in
    let owed_long : length owed ≡ n = length-replicate {A = ℕ} n 0xc0 in
    let long : length (g.tail ++ owed) ≡ length g.tail + n = length-append g.tail owed ∙ omega arith in
    let f = g.fits in
    let p = g.some_tail in
    let result : GrownItems (Each S) (suc n) room bytes =
    record {
      tail = g.tail ++ owed;
      trees = one g.tree (nils n);
      some_tail = omega arith;
      fits = omega arith;
      counted = ap (λ (x : ℕ). suc x) (count-nils n);
      spelled = (bytes ++ g.tail, owed, g.spelled, sym (append_assoc bytes g.tail owed), spells_nils S fill n);
    } in
    result)
    (λ other.
    let t = other.0 in
    let j = other.1 in
    let first = is_sound (room - n) bytes t j (omega arith) other.2 in
    let f1 = first.within in
    let f2 = first.fits in
    let g = grow_items S read is_sound fill law n (room - j) (drop j bytes) (omega arith) (mapped-is_more (one t) (items_at read n (room - j) (drop j bytes)) other.3) in
    let f = g.fits in
    let long : length (drop j bytes) ≡ length bytes - j = length-drop j bytes in
    let split : bytes ++ g.tail ≡ take j bytes ++ (drop j bytes ++ g.tail) = ap (λ (x : List ℕ). x ++ g.tail) (sym (take-append-drop j bytes)) ∙ append_assoc (take j bytes) (drop j bytes) g.tail in
    let result : GrownItems (Each S) (suc n) room bytes =
    record {
      tail = g.tail;
      trees = one t g.trees;
      some_tail = g.some_tail;
      fits = omega arith;
      counted = ap (λ (x : ℕ). suc x) g.counted;
      spelled = (take j bytes, drop j bytes ++ g.tail, first.spelled, split, g.spelled);
    } in
    result)
    (chained-is_more (read (room - n) bytes) next e)

spells_nil-in : (depth : ℕ) → SpellsIn depth nil (0xc0 ∷ [])
spells_nil-in zero = spells_nil (λ ts body. ⊥)
spells_nil-in (suc depth) = spells_nil (Each (SpellsIn depth))

-- where a reading wants more, bytes can follow
pub grows : (depth : ℕ) → Grows (SpellsIn depth) (value_at depth)
unfolding value_at
grows zero = grows_with (λ ts body. ⊥) none tt
grows (suc depth) = grows_with (Each (SpellsIn depth)) (some (items_at (value_at depth)))
    (spells_nils (SpellsIn depth) (spells_nil-in depth), grow_items (SpellsIn depth) (value_at depth) (sound depth) (spells_nil-in depth) (grows depth))
