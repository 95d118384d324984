-- What is spelled has a spelling, and none has fewer bytes than the shortest.
use Rattle.std.proofs.Common.{◌≡◌, ℕ, ℤ, pos, negsuc, zero, suc, ◌+◌, ◌-◌, ◌*◌, ◌/◌, ◌^◌, ◌<◌, ◌≤◌, ◌⊎◌, inl, inr, List, [], ◌∷◌, ◌++◌, length, sym, ap, ◌∙◌, subst, arith, cond, ltb, true, false, length-append}
use Rattle.std.specs.Int.{w8, cast_unsigned}
use Rattle.std.specs.Prelude.{FitsSigned, ◌-ℤ◌, ◌==◌, ◌||◌}
use Rattle.std.proofs.lemmas.Bool.{cases_lt, false≢true}
use Rattle.std.proofs.lemmas.Bool.Decides.{nat_tests, eqb_tells}
use Rattle.nv_value.specs.Content.{Tree, Trees, nil, truth, integer, big, text, bin, list, pairs, ext, opaque, no_more, one, count}
use Rattle.nv_msgpack.specs.Spelling.{Size, fixed, field, Raw, of_text, of_bin, of_ext, unsigned, signed, float, Many, of_list, of_map, Form, unused, alone, raw, many, form, big_endian, width, number_in, extra, raw_value, values, many_value, two's_complement, unsigned_number, SpelledBy, SpelledWith, Each, SpellsIn}
use Rattle.nv_msgpack.specs.Shortest.{unsigned_spelling, negative_spelling, integer_spelling, text_head, bin_head, ext_head, float_head, list_head, map_head, shortest, all_shortest, depth, HasSpelling, HaveSpellings, IsInRange, AreInRange, SpelledHasSpelling, ShortestIsLeast}
use Rattle.nv_msgpack.proofs.Spelled.{spelled, below_zero}
use Rattle.nv_msgpack.proofs.Table.{small, sized, counted, listed, is_listed, Bytes, bytes_of, front_bytes, back_bytes, big_endian-below}

-- The value can be spelled, and in no more than so many bytes.
record IsGood (t : Tree) (most : ℕ) : Type 0 where
  has : HasSpelling t
  ranged : IsInRange t
  least : length (shortest t) ≤ most

record AreGood (ts : Trees) (most : ℕ) : Type 0 where
  has : HaveSpellings ts
  ranged : AreInRange ts
  least : length (all_shortest ts) ≤ most

-- The heads are no longer than any of their forms.
unsigned_1 : (n : ℕ) → n < 0x80 → length (unsigned_spelling n) ≤ 1
unfolding unsigned_spelling
unsigned_1 n h = grind (arith, nat_tests)

unsigned_2 : (n : ℕ) → n < 0x100 → length (unsigned_spelling n) ≤ 2
unfolding unsigned_spelling
unsigned_2 n h = grind (arith, nat_tests)

unsigned_3 : (n : ℕ) → n < 0x10000 → length (unsigned_spelling n) ≤ 3
unfolding unsigned_spelling
unsigned_3 n h = grind (arith, nat_tests)

unsigned_5 : (n : ℕ) → n < 0x100000000 → length (unsigned_spelling n) ≤ 5
unfolding unsigned_spelling
unsigned_5 n h = grind (arith, nat_tests)

unsigned_9 : (n : ℕ) → length (unsigned_spelling n) ≤ 9
unfolding unsigned_spelling
unsigned_9 n = grind (arith, nat_tests)

negative_1 : (n : ℕ) → n < 0x20 → length (negative_spelling n) ≤ 1
unfolding negative_spelling
negative_1 n h = grind (arith, nat_tests)

negative_2 : (n : ℕ) → n < 0x80 → length (negative_spelling n) ≤ 2
unfolding negative_spelling
negative_2 n h = grind (arith, nat_tests)

negative_3 : (n : ℕ) → n < 0x8000 → length (negative_spelling n) ≤ 3
unfolding negative_spelling
negative_3 n h = grind (arith, nat_tests)

negative_5 : (n : ℕ) → n < 0x80000000 → length (negative_spelling n) ≤ 5
unfolding negative_spelling
negative_5 n h = grind (arith, nat_tests)

negative_9 : (n : ℕ) → length (negative_spelling n) ≤ 9
unfolding negative_spelling
negative_9 n = grind (arith, nat_tests)

text_1 : (n : ℕ) → n < 0x20 → length (text_head n) ≤ 1
unfolding text_head
text_1 n h = grind (arith, nat_tests)

text_2 : (n : ℕ) → n < 0x100 → length (text_head n) ≤ 2
unfolding text_head
text_2 n h = grind (arith, nat_tests)

text_3 : (n : ℕ) → n < 0x10000 → length (text_head n) ≤ 3
unfolding text_head
text_3 n h = grind (arith, nat_tests)

text_5 : (n : ℕ) → length (text_head n) ≤ 5
unfolding text_head
text_5 n = grind (arith, nat_tests)

bin_2 : (n : ℕ) → n < 0x100 → length (bin_head n) ≤ 2
unfolding bin_head
bin_2 n h = grind (arith, nat_tests)

bin_3 : (n : ℕ) → n < 0x10000 → length (bin_head n) ≤ 3
unfolding bin_head
bin_3 n h = grind (arith, nat_tests)

bin_5 : (n : ℕ) → length (bin_head n) ≤ 5
unfolding bin_head
bin_5 n = grind (arith, nat_tests)

ext_1 : (n : ℕ) → (n == 1 || n == 2 || n == 4 || n == 8 || n == 16) ≡ true → (n < 2 ^ 32) × (length (ext_head n) ≤ 1)
unfolding ext_head
ext_1 n h = (grind (arith, nat_tests), grind (arith, nat_tests))

ext_2 : (n : ℕ) → n < 0x100 → length (ext_head n) ≤ 2
unfolding ext_head
ext_2 n h = grind (arith, nat_tests)

ext_3 : (n : ℕ) → n < 0x10000 → length (ext_head n) ≤ 3
unfolding ext_head
ext_3 n h = grind (arith, nat_tests)

ext_5 : (n : ℕ) → length (ext_head n) ≤ 5
unfolding ext_head
ext_5 n = grind (arith, nat_tests)

float_1 : (n : ℕ) → length (float_head n) ≤ 1
unfolding float_head
float_1 n = grind (arith, nat_tests)

list_1 : (n : ℕ) → n < 0x10 → length (list_head n) ≤ 1
unfolding list_head
list_1 n h = grind (arith, nat_tests)

list_3 : (n : ℕ) → n < 0x10000 → length (list_head n) ≤ 3
unfolding list_head
list_3 n h = grind (arith, nat_tests)

list_5 : (n : ℕ) → length (list_head n) ≤ 5
unfolding list_head
list_5 n = grind (arith, nat_tests)

map_1 : (n : ℕ) → n < 0x10 → length (map_head n) ≤ 1
unfolding map_head
map_1 n h = grind (arith, nat_tests)

map_3 : (n : ℕ) → n < 0x10000 → length (map_head n) ≤ 3
unfolding map_head
map_3 n h = grind (arith, nat_tests)

map_5 : (n : ℕ) → length (map_head n) ≤ 5
unfolding map_head
map_5 n = grind (arith, nat_tests)

-- A test that a number is one of a few.
of_three : (w : ℕ) → (w == 1 || w == 2 || w == 4) ≡ true → (w ≡ 1) ⊎ ((w ≡ 2) ⊎ (w ≡ 4))
of_three w e = elim (eqb_tells w 1) [
  | inl a ↦ inl a.1
  | inr a ↦ elim (eqb_tells w 2) [
    | inl b ↦ inr (inl b.1)
    | inr b ↦ elim (eqb_tells w 4) [
      | inl c ↦ inr (inr c.1)
      | inr c ↦ absurd (grind (arith, nat_tests))
    ]
  ]
]

of_two : (a b w : ℕ) → (w == a || w == b) ≡ true → (w ≡ a) ⊎ (w ≡ b)
of_two a b w e = elim (eqb_tells w a) [
  | inl i ↦ inl i.1
  | inr i ↦ elim (eqb_tells w b) [
    | inl j ↦ inr j.1
    | inr j ↦ absurd (grind (arith, nat_tests))
  ]
]

of_four : (w : ℕ) → (w == 1 || w == 2 || w == 4 || w == 8) ≡ true → (w ≡ 1) ⊎ ((w ≡ 2) ⊎ ((w ≡ 4) ⊎ (w ≡ 8)))
of_four w e = elim (eqb_tells w 1) [
  | inl a ↦ inl a.1
  | inr a ↦ elim (eqb_tells w 2) [
    | inl b ↦ inr (inl b.1)
    | inr b ↦ elim (eqb_tells w 4) [
      | inl c ↦ inr (inr (inl c.1))
      | inr c ↦ elim (eqb_tells w 8) [
        | inl d ↦ inr (inr (inr d.1))
        | inr d ↦ absurd (grind (arith, nat_tests))
      ]
    ]
  ]
]

-- A number of w bytes is below the power of that w.
bounded : (n w k : ℕ) → n < 256 ^ w → w ≡ k → n < 256 ^ k
bounded n w k h e = subst (λ (x : ℕ). n < 256 ^ x) e h

-- A length of one, two or four bytes, against the shortest head for it.
in_three : (head : ℕ → List ℕ) → ((n : ℕ) → n < 0x100 → length (head n) ≤ 2) → ((n : ℕ) → n < 0x10000 → length (head n) ≤ 3) → ((n : ℕ) → length (head n) ≤ 5)
    → (w n : ℕ) → (w == 1 || w == 2 || w == 4) ≡ true → n < 256 ^ w → (n < 2 ^ 32) × (length (head n) ≤ 1 + w)
in_three head two three five w n e h = elim (of_three w e) [
  | inl a ↦ (let b : n < 256 ^ 1 = bounded n w 1 h a in (omega arith, omega (arith, two n (omega arith))))
  | inr x ↦ elim x [
    | inl a ↦ (let b : n < 256 ^ 2 = bounded n w 2 h a in (omega arith, omega (arith, three n (omega arith))))
    | inr a ↦ (let b : n < 256 ^ 4 = bounded n w 4 h a in (omega arith, omega (arith, five n)))
  ]
]

text_least : (s : Size) (size : List ℕ) → sized of_text s ≡ true → Bytes size → (number_in s size < 2 ^ 32) × (length (text_head (number_in s size)) ≤ 1 + width s)
text_least (fixed n) size e b = let h : n < 0x20 = grind (arith, nat_tests) in (omega arith, omega (arith, text_1 n h))
text_least (field w) size e b = in_three text_head text_2 text_3 text_5 w (big_endian w size) e (big_endian-below w size b)

bin_least : (s : Size) (size : List ℕ) → sized of_bin s ≡ true → Bytes size → (number_in s size < 2 ^ 32) × (length (bin_head (number_in s size)) ≤ 1 + width s)
bin_least (fixed n) size e b = absurd (false≢true e)
bin_least (field w) size e b = in_three bin_head bin_2 bin_3 bin_5 w (big_endian w size) e (big_endian-below w size b)

ext_least : (s : Size) (size : List ℕ) → sized of_ext s ≡ true → Bytes size → (number_in s size < 2 ^ 32) × (length (ext_head (number_in s size)) ≤ 1 + width s)
ext_least (fixed n) size e b = ext_1 n e
ext_least (field w) size e b = in_three ext_head ext_2 ext_3 ext_5 w (big_endian w size) e (big_endian-below w size b)

in_two : (head : ℕ → List ℕ) → ((n : ℕ) → n < 0x10 → length (head n) ≤ 1) → ((n : ℕ) → n < 0x10000 → length (head n) ≤ 3) → ((n : ℕ) → length (head n) ≤ 5)
    → (s : Size) (size : List ℕ) → counted s ≡ true → Bytes size → (number_in s size < 2 ^ 32) × (length (head (number_in s size)) ≤ 1 + width s)
in_two head itself three five (fixed n) size e b = let h : n < 0x10 = grind (arith, nat_tests) in (omega arith, omega (arith, itself n h))
in_two head itself three five (field w) size e b =
    let n = big_endian w size in
    let h : n < 256 ^ w = big_endian-below w size b in
    elim (of_two 2 4 w e) [
      | inl a ↦ (let c : n < 256 ^ 2 = bounded n w 2 h a in (omega arith, omega (arith, three n (omega arith))))
      | inr a ↦ (let c : n < 256 ^ 4 = bounded n w 4 h a in (omega arith, omega (arith, five n)))
    ]

-- A number of w bytes.
unsigned_least : (n w : ℕ) → (w == 1 || w == 2 || w == 4 || w == 8) ≡ true → n < 256 ^ w → (n < 2 ^ 64) × (length (unsigned_spelling n) ≤ 1 + w)
unsigned_least n w e h = elim (of_four w e) [
  | inl a ↦ (let b : n < 256 ^ 1 = bounded n w 1 h a in (omega arith, omega (arith, unsigned_2 n (omega arith))))
  | inr x ↦ elim x [
    | inl a ↦ (let b : n < 256 ^ 2 = bounded n w 2 h a in (omega arith, omega (arith, unsigned_3 n (omega arith))))
    | inr y ↦ elim y [
      | inl a ↦ (let b : n < 256 ^ 4 = bounded n w 4 h a in (omega arith, omega (arith, unsigned_5 n (omega arith))))
      | inr a ↦ (let b : n < 256 ^ 8 = bounded n w 8 h a in (omega arith, omega (arith, unsigned_9 n)))
    ]
  ]
]

negative_least : (n w : ℕ) → (w == 1 || w == 2 || w == 4 || w == 8) ≡ true → 2 * n < 256 ^ w → (n < 2 ^ 63) × (length (negative_spelling n) ≤ 1 + w)
negative_least n w e h = elim (of_four w e) [
  | inl a ↦ (let b : 2 * n < 256 ^ 1 = bounded (2 * n) w 1 h a in (omega arith, omega (arith, negative_2 n (omega arith))))
  | inr x ↦ elim x [
    | inl a ↦ (let b : 2 * n < 256 ^ 2 = bounded (2 * n) w 2 h a in (omega arith, omega (arith, negative_3 n (omega arith))))
    | inr y ↦ elim y [
      | inl a ↦ (let b : 2 * n < 256 ^ 4 = bounded (2 * n) w 4 h a in (omega arith, omega (arith, negative_5 n (omega arith))))
      | inr a ↦ (let b : 2 * n < 256 ^ 8 = bounded (2 * n) w 8 h a in (omega arith, omega (arith, negative_9 n)))
    ]
  ]
]

unsigned_good : (n most : ℕ) → n < 2 ^ 64 → length (unsigned_spelling n) ≤ most → IsGood (unsigned_number n) most
unsigned_good n most h l = elim (cases_lt n (2 ^ 63)) [
  | inl a ↦ (let e : unsigned_number n ≡ integer (pos n) = grind (arith, nat_tests) in
      subst (λ t. IsGood t most) (sym e) (record { has = tt; ranged = record { sfits = a }; least = l }))
  | inr a ↦ (let e : unsigned_number n ≡ big n = grind (arith, nat_tests) in
      subst (λ t. IsGood t most) (sym e) (record { has = a; ranged = h; least = l }))
]

-- Two's complement of a number of w bytes is a number of at least 0, or one below 0.
two's_cases : (w m : ℕ) → m < 256 ^ w → ((2 * m < 256 ^ w) × (two's_complement w m ≡ pos m)) ⊎ ((n : ℕ) × (2 * n < 256 ^ w) × (two's_complement w m ≡ negsuc n))
two's_cases w m h = elim (cases_lt (2 * m) (256 ^ w)) [
  | inl a ↦ (let f : ltb (2 * m) (256 ^ w) ≡ true = grind (arith, nat_tests) in inl (a, ap (λ b. cond b (pos m) (pos m -ℤ pos (256 ^ w))) f))
  | inr a ↦ (let f : ltb (2 * m) (256 ^ w) ≡ false = grind (arith, nat_tests) in
      inr (256 ^ w - suc m, omega arith, ap (λ b. cond b (pos m) (pos m -ℤ pos (256 ^ w))) f ∙ below_zero m (256 ^ w) (256 ^ w - suc m) (omega arith)))
]

signed_good : (w m most : ℕ) → (w == 1 || w == 2 || w == 4 || w == 8) ≡ true → m < 256 ^ w → 1 + w ≤ most → IsGood (integer (two's_complement w m)) most
signed_good w m most e h l = elim (two's_cases w m h) [
  | inl a ↦ (let u = unsigned_least m w e h in let v = negative_least m w e a.0 in
      subst (λ z. IsGood (integer z) most) (sym a.1) (record { has = tt; ranged = record { sfits = v.0 }; least = omega (arith, u.1) }))
  | inr a ↦ (let v = negative_least a.0 w e a.1 in
      subst (λ z. IsGood (integer z) most) (sym a.2) (record { has = tt; ranged = record { sfits = v.0 }; least = omega (arith, v.1) }))
]

type_fits : (m : ℕ) → m < 256 → FitsSigned w8 (two's_complement 1 m)
type_fits m h = elim (two's_cases 1 m (omega arith)) [
  | inl a ↦ subst (λ z. FitsSigned w8 z) (sym a.1) (record { sfits = omega (arith, a.0) })
  | inr a ↦ subst (λ z. FitsSigned w8 z) (sym a.2) (record { sfits = omega (arith, a.1) })
]

-- A value that is its first byte.
small_good : (t : Tree) → small t ≡ true → IsGood t 1
small_good nil e = record { has = tt; ranged = tt; least = omega arith }
small_good (truth b) e = record { has = tt; ranged = tt; least = omega arith }
small_good (integer (pos n)) e = let h : n < 0x80 = grind (arith, nat_tests) in record { has = tt; ranged = record { sfits = omega arith }; least = unsigned_1 n h }
small_good (integer (negsuc n)) e = let h : n < 0x20 = grind (arith, nat_tests) in record { has = tt; ranged = record { sfits = omega arith }; least = negative_1 n h }
small_good (big n) e = absurd (false≢true e)
small_good (text bytes) e = absurd (false≢true e)
small_good (bin bytes) e = absurd (false≢true e)
small_good (list ts) e = absurd (false≢true e)
small_good (pairs ts) e = absurd (false≢true e)
small_good (ext kind bytes) e = absurd (false≢true e)
small_good (opaque bytes) e = absurd (false≢true e)

-- A head and bytes, where the head is short enough.
head_and_bytes : (head bytes : List ℕ) (h most : ℕ) → length head ≤ h → h + length bytes ≤ most → length (head ++ bytes) ≤ most
head_and_bytes head bytes h most l m = omega (arith, length-append head bytes)

raw_good : (r : Raw) (s : Size) (size bytes : List ℕ) → sized r s ≡ true → Bytes size → Bytes bytes → length size ≡ width s → length bytes ≡ number_in s size + extra r → IsGood (raw_value r bytes) (suc (length size + length bytes))
raw_good of_text s size bytes e b c w l =
    let n : number_in s size ≡ length bytes = omega arith in
    let g = subst (λ (k : ℕ). (k < 2 ^ 32) × (length (text_head k) ≤ 1 + width s)) n (text_least s size e b) in
    record { has = g.0; ranged = tt; least = head_and_bytes (text_head (length bytes)) bytes (1 + width s) (suc (length size + length bytes)) g.1 (omega arith) }
raw_good of_bin s size bytes e b c w l =
    let n : number_in s size ≡ length bytes = omega arith in
    let g = subst (λ (k : ℕ). (k < 2 ^ 32) × (length (bin_head k) ≤ 1 + width s)) n (bin_least s size e b) in
    record { has = g.0; ranged = tt; least = head_and_bytes (bin_head (length bytes)) bytes (1 + width s) (suc (length size + length bytes)) g.1 (omega arith) }
raw_good of_ext s size [] e b c w l = absurd (omega arith)
raw_good of_ext s size (k ∷ bytes) e b c w l =
    let n : number_in s size ≡ length bytes = omega arith in
    let g = subst (λ (x : ℕ). (x < 2 ^ 32) × (length (ext_head x) ≤ 1 + width s)) n (ext_least s size e b) in
    let kind = two's_complement 1 (big_endian 1 (k ∷ bytes)) in
    let below : big_endian 1 (k ∷ bytes) < 256 ^ 1 = big_endian-below 1 (k ∷ bytes) c in
    record {
      has = g.0;
      ranged = type_fits (big_endian 1 (k ∷ bytes)) (omega arith);
      least = head_and_bytes (ext_head (length bytes)) (cast_unsigned w8 kind ∷ bytes) (1 + width s) (suc (length size + suc (length bytes))) g.1 (omega arith);
    }
raw_good unsigned (fixed n) size bytes e b c w l =
    let long : length bytes ≡ n = omega arith in
    let f = subst (λ (k : ℕ). (k == 1 || k == 2 || k == 4 || k == 8) ≡ true) (sym long) e in
    let g = unsigned_least (big_endian (length bytes) bytes) (length bytes) f (big_endian-below (length bytes) bytes c) in
    unsigned_good (big_endian (length bytes) bytes) (suc (length size + length bytes)) g.0 (omega (arith, g.1))
raw_good unsigned (field n) size bytes e b c w l = absurd (false≢true e)
raw_good signed (fixed n) size bytes e b c w l =
    let long : length bytes ≡ n = omega arith in
    let f = subst (λ (k : ℕ). (k == 1 || k == 2 || k == 4 || k == 8) ≡ true) (sym long) e in
    signed_good (length bytes) (big_endian (length bytes) bytes) (suc (length size + length bytes)) f (big_endian-below (length bytes) bytes c) (omega arith)
raw_good signed (field n) size bytes e b c w l = absurd (false≢true e)
raw_good float (fixed n) size bytes e b c w l =
    let long : length bytes ≡ n = omega arith in
    let f = subst (λ (k : ℕ). (k == 4 || k == 8) ≡ true) (sym long) e in
    record { has = of_two 4 8 (length bytes) f; ranged = tt; least = head_and_bytes (float_head (length bytes)) bytes 1 (suc (length size + length bytes)) (float_1 (length bytes)) (omega arith) }
raw_good float (field n) size bytes e b c w l = absurd (false≢true e)

many_good : (m : Many) (s : Size) (size body : List ℕ) (ts : Trees) → counted s ≡ true → Bytes size → length size ≡ width s → count ts ≡ values m (number_in s size) → AreGood ts (length body)
    → IsGood (many_value m ts) (suc (length size + length body))
many_good of_list s size body ts e b w l g =
    let h = subst (λ (k : ℕ). (k < 2 ^ 32) × (length (list_head k) ≤ 1 + width s)) (sym l) (in_two list_head list_1 list_3 list_5 s size e b) in
    record {
      has = (h.0, g.has);
      ranged = g.ranged;
      least = head_and_bytes (list_head (count ts)) (all_shortest ts) (1 + width s) (suc (length size + length body)) h.1 (omega (arith, g.least));
    }
many_good of_map s size body ts e b w l g =
    let half : number_in s size ≡ count ts / 2 = omega arith in
    let h = subst (λ (k : ℕ). (k < 2 ^ 32) × (length (map_head k) ≤ 1 + width s)) half (in_two map_head map_1 map_3 map_5 s size e b) in
    record {
      has = (omega (arith, h.0), g.has);
      ranged = (omega arith, g.ranged);
      least = head_and_bytes (map_head (count ts / 2)) (all_shortest ts) (1 + width s) (suc (length size + length body)) h.1 (omega (arith, g.least));
    }

-- What holds of the values inside holds of the value.
abbrev MakesGood : (Trees → List ℕ → Type 0) → Type 0
MakesGood inside = (ts : Trees) (body : List ℕ) → Bytes body → inside ts body → AreGood ts (length body)

good_by : (inside : Trees → List ℕ → Type 0) → MakesGood inside → (f : Form) (t : Tree) (rest : List ℕ) → listed f ≡ true → Bytes rest → SpelledBy inside f t rest → IsGood t (suc (length rest))
good_by inside law unused t rest e b h = absurd h
good_by inside law (alone u) t rest e b h =
    let g = subst (λ x. IsGood x 1) (sym h.0) (small_good u e) in
    record { has = g.has; ranged = g.ranged; least = omega (arith, g.least) }
good_by inside law (raw r s) t rest e b h =
    let c = subst Bytes h.4 b in
    let g = subst (λ x. IsGood x (suc (length h.0 + length h.1))) (sym h.5) (raw_good r s h.0 h.1 e (front_bytes h.0 h.1 c) (back_bytes h.0 h.1 c) h.2 h.3) in
    let long : length rest ≡ length h.0 + length h.1 = ap (length {A = ℕ}) h.4 ∙ length-append h.0 h.1 in
    record { has = g.has; ranged = g.ranged; least = omega (arith, g.least, long) }
good_by inside law (many m s) t rest e b h =
    let c = subst Bytes h.5 b in
    let i = law h.2 h.1 (back_bytes h.0 h.1 c) h.7 in
    let g = subst (λ x. IsGood x (suc (length h.0 + length h.1))) (sym h.6) (many_good m s h.0 h.1 h.2 e (front_bytes h.0 h.1 c) h.3 h.4 i) in
    let long : length rest ≡ length h.0 + length h.1 = ap (length {A = ℕ}) h.5 ∙ length-append h.0 h.1 in
    record { has = g.has; ranged = g.ranged; least = omega (arith, g.least, long) }

good_with : (inside : Trees → List ℕ → Type 0) → MakesGood inside → (t : Tree) (bytes : List ℕ) → Bytes bytes → SpelledWith inside t bytes → IsGood t (length bytes)
good_with inside law t [] b h = absurd h
good_with inside law t (x ∷ rest) b h = good_by inside law (form x) t rest (is_listed x) b.1 h

each_good : (S : Tree → List ℕ → Type 0) → ((t : Tree) (bytes : List ℕ) → Bytes bytes → S t bytes → IsGood t (length bytes)) → MakesGood (Each S)
each_good S law no_more bytes b h = record { has = tt; ranged = tt; least = omega arith }
each_good S law (one t ts) bytes b h =
    let c = subst Bytes h.3 b in
    let g = law t h.0 (front_bytes h.0 h.1 c) h.2 in
    let i = each_good S law ts h.1 (back_bytes h.0 h.1 c) h.4 in
    let long : length bytes ≡ length h.0 + length h.1 = ap (length {A = ℕ}) h.3 ∙ length-append h.0 h.1 in
    record { has = (g.has, i.has); ranged = (g.ranged, i.ranged); least = omega (arith, g.least, i.least, long, length-append (shortest t) (all_shortest ts)) }

good_in : (d : ℕ) (t : Tree) (bytes : List ℕ) → Bytes bytes → SpellsIn d t bytes → IsGood t (length bytes)
good_in zero t bytes b h = good_with (λ ts body. ⊥) (λ ts body c i. absurd i) t bytes b h
good_in (suc d) t bytes b h = good_with (Each (SpellsIn d)) (each_good (SpellsIn d) (good_in d)) t bytes b h

pub spelled_has_spelling : SpelledHasSpelling
spelled_has_spelling t bytes b h = let g = good_in h.0 t bytes (bytes_of bytes b) h.1 in (g.has, g.ranged)

pub shortest_is_least : ShortestIsLeast
shortest_is_least t bytes b h =
    let g = good_in h.0 t bytes (bytes_of bytes b) h.1 in
    ((depth t, spelled t g.ranged g.has (depth t) (omega arith)), g.least)

-- An integer has at most nine bytes.
pub integer_length : (z : ℤ) → length (integer_spelling z) ≤ 9
integer_length (pos n) = unsigned_9 n
integer_length (negsuc n) = negative_9 n
