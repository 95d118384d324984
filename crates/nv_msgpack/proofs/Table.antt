-- What the table of first bytes has: each form that a first byte can have, with the sizes that it can have.
use Rattle.std.proofs.Common.{◌≡◌, ℕ, pos, negsuc, zero, suc, ◌-◌, ◌^◌, ◌<◌, ◌≤◌, inl, inr, List, [], ◌∷◌, ◌++◌, refl, ap, ◌∙◌, arith, Bool, true, false, ◌&&◌, ◌||◌}
use Rattle.std.specs.Prelude.{◌-ℤ◌, ◌==◌, nat_lt, slice_index_or, All}
use Rattle.std.proofs.lemmas.Bool.{cases_lt, false≢true}
use Rattle.std.proofs.lemmas.Bool.Decides.{nat_tests}
use Rattle.std.proofs.lemmas.Int.{ints}
use Rattle.std.proofs.lemmas.Nat.{mul-add-lt}
use Rattle.std.proofs.Math.Nat.{pow-suc}
use Rattle.nv_value.specs.Content.{Tree, nil, truth, integer}
use Rattle.nv_msgpack.specs.Spelling.{Size, fixed, field, Raw, of_text, of_bin, of_ext, unsigned, signed, float, of_list, of_map, Form, unused, alone, raw, many, form, middle, big_endian}

-- A value that is its first byte.
abbrev pub small : Tree → Bool
small nil = true
small (truth b) = true
small (integer (pos n)) = nat_lt n 0x80
small (integer (negsuc n)) = nat_lt n 0x20
small _ = false

-- A size that what has bytes behind its length can have.
abbrev pub sized : Raw → Size → Bool
sized of_text (fixed n) = nat_lt n 0x20
sized of_text (field w) = w == 1 || w == 2 || w == 4
sized of_bin (fixed n) = false
sized of_bin (field w) = w == 1 || w == 2 || w == 4
sized of_ext (fixed n) = n == 1 || n == 2 || n == 4 || n == 8 || n == 16
sized of_ext (field w) = w == 1 || w == 2 || w == 4
sized unsigned (fixed w) = w == 1 || w == 2 || w == 4 || w == 8
sized unsigned (field w) = false
sized signed (fixed w) = w == 1 || w == 2 || w == 4 || w == 8
sized signed (field w) = false
sized float (fixed w) = w == 4 || w == 8
sized float (field w) = false

-- A size that what has values behind its length can have.
abbrev pub counted : Size → Bool
counted (fixed n) = nat_lt n 0x10
counted (field w) = w == 2 || w == 4

abbrev pub listed : Form → Bool
listed unused = true
listed (alone t) = small t
listed (raw r s) = sized r s
listed (many m s) = counted s

abbrev all_listed : List Form → Bool
all_listed [] = true
all_listed (f ∷ fs) = listed f && all_listed fs

both : (a b : Bool) → (a && b) ≡ true → (a ≡ true) × (b ≡ true)
both true b e = (refl, e)
both false b e = absurd (false≢true e)

listed-at : (fs : List Form) (k : ℕ) → all_listed fs ≡ true → listed (slice_index_or fs k unused) ≡ true
listed-at [] k e = refl
listed-at (f ∷ fs) zero e = (both (listed f) (all_listed fs) e).0
listed-at (f ∷ fs) (suc k) e = listed-at fs k (both (listed f) (all_listed fs) e).1

in_middle : (k : ℕ) → listed (slice_index_or middle k unused) ≡ true
unfolding middle
in_middle k = listed-at middle k refl

at_the_end : (b : ℕ) → 0xe0 ≤ b → b < 0x100 → small (integer (pos b -ℤ pos 0x100)) ≡ true
at_the_end b low high =
    let e : pos b -ℤ pos 0x100 ≡ negsuc (0xff - b) = omega (arith, ints) in
    ap (λ z. small (integer z)) e ∙ grind (arith, nat_tests)

pub is_listed : (b : ℕ) → listed (form b) ≡ true
unfolding form
is_listed b = elim (cases_lt b 0x80) [
  | inl i ↦ let f : form b ≡ alone (integer (pos b)) = grind (arith, nat_tests) in ap listed f ∙ grind (arith, nat_tests)
  | inr i ↦ elim (cases_lt b 0x90) [
    | inl j ↦ let f : form b ≡ many of_map (fixed (b - 0x80)) = grind (arith, nat_tests) in ap listed f ∙ grind (arith, nat_tests)
    | inr j ↦ elim (cases_lt b 0xa0) [
      | inl k ↦ let f : form b ≡ many of_list (fixed (b - 0x90)) = grind (arith, nat_tests) in ap listed f ∙ grind (arith, nat_tests)
      | inr k ↦ elim (cases_lt b 0xc0) [
        | inl l ↦ let f : form b ≡ raw of_text (fixed (b - 0xa0)) = grind (arith, nat_tests) in ap listed f ∙ grind (arith, nat_tests)
        | inr l ↦ elim (cases_lt b 0xe0) [
          | inl m ↦ let f : form b ≡ slice_index_or middle (b - 0xc0) unused = grind (arith, nat_tests) in ap listed f ∙ in_middle (b - 0xc0)
          | inr m ↦ elim (cases_lt b 0x100) [
            | inl n ↦ let f : form b ≡ alone (integer (pos b -ℤ pos 0x100)) = grind (arith, nat_tests) in ap listed f ∙ at_the_end b m n
            | inr n ↦ let f : form b ≡ unused = grind (arith, nat_tests) in ap listed f
          ]
        ]
      ]
    ]
  ]
]

-- Each of the numbers is a byte.
abbrev pub Bytes : List ℕ → Type 0
Bytes [] = Unit {0}
Bytes (b ∷ bytes) = (b < 256) × Bytes bytes

pub bytes_of : (bytes : List ℕ) → All (λ b. b < 256) bytes → Bytes bytes
bytes_of [] h = tt
bytes_of (b ∷ bytes) h = (h 0 0 (omega arith), bytes_of bytes (λ k d lt. h (suc k) d (omega arith)))

pub front_bytes : (xs ys : List ℕ) → Bytes (xs ++ ys) → Bytes xs
front_bytes [] ys h = tt
front_bytes (x ∷ xs) ys h = (h.0, front_bytes xs ys h.1)

pub back_bytes : (xs ys : List ℕ) → Bytes (xs ++ ys) → Bytes ys
back_bytes [] ys h = h
back_bytes (x ∷ xs) ys h = back_bytes xs ys h.1

pub power-positive : (w : ℕ) → 0 < 256 ^ w
power-positive zero = omega arith
power-positive (suc w) = omega (arith, pow-suc 256 w, power-positive w)

-- A number of so many bytes.
pub big_endian-below : (w : ℕ) (bytes : List ℕ) → Bytes bytes → big_endian w bytes < 256 ^ w
unfolding big_endian
big_endian-below zero bytes h = omega arith
big_endian-below (suc w) [] h = power-positive (suc w)
big_endian-below (suc w) (b ∷ bytes) h =
    let rest = big_endian-below w bytes h.1 in
    omega (arith, mul-add-lt b (256 ^ w) (big_endian w bytes) 256 h.0 rest, pow-suc 256 w)
