-- Numbers in bytes, byte by byte, at a place.
use Rattle.std.proofs.Common.{◌≡◌, ℕ, ◌<◌, ◌+◌, ◌*◌, ◌^◌, suc, List, [], ◌∷◌, drop, get_or, refl, ap, ◌∙◌, arith}
use Rattle.std.proofs.lemmas.List.{get_or-drop}
use Rattle.std.specs.Int.{cast_signed, w8, w16, w32, w64}
use Rattle.std.proofs.Common.{pos, negsuc, ◌-◌, ◌-ℤ◌, true, false, cond, ltb, ⊎_elim}
use Rattle.std.proofs.lemmas.Bool.{cases_lt, lt-ltb, le-ltb}
use Rattle.std.proofs.lemmas.Int.{ints}
use Rattle.nv_msgpack.specs.Spelling.{big_endian, two's_complement}

one_byte : (bytes : List ℕ) → big_endian 1 bytes ≡ get_or bytes 0 0
unfolding big_endian
one_byte [] = refl
one_byte (a ∷ bytes) = omega arith

two_bytes : (bytes : List ℕ) → big_endian 2 bytes ≡ get_or bytes 0 0 * 0x100 + get_or bytes 1 0
unfolding big_endian
two_bytes [] = refl
two_bytes (a ∷ []) = omega arith
two_bytes (a ∷ b ∷ bytes) = omega arith

four_bytes : (bytes : List ℕ) → big_endian 4 bytes ≡ get_or bytes 0 0 * 0x1000000 + get_or bytes 1 0 * 0x10000 + get_or bytes 2 0 * 0x100 + get_or bytes 3 0
unfolding big_endian
four_bytes [] = refl
four_bytes (a ∷ []) = omega arith
four_bytes (a ∷ b ∷ []) = omega arith
four_bytes (a ∷ b ∷ c ∷ []) = omega arith
four_bytes (a ∷ b ∷ c ∷ d ∷ bytes) = omega arith

pub big_endian_one : (bytes : List ℕ) (at : ℕ) → big_endian 1 (drop at bytes) ≡ get_or bytes at 0
big_endian_one bytes at = one_byte (drop at bytes) ∙ get_or-drop at bytes 0 0 ∙ ap (λ (n : ℕ). get_or bytes n 0) (omega arith)

pub big_endian_two : (bytes : List ℕ) (at : ℕ) → big_endian 2 (drop at bytes) ≡ get_or bytes at 0 * 0x100 + get_or bytes (at + 1) 0
big_endian_two bytes at =
    let a = get_or-drop at bytes 0 0 in
    let b = get_or-drop at bytes 1 0 in
    let z : at + 0 ≡ at = omega arith in
    two_bytes (drop at bytes) ∙ rw (a, b, z) refl

pub big_endian_four : (bytes : List ℕ) (at : ℕ) → big_endian 4 (drop at bytes) ≡ get_or bytes at 0 * 0x1000000 + get_or bytes (at + 1) 0 * 0x10000 + get_or bytes (at + 2) 0 * 0x100 + get_or bytes (at + 3) 0
big_endian_four bytes at =
    let a = get_or-drop at bytes 0 0 in
    let b = get_or-drop at bytes 1 0 in
    let c = get_or-drop at bytes 2 0 in
    let d = get_or-drop at bytes 3 0 in
    let z : at + 0 ≡ at = omega arith in
    four_bytes (drop at bytes) ∙ rw (a, b, c, d, z) refl

pub eight_bytes : (bytes : List ℕ) → big_endian 8 bytes
    ≡ get_or bytes 0 0 * 0x100000000000000 + get_or bytes 1 0 * 0x1000000000000 + get_or bytes 2 0 * 0x10000000000 + get_or bytes 3 0 * 0x100000000 + get_or bytes 4 0 * 0x1000000 + get_or bytes 5 0 * 0x10000 + get_or bytes 6 0 * 0x100 + get_or bytes 7 0
unfolding big_endian
eight_bytes [] = refl
eight_bytes (a ∷ []) = omega arith
eight_bytes (a ∷ b ∷ []) = omega arith
eight_bytes (a ∷ b ∷ c ∷ []) = omega arith
eight_bytes (a ∷ b ∷ c ∷ d ∷ []) = omega arith
eight_bytes (a ∷ b ∷ c ∷ d ∷ e ∷ []) = omega arith
eight_bytes (a ∷ b ∷ c ∷ d ∷ e ∷ f ∷ []) = omega arith
eight_bytes (a ∷ b ∷ c ∷ d ∷ e ∷ f ∷ g ∷ []) = omega arith
eight_bytes (a ∷ b ∷ c ∷ d ∷ e ∷ f ∷ g ∷ h ∷ bytes) = omega arith

below_zero : (n full : ℕ) → n < full → negsuc (full - suc n) ≡ pos n -ℤ pos full
below_zero n full h = omega (arith, ints)

signed_as : (half full n : ℕ) → half + half ≡ full → n < full → cond (ltb n half) (pos n) (negsuc (full - suc n)) ≡ cond (ltb (2 * n) full) (pos n) (pos n -ℤ pos full)
signed_as half full n e h =
    ⊎_elim
    (λ l. let a : ltb n half ≡ true = lt-ltb n half l in
    let b : ltb (2 * n) full ≡ true = lt-ltb (2 * n) full (omega arith) in
    rw (a, b) refl)
    (λ l. let a : ltb n half ≡ false = le-ltb n half l in
    let b : ltb (2 * n) full ≡ false = le-ltb (2 * n) full (omega arith) in
    rw (a, b) (below_zero n full h))
    (cases_lt n half)

pub signed_one : (n : ℕ) → n < 2 ^ 8 → cast_signed w8 n ≡ two's_complement 1 n
signed_one n h = signed_as (2 ^ 7) (2 ^ 8) n refl h

pub signed_two : (n : ℕ) → n < 2 ^ 16 → cast_signed w16 n ≡ two's_complement 2 n
signed_two n h = signed_as (2 ^ 15) (2 ^ 16) n refl h

pub signed_four : (n : ℕ) → n < 2 ^ 32 → cast_signed w32 n ≡ two's_complement 4 n
signed_four n h = signed_as (2 ^ 31) (2 ^ 32) n refl h

pub signed_eight : (n : ℕ) → n < 2 ^ 64 → cast_signed w64 n ≡ two's_complement 8 n
signed_eight n h = signed_as (2 ^ 63) (2 ^ 64) n refl h
