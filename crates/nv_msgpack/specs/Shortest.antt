-- The shortest spelling of a value (MessagePack specification, "Formats"). An integer of at least 0
-- has an unsigned form (own rule).
use Rattle.std.specs.Prelude.{ℕ, suc, ℤ, pos, negsuc, ◌+◌, ◌*◌, ◌/◌, ◌^◌, ◌<◌, ◌≤◌, ◌≡◌, ◌⊎◌, max, nat_lt, ◌==◌, if◌then◌else◌, FitsSigned, List, [], ◌∷◌, ◌++◌, length, take, All}
use Rattle.std.specs.Int.{w8, w16, w32, w64, cast_unsigned, to_be_bytes}
use Rattle.nv_msgpack.specs.Spelling.{Spells, SpellsIn}
use Rattle.nv_msgpack.specs.Reading.{whole, value_at}
use Rattle.nv_value.specs.Content.{Tree, Trees, nil, truth, integer, big, text, bin, list, pairs, ext, opaque, no_more, one, count}

-- A number of at least 0: positive fixint, uint 8, 16, 32, 64.
unfoldable pub unsigned_spelling : ℕ → List ℕ
unsigned_spelling n =
    if nat_lt n 0x80 then n ∷ [] else
    if nat_lt n 0x100 then 0xcc ∷ n ∷ [] else
    if nat_lt n 0x10000 then 0xcd ∷ to_be_bytes w16 n else
    if nat_lt n 0x100000000 then 0xce ∷ to_be_bytes w32 n else
    0xcf ∷ to_be_bytes w64 n

-- The number -1 - n, in two's complement: negative fixint, int 8, 16, 32, 64.
unfoldable pub negative_spelling : ℕ → List ℕ
negative_spelling n =
    if nat_lt n 0x20 then cast_unsigned w8 (negsuc n) ∷ [] else
    if nat_lt n 0x80 then 0xd0 ∷ cast_unsigned w8 (negsuc n) ∷ [] else
    if nat_lt n 0x8000 then 0xd1 ∷ to_be_bytes w16 (cast_unsigned w16 (negsuc n)) else
    if nat_lt n 0x80000000 then 0xd2 ∷ to_be_bytes w32 (cast_unsigned w32 (negsuc n)) else
    0xd3 ∷ to_be_bytes w64 (cast_unsigned w64 (negsuc n))

-- An integer.
abbrev pub integer_spelling : ℤ → List ℕ
integer_spelling (pos n) = unsigned_spelling n
integer_spelling (negsuc n) = negative_spelling n

-- What goes before the bytes of a string, by their number: fixstr, str 8, 16, 32.
unfoldable pub text_head : ℕ → List ℕ
text_head n =
    if nat_lt n 0x20 then (0xa0 + n) ∷ [] else
    if nat_lt n 0x100 then 0xd9 ∷ n ∷ [] else
    if nat_lt n 0x10000 then 0xda ∷ to_be_bytes w16 n else
    0xdb ∷ to_be_bytes w32 n

-- What goes before binary bytes, by their number: bin 8, 16, 32.
unfoldable pub bin_head : ℕ → List ℕ
bin_head n =
    if nat_lt n 0x100 then 0xc4 ∷ n ∷ [] else
    if nat_lt n 0x10000 then 0xc5 ∷ to_be_bytes w16 n else
    0xc6 ∷ to_be_bytes w32 n

-- What goes before the type of an extension value, by the number of its data's bytes: fixext 1, 2,
-- 4, 8, 16, ext 8, 16, 32.
unfoldable pub ext_head : ℕ → List ℕ
ext_head n =
    if n == 1 then 0xd4 ∷ [] else
    if n == 2 then 0xd5 ∷ [] else
    if n == 4 then 0xd6 ∷ [] else
    if n == 8 then 0xd7 ∷ [] else
    if n == 16 then 0xd8 ∷ [] else
    if nat_lt n 0x100 then 0xc7 ∷ n ∷ [] else
    if nat_lt n 0x10000 then 0xc8 ∷ to_be_bytes w16 n else
    0xc9 ∷ to_be_bytes w32 n

-- What goes before the bytes of a float, by their number: float 32, 64.
unfoldable pub float_head : ℕ → List ℕ
float_head n = if n == 4 then 0xca ∷ [] else 0xcb ∷ []

-- What goes before the values of an array, by their number: fixarray, array 16, 32.
unfoldable pub list_head : ℕ → List ℕ
list_head n =
    if nat_lt n 0x10 then (0x90 + n) ∷ [] else
    if nat_lt n 0x10000 then 0xdc ∷ to_be_bytes w16 n else
    0xdd ∷ to_be_bytes w32 n

-- What goes before the keys and values of a map, by the number of its pairs: fixmap, map 16, 32.
unfoldable pub map_head : ℕ → List ℕ
map_head n =
    if nat_lt n 0x10 then (0x80 + n) ∷ [] else
    if nat_lt n 0x10000 then 0xde ∷ to_be_bytes w16 n else
    0xdf ∷ to_be_bytes w32 n

abbrev mutual
  -- The shortest spelling of a value.
  pub shortest : Tree → List ℕ
  shortest nil = 0xc0 ∷ []
  shortest (truth b) = (if b then 0xc3 else 0xc2) ∷ []
  shortest (integer z) = integer_spelling z
  shortest (big n) = unsigned_spelling n
  shortest (text bytes) = text_head (length bytes) ++ bytes
  shortest (bin bytes) = bin_head (length bytes) ++ bytes
  shortest (list ts) = list_head (count ts) ++ all_shortest ts
  shortest (pairs ts) = map_head (count ts / 2) ++ all_shortest ts
  shortest (ext kind bytes) = ext_head (length bytes) ++ cast_unsigned w8 kind ∷ bytes
  shortest (opaque bytes) = float_head (length bytes) ++ bytes

  -- The shortest spellings of values, one after another.
  pub all_shortest : Trees → List ℕ
  all_shortest no_more = []
  all_shortest (one t ts) = shortest t ++ all_shortest ts

abbrev mutual
  -- How many lists and maps lie one in another.
  pub depth : Tree → ℕ
  depth (list ts) = suc (depths ts)
  depth (pairs ts) = suc (depths ts)
  depth _ = 0

  pub depths : Trees → ℕ
  depths no_more = 0
  depths (one t ts) = max (depth t) (depths ts)

abbrev mutual
  -- A spelling can tell the value: each length in it is below 2 ^ 32, each big number above the
  -- greatest i64, and a float has 4 or 8 bytes.
  pub HasSpelling : Tree → Type 0
  HasSpelling nil = Unit {0}
  HasSpelling (truth b) = Unit {0}
  HasSpelling (integer z) = Unit {0}
  HasSpelling (big n) = 2 ^ 63 ≤ n
  HasSpelling (text bytes) = length bytes < 2 ^ 32
  HasSpelling (bin bytes) = length bytes < 2 ^ 32
  HasSpelling (list ts) = (count ts < 2 ^ 32) × HaveSpellings ts
  HasSpelling (pairs ts) = (count ts < 2 * 2 ^ 32) × HaveSpellings ts
  HasSpelling (ext kind bytes) = length bytes < 2 ^ 32
  HasSpelling (opaque bytes) = (length bytes ≡ 4) ⊎ (length bytes ≡ 8)

  -- A spelling can tell each of the values.
  pub HaveSpellings : Trees → Type 0
  HaveSpellings no_more = Unit {0}
  HaveSpellings (one t ts) = HasSpelling t × HaveSpellings ts

abbrev mutual
  -- What the types of a `Value` say: each integer is an i64, each big number a u64, the type of an
  -- extension an i8, and a map has a value for each key.
  pub IsInRange : Tree → Type 0
  IsInRange nil = Unit {0}
  IsInRange (truth b) = Unit {0}
  IsInRange (integer z) = FitsSigned w64 z
  IsInRange (big n) = n < 2 ^ 64
  IsInRange (text bytes) = Unit {0}
  IsInRange (bin bytes) = Unit {0}
  IsInRange (list ts) = AreInRange ts
  IsInRange (pairs ts) = (count ts ≡ 2 * (count ts / 2)) × AreInRange ts
  IsInRange (ext kind bytes) = FitsSigned w8 kind
  IsInRange (opaque bytes) = Unit {0}

  -- The same of each of the values.
  pub AreInRange : Trees → Type 0
  AreInRange no_more = Unit {0}
  AreInRange (one t ts) = IsInRange t × AreInRange ts

-- The list begins with all of the old one.
abbrev pub BeginsAs : List ℕ → List ℕ → Type 0
BeginsAs old new = take (length old) new ≡ old

-- What is spelled has a spelling, within the ranges of the types.
abbrev pub SpelledHasSpelling : Type 0
SpelledHasSpelling = (t : Tree) (bytes : List ℕ) → All (λ b. b < 256) bytes → Spells t bytes
    → HasSpelling t × IsInRange t

-- The shortest spelling is a spelling.
abbrev pub ShortestIsSpelling : Type 0
ShortestIsSpelling = (t : Tree) → HasSpelling t → IsInRange t → SpellsIn (depth t) t (shortest t)

-- No spelling of a value has fewer bytes than the shortest one, which is one.
abbrev pub ShortestIsLeast : Type 0
ShortestIsLeast = (t : Tree) (bytes : List ℕ) → All (λ b. b < 256) bytes → Spells t bytes
    → Spells t (shortest t) × (length (shortest t) ≤ length bytes)

-- What was encoded is read again, whatever follows it, where the bounds allow it.
abbrev pub EncodedIsRead : Type 0
EncodedIsRead =
    (t : Tree) (tail : List ℕ) (nested most : ℕ) → HasSpelling t → IsInRange t → depth t ≤ nested
    → length (shortest t) ≤ most
    → value_at nested most (shortest t ++ tail) ≡ whole t (length (shortest t))
