-- How MessagePack spells a value (MessagePack specification, "Formats"). A value may have several
-- spellings.
use Rattle.std.specs.Prelude.{ℕ, ℤ, pos, ◌+◌, ◌-◌, ◌*◌, ◌^◌, ◌≡◌, ◌-ℤ◌, true, false, nat_lt, if◌then◌else◌, List, [], ◌∷◌, ◌++◌, length, drop, zero, suc, slice_index_or}
use Rattle.nv_value.specs.Content.{Tree, nil, truth, integer, big, text, bin, list, pairs, ext, opaque, Trees, no_more, one, count}

-- Where a length stands: in the first byte, or in so many bytes behind it.
pub data Size : Type 0 where
  fixed : ℕ → Size
  field : ℕ → Size

-- What has bytes behind its length. The length of a number is that of its bytes.
pub data Raw : Type 0 where
  of_text : Raw
  of_bin : Raw
  of_ext : Raw
  unsigned : Raw
  signed : Raw
  float : Raw

-- What has values behind its length.
pub data Many : Type 0 where
  of_list : Many
  of_map : Many

-- What a first byte begins: nothing, a value by itself, bytes, or values.
pub data Form : Type 0 where
  unused : Form
  alone : Tree → Form
  raw : Raw → Size → Form
  many : Many → Size → Form

-- The first bytes from c0 to df, in order (MessagePack specification, "Overview").
unfoldable pub middle : List Form
middle =
    alone nil ∷ unused ∷ alone (truth false) ∷ alone (truth true)
    ∷ raw of_bin (field 1) ∷ raw of_bin (field 2) ∷ raw of_bin (field 4)
    ∷ raw of_ext (field 1) ∷ raw of_ext (field 2) ∷ raw of_ext (field 4)
    ∷ raw float (fixed 4) ∷ raw float (fixed 8)
    ∷ raw unsigned (fixed 1) ∷ raw unsigned (fixed 2) ∷ raw unsigned (fixed 4)
    ∷ raw unsigned (fixed 8)
    ∷ raw signed (fixed 1) ∷ raw signed (fixed 2) ∷ raw signed (fixed 4) ∷ raw signed (fixed 8)
    ∷ raw of_ext (fixed 1) ∷ raw of_ext (fixed 2) ∷ raw of_ext (fixed 4) ∷ raw of_ext (fixed 8)
    ∷ raw of_ext (fixed 16)
    ∷ raw of_text (field 1) ∷ raw of_text (field 2) ∷ raw of_text (field 4)
    ∷ many of_list (field 2) ∷ many of_list (field 4)
    ∷ many of_map (field 2) ∷ many of_map (field 4)
    ∷ []

-- The first bytes (MessagePack specification, "Overview"): positive fixint, fixmap, fixarray,
-- fixstr, those from c0 to df, negative fixint.
unfoldable pub form : ℕ → Form
form b =
    if nat_lt b 0x80 then alone (integer (pos b)) else
    if nat_lt b 0x90 then many of_map (fixed (b - 0x80)) else
    if nat_lt b 0xa0 then many of_list (fixed (b - 0x90)) else
    if nat_lt b 0xc0 then raw of_text (fixed (b - 0xa0)) else
    if nat_lt b 0xe0 then slice_index_or middle (b - 0xc0) unused else
    if nat_lt b 0x100 then alone (integer (pos b -ℤ pos 0x100)) else
    unused

-- The number of the first so many bytes, most significant first. A missing byte counts 0.
unfoldable pub big_endian : ℕ → List ℕ → ℕ
big_endian zero bytes = 0
big_endian (suc width) [] = 0
big_endian (suc width) (b ∷ bytes) = b * 256 ^ width + big_endian width bytes

-- A number of so many bytes read as two's complement.
abbrev pub two's_complement : ℕ → ℕ → ℤ
two's_complement width n =
    if nat_lt (2 * n) (256 ^ width) then pos n else pos n -ℤ pos (256 ^ width)

-- An unsigned number: an integer up to the greatest i64, a big number above it.
abbrev pub unsigned_number : ℕ → Tree
unsigned_number n = if nat_lt n (2 ^ 63) then integer (pos n) else big n

-- How many bytes of length stand behind the first byte.
abbrev pub width : Size → ℕ
width (fixed n) = 0
width (field w) = w

-- The length, told or in the bytes behind the first byte.
abbrev pub number_in : Size → List ℕ → ℕ
number_in (fixed n) bytes = n
number_in (field w) bytes = big_endian w bytes

-- What the length doesn't count: the type byte of an ext value.
abbrev pub extra : Raw → ℕ
extra of_ext = 1
extra _ = 0

-- What the bytes behind a length stand for. An ext value begins with its type, a signed byte; a
-- float is its bytes.
abbrev pub raw_value : Raw → List ℕ → Tree
raw_value of_text bytes = text bytes
raw_value of_bin bytes = bin bytes
raw_value of_ext bytes = ext (two's_complement 1 (big_endian 1 bytes)) (drop 1 bytes)
raw_value unsigned bytes = unsigned_number (big_endian (length bytes) bytes)
raw_value signed bytes = integer (two's_complement (length bytes) (big_endian (length bytes) bytes))
raw_value float bytes = opaque bytes

-- How many values a length counts: a map has a key and a value for each pair.
abbrev pub values : Many → ℕ → ℕ
values of_list n = n
values of_map n = 2 * n

-- What the values behind a length stand for.
abbrev pub many_value : Many → Trees → Tree
many_value of_list ts = list ts
many_value of_map ts = pairs ts

-- What follows a first byte of this form spells the rest of the value t, where inside says how the
-- values inside are spelled.
abbrev pub SpelledBy : (Trees → List ℕ → Type 0) → Form → Tree → List ℕ → Type 0
SpelledBy inside unused t rest = ⊥
SpelledBy inside (alone u) t rest = (t ≡ u) × (rest ≡ [])
SpelledBy inside (raw r s) t rest =
    (size bytes : List ℕ) × (length size ≡ width s) × (length bytes ≡ number_in s size + extra r)
    × (rest ≡ size ++ bytes) × (t ≡ raw_value r bytes)
SpelledBy inside (many m s) t rest =
    (size body : List ℕ) × (ts : Trees) × (length size ≡ width s)
    × (count ts ≡ values m (number_in s size)) × (rest ≡ size ++ body) × (t ≡ many_value m ts)
    × inside ts body

-- The bytes spell the value t, where inside says how the values inside are spelled.
abbrev pub SpelledWith : (Trees → List ℕ → Type 0) → Tree → List ℕ → Type 0
SpelledWith inside t [] = ⊥
SpelledWith inside t (b ∷ rest) = SpelledBy inside (form b) t rest

-- The bytes spell the values one after another.
abbrev pub Each : (Tree → List ℕ → Type 0) → Trees → List ℕ → Type 0
Each S no_more bytes = bytes ≡ []
Each S (one t ts) bytes = (x y : List ℕ) × S t x × (bytes ≡ x ++ y) × Each S ts y

-- The bytes spell the value t, with at most so many lists and maps one in another.
abbrev pub SpellsIn : ℕ → Tree → List ℕ → Type 0
SpellsIn zero = SpelledWith (λ ts body. ⊥)
SpellsIn (suc depth) = SpelledWith (Each (SpellsIn depth))

-- The bytes spell the value t (MessagePack specification).
abbrev pub Spells : Tree → List ℕ → Type 0
Spells t bytes = (depth : ℕ) × SpellsIn depth t bytes
