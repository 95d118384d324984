-- The value at the front of a text, read from the left. It is what bounds a text that comes in
-- pieces: which byte is the first that no spelling allows.
use Rattle.std.specs.Prelude.{ℕ, ◌≡◌, ◌+◌, ◌-◌, nat_lt, if◌then◌else◌, List, [], ◌∷◌, length, take, drop, zero, suc}
use Rattle.nv_value.specs.Content.{Tree, Trees, no_more, one}
use Rattle.nv_msgpack.specs.Spelling.{Size, Raw, Many, Form, unused, alone, raw, many, form, width, number_in, extra, raw_value, values, many_value}

-- Why no spelling begins so: an unused first byte, a list or map too deep, or a value that would be
-- too long.
pub data Flaw : Type 0 where
  bad : Flaw
  too_deep : Flaw
  too_long : Flaw

-- What stands at the front: something whole of so many bytes, the beginning of something, or a flaw
-- at a byte.
pub data Reading (A : Type 0) : Type 0 where
  whole : A → ℕ → Reading A
  more : Reading A
  flawed : Flaw → ℕ → Reading A

-- The same with something else made of what is whole.
abbrev pub map_reading : {A B : Type 0} → (A → B) → Reading A → Reading B
map_reading f (whole a k) = whole (f a) k
map_reading f more = more
map_reading f (flawed x k) = flawed x k

-- The same behind so many more bytes.
abbrev pub after : {A : Type 0} → ℕ → Reading A → Reading A
after n (whole a k) = whole a (n + k)
after n more = more
after n (flawed x k) = flawed x (n + k)

-- What is whole, and then what follows it.
abbrev pub reading_then : {A B : Type 0} → Reading A → (A → ℕ → Reading B) → Reading B
reading_then (whole a k) next = after k (next a k)
reading_then more next = more
reading_then (flawed x k) next = flawed x k

-- So many values one after another, within so many bytes. Each leaves one byte to each that is
-- still owed.
unfoldable pub items_at : (ℕ → List ℕ → Reading Tree) → ℕ → ℕ → List ℕ → Reading Trees
items_at read zero room bytes = whole no_more 0
items_at read (suc n) room bytes =
    reading_then (read (room - n) bytes)
    (λ t k. map_reading (one t) (items_at read n (room - k) (drop k bytes)))

-- How the values inside a list or map are read: not at all where it lies too deep, else so many
-- within so many bytes.
pub data Inside : Type 0 where
  none : Inside
  some : (ℕ → ℕ → List ℕ → Reading Trees) → Inside

-- Bytes behind a length. A missing byte of the length counts 0.
abbrev pub raw_at : Raw → Size → ℕ → List ℕ → Reading Tree
raw_at r s room rest =
    let least = 1 + width s + (number_in s rest + extra r) in
    if nat_lt room least then flawed too_long 0 else
    if nat_lt (1 + length rest) least then more else
    whole (raw_value r (take (number_in s rest + extra r) (drop (width s) rest))) least

-- Values behind a length. A missing byte of the length counts 0, and each value one byte.
abbrev pub many_at : (ℕ → ℕ → List ℕ → Reading Trees) → Many → Size → ℕ → List ℕ → Reading Tree
many_at inside m s room rest =
    let head = 1 + width s in
    let n = values m (number_in s rest) in
    if nat_lt room (head + n) then flawed too_long 0 else
    if nat_lt (length rest) (width s) then more else
    after head (map_reading (many_value m) (inside n (room - head) (drop (width s) rest)))

-- What follows a first byte of this form.
abbrev pub read_by : Inside → Form → ℕ → List ℕ → Reading Tree
read_by inside unused room rest = flawed bad 0
read_by inside (alone t) room rest = whole t 1
read_by inside (raw r s) room rest = raw_at r s room rest
read_by none (many m s) room rest = flawed too_deep 0
read_by (some inside) (many m s) room rest = many_at inside m s room rest

-- The value at the front, within so many bytes.
abbrev pub read_with : Inside → ℕ → List ℕ → Reading Tree
read_with inside room [] = more
read_with inside room (b ∷ rest) = read_by inside (form b) room rest

-- The value at the front of the bytes, with at most so many lists and maps one in another, within
-- so many bytes.
unfoldable pub value_at : ℕ → ℕ → List ℕ → Reading Tree
value_at zero = read_with none
value_at (suc depth) = read_with (some (items_at (value_at depth)))

-- This value stands at a place of the bytes, ends before the limit, and that place is behind it.
abbrev pub IsReadAt : ℕ → ℕ → List ℕ → ℕ → Tree → ℕ → Type 0
IsReadAt depth limit bytes at t end =
    after at (value_at depth (limit - at) (drop at bytes)) ≡ whole t end
