-- Spellings within bounds, and where a text stops beginning one.
use Rattle.std.specs.Prelude.{ℕ, ◌+◌, ◌<◌, ◌≤◌, ◌≡◌, List, ◌++◌, length, take, slice_index_or}
use Rattle.nv_value.specs.Content.{Tree, Trees}
use Rattle.nv_msgpack.specs.Spelling.{Form, unused, raw, many, form, SpellsIn, Spells, Each}
use Rattle.nv_msgpack.specs.Reading.{Flaw, bad, too_deep, too_long}

-- The bytes spell t with at most depth lists and maps one in another, in at most most bytes.
abbrev pub SpellsWithin : ℕ → ℕ → Tree → List ℕ → Type 0
SpellsWithin depth most t bytes = SpellsIn depth t bytes × (length bytes ≤ most)

-- The bytes are the front of such a spelling, or one.
abbrev pub BeginsWell : ℕ → ℕ → List ℕ → Type 0
BeginsWell depth most bytes =
    (tail : List ℕ) × (t : Tree) × SpellsWithin depth most t (bytes ++ tail)

-- The bytes are the front of such a spelling, and bytes are missing.
abbrev pub IsPartial : ℕ → ℕ → List ℕ → Type 0
IsPartial depth most bytes =
    (tail : List ℕ) × (t : Tree) × (0 < length tail) × SpellsWithin depth most t (bytes ++ tail)

-- The first k bytes are the front of such a spelling, and the first k + 1 aren't.
abbrev pub StopsAt : ℕ → ℕ → List ℕ → ℕ → Type 0
StopsAt depth most bytes k = (k < length bytes) × BeginsWell depth most (take k bytes)
    × (BeginsWell depth most (take (k + 1) bytes) → ⊥)

-- What first byte a flaw has: an unused one, that of a list or map, or that of something with a
-- length.
abbrev pub Begins : Flaw → Form → Type 0
Begins bad unused = Unit {0}
Begins too_deep (many m s) = Unit {0}
Begins too_long (raw r s) = Unit {0}
Begins too_long (many m s) = Unit {0}
Begins _ _ = ⊥

-- How the byte at which a text stops lies to the byte of its flaw: a first byte that is wrong
-- itself is that byte, a value that would be too long began at or before it.
abbrev pub Lies : Flaw → ℕ → ℕ → Type 0
Lies too_long n k = n ≤ k
Lies _ n k = n ≡ k

-- The bytes don't begin a spelling, and the flaw is x at byte n.
abbrev pub IsFlaw : ℕ → ℕ → List ℕ → Flaw → ℕ → Type 0
IsFlaw depth most bytes x n =
    (k : ℕ) × StopsAt depth most bytes k × Lies x n k × Begins x (form (slice_index_or bytes n 0))

-- No spelling stands at the front of the bytes.
abbrev pub BeginsNone : ℕ → ℕ → List ℕ → Type 0
BeginsNone depth most bytes =
    (t : Tree) (front tail : List ℕ) → bytes ≡ front ++ tail → SpellsWithin depth most t front → ⊥

-- The stream is the values' spellings one after another, and then a rest at whose front no spelling
-- stands.
abbrev pub IsCut : ℕ → ℕ → List ℕ → Trees → List ℕ → Type 0
IsCut depth most stream ts rest = (front : List ℕ) × Each (SpellsWithin depth most) ts front
    × (stream ≡ front ++ rest) × BeginsNone depth most rest

-- No spelling begins another: what follows a spelling doesn't change what it spells.
abbrev pub SpellingsAreApart : Type 0
SpellingsAreApart =
    (t u : Tree) (a b x y : List ℕ) → Spells t a → Spells u b → a ++ x ≡ b ++ y → (a ≡ b) × (t ≡ u)

-- A stream has one cut.
abbrev pub StreamsHaveOneCut : Type 0
StreamsHaveOneCut = (depth most : ℕ) (stream : List ℕ) (ts us : Trees) (x y : List ℕ)
    → IsCut depth most stream ts x → IsCut depth most stream us y → (ts ≡ us) × (x ≡ y)
