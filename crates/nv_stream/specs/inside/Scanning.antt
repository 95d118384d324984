-- inside: a place inside a value that isn't finished yet, and what is known there (own rule).
use Rattle.std.specs.Prelude.{ℕ, ◌+◌, ◌-◌, ◌*◌, ◌<◌, ◌≤◌, ◌≡◌, Bool, true, false, List, [], ◌∷◌, ◌++◌, length, take, drop, reverse, sum, suc}
use Rattle.nv_msgpack.specs.Spelling.{Form, unused, alone, raw, many, width, number_in, extra, values}
use Rattle.nv_msgpack.specs.Reading.{Reading, whole, more, flawed, items_at, value_at}
use Rattle.nv_stream.specs.declared.scan.Head.{Head}
use Rattle.nv_stream.specs.declared.scan.Head.TheVariants.{Unused, Bytes, Values}
use Rattle.nv_stream.specs.declared.scan.Step.{Step}
use Rattle.nv_stream.specs.declared.scan.Step.TheVariants.{On, Waits, Stops}
use Rattle.nv_stream.specs.declared.scan.Scan.{Scan}

-- What a first byte and the length behind it tell: so many bytes in all, or so many values behind
-- so many bytes. A byte of the length that is missing counts 0 (MessagePack specification,
-- "Overview").
abbrev pub head_of : Form → List ℕ → Head
head_of unused rest = Unused
head_of (alone t) rest = Bytes 1
head_of (raw r s) rest = Bytes (1 + width s + (number_in s rest + extra r))
head_of (many m s) rest = Values (1 + width s) (values m (number_in s rest))

-- Whether a reading wants more bytes.
abbrev pub wants : {A : Type 0} → Reading A → Bool
wants (whole a k) = false
wants more = true
wants (flawed x k) = false

-- Whether a reading wants more bytes, or else what follows it.
abbrev pub wants_then : {A : Type 0} → Reading A → (ℕ → Bool) → Bool
wants_then (whole a k) next = next k
wants_then more next = true
wants_then (flawed x k) next = false

-- Whether the values that are still owed, by the innermost list or map first, want more bytes. Room
-- is for all of them.
unfoldable pub owed_want : ℕ → List ℕ → ℕ → List ℕ → Bool
owed_want depth [] room rest = false
owed_want depth (n ∷ ns) room rest =
    wants_then (items_at (value_at depth) n (room - sum ns) rest)
    (λ k. owed_want (suc depth) ns (room - k) (drop k rest))

-- Whatever comes behind the first bytes, up to this place: if the values owed there want more, the
-- value at the front does.
abbrev pub KeepsWanting : ℕ → ℕ → List ℕ → ℕ → ℕ → List ℕ → Type 0
KeepsWanting depth most bytes at inner owed =
    (rest : List ℕ) → owed_want inner owed (most - at) rest ≡ true
    → wants (value_at depth most (take at bytes ++ rest)) ≡ true

-- A scan is at a place of the bytes, inside the value that they begin.
pub record IsPlace (depth most : ℕ) (bytes : List ℕ) (scan : Scan) : Type 0 where
  pub within : scan.at ≤ length bytes
  pub all : scan.owed_in_all ≡ scan.owed + sum (reverse scan.outer.items)
  pub fits : scan.at + scan.owed_in_all ≤ most
  pub deep : length scan.outer.items ≤ depth
  pub leads : KeepsWanting depth most bytes scan.at (depth - length scan.outer.items)
      (scan.owed ∷ reverse scan.outer.items)

-- A scan stands before a value.
pub record IsFresh (scan : Scan) : Type 0 where
  pub at : scan.at ≡ 0
  pub owed : scan.owed ≡ 1
  pub outer : scan.outer.items ≡ []
  pub all : scan.owed_in_all ≡ 1

-- How much a scan has to do at most.
abbrev pub left_to_do : List ℕ → Scan → ℕ
left_to_do bytes scan = 2 * (length bytes - scan.at) + length scan.outer.items

-- What a step of a scan shows.
abbrev pub Shows : ℕ → ℕ → List ℕ → Scan → Scan → Step → Type 0
Shows depth most bytes old new On = left_to_do bytes new < left_to_do bytes old
Shows depth most bytes old new Waits = value_at depth most bytes ≡ more
Shows depth most bytes old new Stops = Unit {0}
