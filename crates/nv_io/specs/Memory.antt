-- Devices in memory: the pieces that one gives, the calls of it that fail, and what it took.
use Rattle.std.specs.Prelude.{◌≡◌, ℕ, ◌+◌, ◌-◌, ◌^◌, min, Bool, ◌==◌, nat_lt, if◌then◌else◌, List, [], ◌∷◌, ◌++◌, length, take, drop, slice_index, IsTrue, ⊤}
use Rattle.std.specs.List.{list_any, list_all}
use Rattle.std.specs.declared.option.Option.{Option}
use Rattle.std.specs.declared.option.Option.TheVariants.{Some, None}
use Rattle.nv_io.specs.declared.streams.Got.{Got}
use Rattle.nv_io.specs.declared.streams.Got.TheVariants.{Bytes, End, Failed}

-- The calls of a device that fail, by their numbers from 0; how many calls were made, and how many
-- faults there were.
pub record Failing : Type 0 where
  pub fails : List ℕ
  pub calls : ℕ
  pub faults : ℕ

-- whether the next call fails (own rule: its number is among those that fail)
abbrev pub is_failing : Failing → Bool
is_failing f = list_any (λ number. number == f.calls) f.fails

-- one more, where a count of 64 bits stands still at its end
abbrev pub one_more : ℕ → ℕ
one_more n = min (n + 1) (2 ^ 64 - 1)

-- one call later
abbrev pub after_call : Failing → Failing
after_call f = record {
  fails = f.fails;
  calls = one_more f.calls;
  faults = if is_failing f then one_more f.faults else f.faults;
}

-- Bytes given out in pieces: those that were taken, those that are left, the sizes, and the place
-- of the next size.
pub record Cutting : Type 0 where
  pub taken : List ℕ
  pub left : List ℕ
  pub cuts : List ℕ
  pub turn : ℕ

-- no size of a piece is 0
abbrev pub AreSizes : List ℕ → Type 0
AreSizes cuts = IsTrue (list_all (λ size. nat_lt 0 size) cuts)

-- the length of the next piece: its size, or less where there is less room or less is left
abbrev pub piece_len : Cutting → ℕ → ℕ
piece_len c room = min (min (slice_index c.cuts c.turn) room) (length c.left)

-- the place after `turn` in a list of `count` that is gone through over and over
abbrev pub next_turn : ℕ → ℕ → ℕ
next_turn count turn = if nat_lt (turn + 1) count then turn + 1 else 0

-- n bytes later
abbrev pub after_piece : Cutting → ℕ → Cutting
after_piece c n = record {
  taken = c.taken ++ take n c.left;
  left = drop n c.left;
  cuts = c.cuts;
  turn = next_turn (length c.cuts) c.turn;
}

-- what a read that gives this leaves
abbrev pub after_read : Cutting → Got → Cutting
after_read c (Bytes n) = after_piece c n
after_read c End = c
after_read c Failed = c

-- the sizes of the reads of a source grew by this one, unless they aren't told any more
abbrev pub AddsSize : Option (List ℕ) → Option (List ℕ) → ℕ → Type 0
AddsSize before None size = ⊤
AddsSize before (Some now) size =
    (was : List ℕ) × (before ≡ Some was) × (now ≡ was ++ size ∷ [])

-- bytes cut into pieces of these sizes, one after another
abbrev pub cut_by : List ℕ → List ℕ → List (List ℕ)
cut_by [] bytes = []
cut_by (size ∷ sizes) bytes = take size bytes ∷ cut_by sizes (drop size bytes)

-- A source in memory: its pieces, what its reads gave, where that is told, and those that fail.
pub record MemReading : Type 0 where
  pub pieces : Cutting
  pub reads : Option (List (List ℕ))
  pub failures : Failing

-- A sink in memory: the bytes that it took, the most that it takes in a write, and its writes that
-- fail.
pub record MemWriting : Type 0 where
  pub taken : List ℕ
  pub most : ℕ
  pub failures : Failing
