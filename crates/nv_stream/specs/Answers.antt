-- What a stream answers when it is asked for the next value. How values are spelled is the
-- MessagePack specification's; bounds, flaws and places are own rules.
use Rattle.std.specs.Prelude.{ℕ, ◌+◌, ◌≡◌, ◌⊎◌, List, [], ◌++◌, length, Some, None}
use Rattle.nv_value.specs.Content.{Tree}
use Rattle.nv_value.specs.View.{content}
use Rattle.nv_msgpack.specs.Reading as reading
use Rattle.nv_msgpack.specs.Reading.{value_at, flawed, bad, too_deep, too_long}
use Rattle.nv_msgpack.specs.Within.{SpellsWithin, IsPartial, IsFlaw}
use Rattle.nv_msgpack.specs.Shortest.{HasSpelling}
use Rattle.nv_io.specs.declared.lanes.Flaw.{Flaw}
use Rattle.nv_io.specs.declared.lanes.Flaw.TheVariants.{Bad, TooDeep, TooLong, Inside, NoCall}
use Rattle.nv_stream.specs.State.{State, behind_value, with_flaw}
use Rattle.nv_stream.specs.declared.stream.Next.{Next}
use Rattle.nv_stream.specs.declared.stream.Next.TheVariants.{Value as TheValue, More as AskMore, Flaw as TheFlaw}

-- The bytes stop beginning a value by the flaw x at byte n, and it is the flaw that the reading
-- from the left meets.
abbrev pub HasFlaw : ℕ → ℕ → List ℕ → reading.Flaw → ℕ → Type 0
HasFlaw depth most bytes x n =
    IsFlaw depth most bytes x n × (value_at depth most bytes ≡ flawed x n)

-- The bytes from the place start of a stream on have this flaw. Its place is one of the stream.
abbrev pub IsFlawAt : ℕ → ℕ → ℕ → List ℕ → Flaw → Type 0
IsFlawAt depth most start held (Bad place) =
    (n : ℕ) × (place ≡ start + n) × HasFlaw depth most held bad n
IsFlawAt depth most start held (TooDeep place) =
    (n : ℕ) × (place ≡ start + n) × HasFlaw depth most held too_deep n
IsFlawAt depth most start held (TooLong place) =
    (n : ℕ) × (place ≡ start + n) × HasFlaw depth most held too_long n
IsFlawAt depth most start held (Inside place) = ⊥
IsFlawAt depth most start held (NoCall number) = ⊥

-- What is held is empty or the proper beginning of a value's spelling.
abbrev pub NeedsMore : State → Type 0
NeedsMore s = (s.held ≡ []) ⊎ IsPartial s.depth s.most s.held

-- A value is taken from a stream: its spelling stands at the front of what is held, and is taken
-- away.
abbrev pub TakesTree : Tree → State → State → Type 0
TakesTree t old new =
    (front : List ℕ) × (old.flaw ≡ None) × SpellsWithin old.depth old.most t front
    × (old.held ≡ front ++ new.held)
    × (new ≡ behind_value old (length front) new.held) × HasSpelling t

-- What a stream may answer from one state to the next: the value that it takes from what is held;
-- `More` where what is held is empty or the proper beginning of a value's spelling; the flaw that
-- was met, or else that of what is held.
abbrev pub IsAnswer : Next → State → State → Type 0
IsAnswer (TheValue v) old new = TakesTree (content v) old new
IsAnswer AskMore old new = (new ≡ old) × (old.flaw ≡ None) × NeedsMore old
IsAnswer (TheFlaw f) old new =
    (new ≡ with_flaw old f) × ((old.flaw ≡ Some f) ⊎
    ((old.flaw ≡ None) × IsFlawAt old.depth old.most old.start old.held f))
