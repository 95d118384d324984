-- The calls that a stream of bytes holds, and where it stops holding them.
use Rattle.std.specs.Prelude.{◌≡◌, ◌⊎◌, ℕ, ◌+◌, ◌^◌, ◌<◌, ◌≤◌, List, [], ◌∷◌, ◌++◌, length, Option, Some, None, ⊤}
use Rattle.std.specs.Io.KnownBytes.{IsAtEnd}
use Rattle.nv_value.specs.Content.{Tree}
use Rattle.nv_io.specs.declared.lanes.Flaw.{Flaw}
use Rattle.nv_io.specs.declared.lanes.Flaw.TheVariants.{Bad, TooDeep, TooLong, Inside, NoCall}
use Rattle.nv_msgpack.specs.Within.{SpellsWithin, IsPartial}
use Rattle.nv_stream.specs.Answers.{IsFlawAt}
use Rattle.nv_rpc.specs.Calls.{Call, call_in}

-- the greatest number of lists and maps one in another in a message
unfoldable pub most_depth : ℕ
most_depth = 64

-- the greatest number of bytes of a message
abbrev pub most_bytes : ℕ
most_bytes = 67108864

-- the bytes spell this call, within the bounds
pub record SpellsCall (call : Call) (bytes : List ℕ) : Type 0 where
  pub value : Tree
  pub spelled : SpellsWithin most_depth most_bytes value bytes
  pub is_call : call_in value ≡ Some call

-- the bytes are these calls, spelled one after another
abbrev pub Calls : List Call → List ℕ → Type 0
Calls [] bytes = bytes ≡ []
Calls (call ∷ calls) bytes =
    (front rest : List ℕ) × SpellsCall call front × (bytes ≡ front ++ rest) × Calls calls rest

-- the bytes begin with a value that is no call
pub record BeginsNoCall (bytes : List ℕ) : Type 0 where
  pub value : Tree
  pub front : List ℕ
  pub rest : List ℕ
  pub spelled : SpellsWithin most_depth most_bytes value front
  pub parts : bytes ≡ front ++ rest
  pub no_call : call_in value ≡ None

-- how the bytes after so many calls end, which begin at this place of the stream: with nothing
-- more, or with this flaw
abbrev pub EndsAt : ℕ → ℕ → List ℕ → Option Flaw → Type 0
EndsAt number place bytes None = bytes ≡ []
EndsAt number place bytes (Some (NoCall n)) = (n ≡ number) × BeginsNoCall bytes
EndsAt number place bytes (Some (Inside n)) =
    (n ≡ place) × (0 < length bytes) × IsPartial most_depth most_bytes bytes
EndsAt number place bytes (Some (Bad n)) = IsFlawAt most_depth most_bytes place bytes (Bad n)
EndsAt number place bytes (Some (TooDeep n)) =
    IsFlawAt most_depth most_bytes place bytes (TooDeep n)
EndsAt number place bytes (Some (TooLong n)) =
    IsFlawAt most_depth most_bytes place bytes (TooLong n)

-- the bytes after so many calls, which begin at this place of the stream, hold these calls, and
-- then end so
abbrev pub ReadsFrom : ℕ → ℕ → List Call → List ℕ → Option Flaw → Type 0
ReadsFrom number place [] bytes flaw = EndsAt number place bytes flaw
ReadsFrom number place (call ∷ calls) bytes flaw =
    (front rest : List ℕ) × SpellsCall call front × (bytes ≡ front ++ rest)
    × ReadsFrom (number + 1) (place + length front) calls rest flaw

-- a stream of bytes holds these calls, and then nothing more or this flaw
abbrev pub Reads : List Call → List ℕ → Option Flaw → Type 0
Reads = ReadsFrom 0 0

-- a stream of bytes holds one list of calls alone, and one end
abbrev pub ReadsOnce : Type 0
ReadsOnce = (calls others : List Call) (bytes : List ℕ) (flaw other : Option Flaw)
    → Reads calls bytes flaw → Reads others bytes other → (calls ≡ others) × (flaw ≡ other)

-- the bytes begin with these calls
abbrev pub BeginWithCalls : List Call → List ℕ → Type 0
BeginWithCalls calls bytes = (whole rest : List ℕ) × (bytes ≡ whole ++ rest) × Calls calls whole

-- a source was read to its end: nothing is left of it, where it tells that, or so many bytes were
-- taken that it counts as ended
abbrev pub WasRead : Option (List ℕ) → List ℕ → Type 0
WasRead left bytes = IsAtEnd left ⊎ (2 ^ 62 ≤ length bytes)

-- the bytes end between two calls, or inside one
abbrev pub IsUnfinished : Option Flaw → Type 0
IsUnfinished None = ⊤
IsUnfinished (Some (Inside place)) = ⊤
IsUnfinished _ = ⊥

-- a flaw that stands only at the end of what a source has: its last value is cut
abbrev pub IfInside : Flaw → Type 0 → Type 0
IfInside (Inside place) P = P
IfInside _ P = ⊤
