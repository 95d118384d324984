-- inside: the bytes of a session on their way to calls, each step from the intake before it.
use Rattle.std.specs.Prelude.{◌≡◌, ℕ, ◌<◌, List, ◌++◌, length, Option, Some, None, Result, Ok, Err}
use Rattle.nv_io.specs.declared.lanes.Flaw.{Flaw}
use Rattle.nv_rpc.specs.Calls.{Call}
use Rattle.nv_core.specs.Contents.{plain_cause}
use Rattle.nv_calls.specs.Reading.{ReadsFrom, IsUnfinished, IfInside}
use Rattle.nv_calls.specs.Intakes.{IntakeState, IsLive, WantsMore, GaveCalls, with_more}
use Rattle.nv_halves.specs.Passes.{WorldPass}
use Rattle.nv_halves.specs.Halves.{Asks, AsksSome, Goes, ReadBy, LeavesClosed}
use Rattle.nv_halves.specs.inside.Insisting.{Stays}
use Rattle.nv_halves.specs.declared.ends.ReaderEnd.{ReaderEnd}
use Rattle.nv_halves.specs.declared.ends.ReaderEnd.TheVariants as r
use Rattle.nv_halves.specs.declared.insisting.Asked.{Asked}
use Rattle.nv_halves.specs.declared.insisting.Asked.TheVariants as asked
use Rattle.nv_halves.specs.declared.steps.Stepped.{Stepped}
use Rattle.nv_halves.specs.declared.steps.Stepped.TheVariants as stepped

-- of bytes that begin where an intake stood, the calls at their front were made, and the others are
-- held
pub record MakesCalls (bytes : List ℕ) (old new : IntakeState) (p q : WorldPass) (s : ℕ) : Type 0
  where
    pub calls : List Call
    pub gave : GaveCalls calls bytes old new
    pub asks : Asks p q s calls

-- the bytes that begin where an intake stood hold calls and then this flaw or none, and all of the
-- calls were made
pub record MakesAll (flaw : Option Flaw) (bytes : List ℕ) (old : IntakeState) (p q : WorldPass)
    (s : ℕ) : Type 0 where
  pub calls : List Call
  pub reads : ReadsFrom old.number old.place calls bytes flaw
  pub asks : Asks p q s calls

-- how a reader ends within bytes that begin where its intake stood, before it closes the session,
-- where `over` says that no more bytes come
abbrev pub StopsIn : Type 0 → ReaderEnd → List ℕ → IntakeState → WorldPass → WorldPass → ℕ → Type 0
StopsIn over r.Closed bytes old p q s = MakesAll None bytes old p q s × over
StopsIn over (r.Malformed flaw) bytes old p q s =
    MakesAll (Some flaw) bytes old p q s × IfInside flaw over
StopsIn over r.ReadFault bytes old p q s =
    (flaw : Option Flaw) × IsUnfinished flaw × MakesAll flaw bytes old p q s
StopsIn over (r.Gone cause) bytes old p q s =
    AsksSome p q s bytes × Goes q s (plain_cause cause)
StopsIn over r.NoMemory bytes old p q s = AsksSome p q s bytes

-- the end where no more bytes come
abbrev pub reader_end_by_flaw : Option Flaw → ReaderEnd
reader_end_by_flaw None = r.Closed
reader_end_by_flaw (Some flaw) = r.Malformed flaw

-- what came of a call that was asked
abbrev pub step_of_asked : Asked → Stepped
step_of_asked asked.Done = stepped.On
step_of_asked (asked.Gone cause) = stepped.Ends (r.Gone cause)
step_of_asked asked.NoMemory = stepped.Ends r.NoMemory

-- what a step over what an intake holds did: a call was made, or more bytes are needed, or the
-- reader ended
abbrev pub Steps : Stepped → IntakeState → IntakeState → WorldPass → WorldPass → ℕ → Type 0
Steps stepped.On old new p q s =
    MakesCalls old.held old new p q s × IsLive new × (length new.held < length old.held)
Steps stepped.Waits old new p q s = (new ≡ old) × WantsMore old × Stays p q
Steps (stepped.Ends end) old new p q s = StopsIn ⊥ end old.held old p q s

-- what a reader did with these bytes: it made the calls and needs more bytes, or it ended
abbrev pub MakesHeld : {A : Type 0} → Type 0 → Result A ReaderEnd → List ℕ → IntakeState
    → IntakeState → WorldPass → WorldPass → ℕ → Type 0
MakesHeld over (Ok done) bytes old new p q s =
    MakesCalls bytes old new p q s × IsLive new × WantsMore new
MakesHeld over (Err end) bytes old new p q s = StopsIn over end bytes old p q s

-- what one read gave: a piece that is held, or an end, where `over` says that no more bytes come
abbrev pub HoldsPiece : {A : Type 0} → Type 0 → Result A ReaderEnd → List ℕ → IntakeState
    → IntakeState → Type 0
HoldsPiece over (Ok done) piece old new = (new ≡ with_more old piece) × (0 < length piece)
HoldsPiece over (Err end) piece old new =
    (p : WorldPass) (s : ℕ) → StopsIn over end (old.held ++ piece) old p p s

-- what a reader did with a piece: it made the calls that are whole by it and needs more bytes, or
-- it ended
abbrev pub MakesPiece : {A : Type 0} → Type 0 → Result A ReaderEnd → List ℕ → IntakeState
    → IntakeState → WorldPass → WorldPass → ℕ → Type 0
MakesPiece over (Ok done) piece old new p q s =
    MakesCalls (old.held ++ piece) old new p q s × IsLive new × WantsMore new
    × (0 < length piece)
MakesPiece over (Err end) piece old new p q s = StopsIn over end (old.held ++ piece) old p q s

-- how a reader ends that was to close its session, by what its close met
abbrev pub end_after_close : ReaderEnd → Asked → ReaderEnd
end_after_close r.NoMemory met = r.NoMemory
end_after_close end asked.Done = end
end_after_close end (asked.Gone cause) = r.Gone cause
end_after_close end asked.NoMemory = r.NoMemory

-- a reader that ended so, and then so, has closed its session, unless it was gone: whatever it read
-- before, it has now read so
abbrev pub ClosesAfter : ReaderEnd → ReaderEnd → WorldPass → WorldPass → ℕ → Type 0
ClosesAfter end ended p q s =
    ((ended ≡ r.ReadFault) → (end ≡ r.ReadFault)) × LeavesClosed ended q s
    × ((first : WorldPass) (bytes : List ℕ) (left : Option (List ℕ))
    → ReadBy end first p s bytes left → ReadBy ended first q s bytes left)
