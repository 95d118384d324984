-- What contracts see of an intake, and what it gives.
use Rattle.std.specs.Prelude.{◌≡◌, ◌⊎◌, ℕ, ◌+◌, ◌<◌, ◌≤◌, List, [], ◌++◌, length, Option, None, Some, Result, Ok, Err}
use Rattle.nv_io.specs.declared.lanes.Flaw.{Flaw}
use Rattle.nv_msgpack.specs.Within.{IsPartial}
use Rattle.nv_rpc.specs.Calls.{Call, request, notice}
use Rattle.nv_rpc.specs.Frames.{call_of_frame}
use Rattle.nv_args.specs.Weight.{weights}
use Rattle.nv_calls.specs.Reading.{most_depth, most_bytes, SpellsCall, Calls, EndsAt, IfInside}
use Rattle.nv_calls.specs.declared.intake.NextCall.{NextCall}
use Rattle.nv_calls.specs.declared.intake.NextCall.TheVariants as next
use Rattle.nv_calls.specs.declared.intake.Unfed.{Unfed}
use Rattle.nv_calls.specs.declared.intake.Unfed.TheVariants as unfed
use Rattle.nv_calls.specs.declared.intake.TheConstants.{PIECE}

-- an intake: the place in the stream of the first byte that it holds, how many calls it gave, the
-- bytes that came and weren't given, and the flaw that it met
pub record IntakeState : Type 0 where
  pub place : ℕ
  pub number : ℕ
  pub held : List ℕ
  pub flaw : Option Flaw

-- one to which no byte has come
abbrev pub fresh_intake : IntakeState
fresh_intake = record { place = 0; number = 0; held = []; flaw = None }

-- how many bytes came to it
abbrev pub came : IntakeState → ℕ
came s = s.place + length s.held

-- it has met no flaw
abbrev pub IsLive : IntakeState → Type 0
IsLive s = s.flaw ≡ None

-- what it holds is nothing, or the proper beginning of a value
abbrev pub WantsMore : IntakeState → Type 0
WantsMore s = (s.held ≡ []) ⊎ IsPartial most_depth most_bytes s.held

-- a piece came to it
abbrev pub with_more : IntakeState → List ℕ → IntakeState
with_more s piece = record s { held = s.held ++ piece }

-- the name of a call, and the strings of its arguments together, have at most so many bytes as a
-- message may have
abbrev pub IsShortCall : Call → Type 0
IsShortCall (request msgid method params) =
    (length method ≤ most_bytes) × (weights params ≤ most_bytes)
IsShortCall (notice method params) = (length method ≤ most_bytes) × (weights params ≤ most_bytes)

-- the call at the front of what it held was given
pub record GivesCall (call : Call) (old new : IntakeState) : Type 0 where
  pub front : List ℕ
  pub spelled : SpellsCall call front
  pub some : 0 < length front
  pub parts : old.held ≡ front ++ new.held
  pub place : new.place ≡ old.place + length front
  pub number : new.number ≡ old.number + 1
  pub live : IsLive new
  pub short : IsShortCall call

-- what an intake has next: a call, or that it wants more bytes, or the flaw of what it holds
abbrev pub HasNext : NextCall → IntakeState → IntakeState → Type 0
HasNext (next.Call frame) old new = GivesCall (call_of_frame frame) old new
HasNext next.More old new = (new ≡ old) × WantsMore old
HasNext (next.Flaw flaw) old new =
    EndsAt old.number old.place old.held (Some flaw) × IfInside flaw ⊥

-- what a read gave: a piece that is held, or nothing, where `over` says that no more bytes come
abbrev pub Feeds : {A : Type 0} → Type 0 → Result A Unfed → List ℕ → IntakeState → IntakeState
    → Type 0
Feeds over (Ok done) piece old new =
    (new ≡ with_more old piece) × (0 < length piece) × (length piece ≤ PIECE)
Feeds over (Err unfed.End) piece old new = (new ≡ old) × (piece ≡ []) × over
Feeds over (Err unfed.Failed) piece old new = (new ≡ old) × (piece ≡ [])
Feeds over (Err unfed.NoMemory) piece old new = new ≡ old

-- of bytes that begin where an intake stood, these calls at their front were given, and the others
-- are held
pub record GaveCalls (calls : List Call) (bytes : List ℕ) (old new : IntakeState) : Type 0 where
  pub whole : List ℕ
  pub spelled : Calls calls whole
  pub parts : bytes ≡ whole ++ new.held
  pub place : new.place ≡ old.place + length whole
  pub number : new.number ≡ old.number + length calls
