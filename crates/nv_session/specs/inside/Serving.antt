-- inside: what the steps of a session do, each from the state of the session before it.
use Rattle.std.specs.Prelude.{◌≡◌, ◌⊎◌, ℕ, ◌<◌, Bool, true, false, List, [], ◌∷◌, ◌++◌, length, Option, Some, None, Result, Ok, Err}
use Rattle.nv_io.specs.declared.lanes.Flaw.{Flaw}
use Rattle.nv_io.specs.declared.lanes.Ended.{Ended}
use Rattle.nv_io.specs.declared.lanes.Ended.TheVariants.{Closed, Malformed, Overflowed, ReadFault, WriteFault, Quit, NoMemory}
use Rattle.nv_rpc.specs.Calls.{Call}
use Rattle.nv_history.specs.Events.{open_session, Entry, Cause, overflowed_at, quit_at}
use Rattle.nv_history.specs.Solo.{entry_alone}
use Rattle.nv_linegrid.specs.Told.{Told, nothing_told}
use Rattle.nv_painter.specs.Painters.{Painting}
use Rattle.nv_world.specs.Worlds.{WorldRecord, start_of}
use Rattle.nv_calls.specs.Reading.{Calls, ReadsFrom, IfInside, IsUnfinished}
use Rattle.nv_calls.specs.Intakes.{IntakeState, IsLive, WantsMore, GaveCalls, fresh_intake, with_more}
use Rattle.nv_core.specs.declared.start.Start.{Start}
use Rattle.nv_speech.specs.Flows.{FlowsOut, IsFrontOut}
use Rattle.nv_speech.specs.declared.saying.Unsaid.{Unsaid}
use Rattle.nv_speech.specs.declared.saying.Unsaid.TheVariants as unsaid
use Rattle.nv_session.specs.Ends.{IsFront}
use Rattle.nv_session.specs.inside.Worlds.{entries_in}
use Rattle.nv_session.specs.inside.Alone.{IsAlone, IsClosing, WentOn, WentPart, WentUpTo}
use Rattle.nv_session.specs.declared.session.Session.{Session}

-- the bytes of a session that wait to be written
abbrev pub bytes_waiting : Session → List ℕ
bytes_waiting s = s.room.items

-- a session to which nothing came
pub record IsUnusedSession (s : Session) : Type 0 where
  pub fresh : s.intake ≡ fresh_intake
  pub untold : s.painter.told ≡ nothing_told
  pub nothing_waits : bytes_waiting s ≡ []

-- a session on its way: its intake, its world, and what its painter keeps
pub record SessionState : Type 0 where
  pub intake : IntakeState
  pub world : WorldRecord
  pub painter : Painting

abbrev pub state_of : Session → WorldRecord → SessionState
state_of s world = record {
  intake = s.intake;
  world = world;
  painter = s.painter;
}

-- what its world began with
abbrev pub begun_with : SessionState → Start
begun_with s = start_of s.world

-- the history of a session
abbrev pub session_entries : SessionState → List Entry
session_entries s = entries_in s.world

-- what the client of a session was told
abbrev pub client_told : SessionState → Told
client_told s = s.painter.told

-- the state of a session that can go on
pub record IsReady (s : SessionState) : Type 0 where
  pub live : IsLive s.intake
  pub alone : IsAlone (begun_with s) (session_entries s)

-- the state of a session to which no byte has come
pub record IsNew (s : SessionState) : Type 0 where
  pub fresh : s.intake ≡ fresh_intake
  pub first : session_entries s ≡ entry_alone open_session ∷ []
  pub untold : client_told s ≡ nothing_told

-- a call was answered
pub record AnswersCall (call : Call) (old new : SessionState)
    (before after : Option (List ℕ)) : Type 0 where
  pub intake : new.intake ≡ old.intake
  pub begins : begun_with new ≡ begun_with old
  pub alone : IsAlone (begun_with old) (session_entries new)
  pub went : WentOn (begun_with old) (call ∷ []) (session_entries old) (session_entries new)
      (client_told old) (client_told new) before after

-- how a session ends by a call: memory was wanting for its answer, or a write failed, or the call
-- ended the session
abbrev pub StopsAtCall : Ended → Call → WorldRecord → WorldRecord → Told → Option (List ℕ)
    → Option (List ℕ) → Type 0
StopsAtCall NoMemory call old new told before after =
    WentPart (start_of old) IsFront [] (call ∷ []) (entries_in old) (entries_in new) told before
    after
StopsAtCall WriteFault call old new told before after =
    WentPart (start_of old) IsClosing [] (call ∷ []) (entries_in old) (entries_in new) told before
    after
StopsAtCall (Overflowed entry) call old new told before after =
    WentUpTo (start_of old) (overflowed_at entry) (call ∷ []) (entries_in old) (entries_in new) told
    before after
StopsAtCall (Quit entry) call old new told before after =
    WentUpTo (start_of old) (quit_at entry) (call ∷ []) (entries_in old) (entries_in new) told
    before after
StopsAtCall _ call old new told before after = ⊥

-- what came of a call, where so many bytes of its answer were to go out
abbrev pub AnswersOne : {A : Type 0} → Result A Ended → Call → SessionState → SessionState → List ℕ
    → Type 0
AnswersOne (Ok done) call old new added = AnswersCall call old new (Some []) (Some added)
AnswersOne (Err ended) call old new added =
    StopsAtCall ended call old.world new.world (client_told old) (Some []) (Some added)

-- an end by which a batch goes out in part
abbrev pub CutsShort : Ended → Type 0
CutsShort WriteFault = Unit {0}
CutsShort NoMemory = Unit {0}
CutsShort _ = ⊥

-- what becomes of bytes that are added to those that wait: some went out from the front, and the
-- others wait; or a front went out, and nothing waits any more, since the session ends
abbrev pub FlowsBy : {A : Type 0} → Result A Ended → Option (List ℕ) → Option (List ℕ) → List ℕ
    → List ℕ → List ℕ → Type 0
FlowsBy (Ok done) before after waited added waits = FlowsOut before after waited added waits
FlowsBy (Err ended) before after waited added waits =
    FlowsOut before after waited added waits
    ⊎ (CutsShort ended × (waits ≡ []) × IsFrontOut before after (waited ++ added))

-- how a session ends of which a batch didn't go out whole
abbrev pub ended_unsaid : Unsaid → Ended
ended_unsaid unsaid.WriteFault = WriteFault
ended_unsaid unsaid.NoMemory = NoMemory

-- Of bytes that begin where a session stood, the calls at their front were answered, and the others
-- are held.
pub record ServesCalls (bytes : List ℕ) (old new : SessionState)
    (before after : Option (List ℕ)) : Type 0 where
  pub calls : List Call
  pub gave : GaveCalls calls bytes old.intake new.intake
  pub begins : begun_with new ≡ begun_with old
  pub went : WentOn (begun_with old) calls (session_entries old) (session_entries new)
      (client_told old) (client_told new) before after

-- the bytes that begin where a session stood hold calls and then this flaw or none, and all of the
-- calls were answered
pub record FinishesCalls (flaw : Option Flaw) (bytes : List ℕ) (old new : SessionState)
    (before after : Option (List ℕ)) : Type 0 where
  pub calls : List Call
  pub reads : ReadsFrom old.intake.number old.intake.place calls bytes flaw
  pub later : Told
  pub went : WentOn (begun_with old) calls (session_entries old) (session_entries new)
      (client_told old) later before after
  pub alone : IsAlone (begun_with old) (session_entries new)

-- the bytes that begin where a session stood begin with calls whose answers went out whole, and a
-- prefix of the answers to the next ones went out
pub record StopsShort (Is : Start → List Call → List Entry → Type 0) (bytes : List ℕ)
    (old new : SessionState) (before after : Option (List ℕ)) : Type 0 where
  pub calls : List Call
  pub next : List Call
  pub whole : List ℕ
  pub rest : List ℕ
  pub parts : bytes ≡ whole ++ rest
  pub spelled : Calls (calls ++ next) whole
  pub went : WentPart (begun_with old) Is calls next (session_entries old) (session_entries new)
      (client_told old) before after

-- the bytes that begin where a session stood begin with calls that were answered whole, the last of
-- which closed the session for this cause
pub record StopsClosed (cause : Cause) (bytes : List ℕ) (old new : SessionState)
    (before after : Option (List ℕ)) : Type 0 where
  pub calls : List Call
  pub whole : List ℕ
  pub rest : List ℕ
  pub parts : bytes ≡ whole ++ rest
  pub spelled : Calls calls whole
  pub went : WentUpTo (begun_with old) cause calls (session_entries old) (session_entries new)
      (client_told old) before after

-- How a session ends within bytes that begin where it stood, before it is closed, where `over` says
-- that no more bytes come.
abbrev pub EndsIn : Type 0 → Ended → List ℕ → SessionState → SessionState → Option (List ℕ)
    → Option (List ℕ) → Type 0
EndsIn over Closed bytes old new before after =
    FinishesCalls None bytes old new before after × over
EndsIn over (Malformed flaw) bytes old new before after =
    FinishesCalls (Some flaw) bytes old new before after × IfInside flaw over
EndsIn over ReadFault bytes old new before after =
    (flaw : Option Flaw) × IsUnfinished flaw × FinishesCalls flaw bytes old new before after
EndsIn over WriteFault bytes old new before after =
    StopsShort IsClosing bytes old new before after
EndsIn over NoMemory bytes old new before after = StopsShort IsFront bytes old new before after
EndsIn over (Overflowed entry) bytes old new before after =
    StopsClosed (overflowed_at entry) bytes old new before after
EndsIn over (Quit entry) bytes old new before after =
    StopsClosed (quit_at entry) bytes old new before after

-- the end of a session to which no more bytes come
abbrev pub end_by_flaw : Option Flaw → Ended
end_by_flaw None = Closed
end_by_flaw (Some flaw) = Malformed flaw

-- the end of a session whose writing failed, where it was to end so
abbrev pub end_by_fault : Ended → Ended
end_by_fault NoMemory = NoMemory
end_by_fault _ = WriteFault

-- what a step over what a session holds did: calls were answered, or all of them were and more
-- bytes are needed, or the session ended
abbrev pub StepsOn : Result Bool Ended → SessionState → SessionState → Option (List ℕ)
    → Option (List ℕ) → Type 0
StepsOn (Ok true) old new before after =
    ServesCalls old.intake.held old new before after × IsReady new
    × (length new.intake.held < length old.intake.held)
StepsOn (Ok false) old new before after =
    ServesCalls old.intake.held old new before after × IsReady new × WantsMore new.intake
StepsOn (Err ended) old new before after = EndsIn ⊥ ended old.intake.held old new before after

-- what a session did with these bytes: it answered the calls and needs more bytes, or it ended
abbrev pub Serves : {A : Type 0} → Type 0 → Result A Ended → List ℕ → SessionState → SessionState
    → Option (List ℕ) → Option (List ℕ) → Type 0
Serves over (Ok done) bytes old new before after =
    ServesCalls bytes old new before after × IsReady new × WantsMore new.intake
Serves over (Err ended) bytes old new before after = EndsIn over ended bytes old new before after

-- what one read gave to a session: a piece that it holds, or its end, where `over` says that no
-- more bytes come
abbrev pub TakesPiece : {A : Type 0} → Type 0 → Result A Ended → List ℕ → SessionState
    → SessionState → Type 0
TakesPiece over (Ok done) piece old new =
    (new.intake ≡ with_more old.intake piece) × (new.world ≡ old.world)
    × (new.painter ≡ old.painter) × (0 < length piece)
TakesPiece over (Err ended) piece old new =
    (out : Option (List ℕ)) → EndsIn over ended (old.intake.held ++ piece) old new out out

-- what a session did with a piece: it answered the calls that are whole by it and needs more bytes,
-- or it ended
abbrev pub Turns : {A : Type 0} → Type 0 → Result A Ended → List ℕ → SessionState → SessionState
    → Option (List ℕ) → Option (List ℕ) → Type 0
Turns over (Ok done) piece old new before after =
    ServesCalls (old.intake.held ++ piece) old new before after × IsReady new
    × WantsMore new.intake × (0 < length piece)
Turns over (Err ended) piece old new before after =
    EndsIn over ended (old.intake.held ++ piece) old new before after
