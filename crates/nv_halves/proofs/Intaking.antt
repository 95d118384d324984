-- How bytes become calls, step by step.
use Rattle.std.proofs.Common.{Result, Ok, Err, ◌≡◌, ℕ, ◌+◌, ◌<◌, List, [], ◌∷◌, ◌++◌, length, Option, Some, None, refl, sym, ap, ◌∙◌, subst, arith, length-append, append-nil}
use Rattle.nv_io.proofs.StreamLemmas as stream
use Rattle.nv_io.specs.declared.lanes.Flaw.{Flaw}
use Rattle.nv_io.specs.declared.lanes.Flaw.TheVariants.{Bad, TooDeep, TooLong, Inside, NoCall}
use Rattle.nv_turn.specs.Passes.{IsSamePass}
use Rattle.nv_rpc.specs.Calls.{Call, request, notice}
use Rattle.nv_core.specs.Contents.{plain_cause}
use Rattle.nv_core.specs.Bounds.{IsLightCall}
use Rattle.nv_calls.specs.Reading.{EndsAt, ReadsFrom, WasRead, IsUnfinished, IfInside}
use Rattle.nv_calls.specs.Intakes.{IntakeState, IsShortCall, GivesCall, with_more, fresh_intake, came}
use Rattle.nv_calls.proofs.Giving.{calls_read, inside_by, gave_none, gave_fresh, gave_one, gave_fed, gave_then, gave_on, reads_behind, begins_behind, came_more, came_all}
use Rattle.nv_halves.specs.Passes.{WorldPass}
use Rattle.nv_halves.specs.Halves.{Asks, AsksAll, AsksSome, Goes, ReadBy, ReadsHalf}
use Rattle.nv_halves.specs.inside.Insisting.{AsksOnce, Shuts, Stays}
use Rattle.nv_halves.specs.inside.Intakes.{MakesCalls, MakesAll, StopsIn, reader_end_by_flaw, step_of_asked, Steps, MakesHeld, MakesPiece, end_after_close, ClosesAfter}
use Rattle.nv_halves.specs.declared.ends.ReaderEnd.{ReaderEnd}
use Rattle.nv_halves.specs.declared.ends.ReaderEnd.TheVariants as reader
use Rattle.nv_halves.specs.declared.insisting.Asked.{Asked}
use Rattle.nv_halves.specs.declared.insisting.Asked.TheVariants as asked
use Rattle.nv_halves.specs.declared.steps.Stepped.TheVariants as stepped
use Rattle.nv_halves.proofs.Answering.{asks_self, asks_stays, asks_then, shut_asks}

-- a call that came in can be asked of a world
pub light_call : (call : Call) → IsShortCall call → IsLightCall call
light_call (request msgid method params) h = (omega (arith, h.0), omega (arith, h.1))
light_call (notice method params) h = (omega (arith, h.0), omega (arith, h.1))

-- ---- calls that were made

pub makes_none : (s : IntakeState) (p : WorldPass) (session : ℕ) → MakesCalls s.held s s p p session
makes_none s p session = record { calls = []; gave = gave_none s; asks = asks_self p session }

pub makes_fresh : (s : IntakeState) (p : WorldPass) (session : ℕ) → s ≡ fresh_intake → MakesCalls [] s s p p session
makes_fresh s p session e = record { calls = []; gave = gave_fresh s (ap (λ (x : IntakeState). x.held) e); asks = asks_self p session }

-- one step and the next
pub makes_then : (bytes piece : List ℕ) (first second third : IntakeState) (p q t : WorldPass) (session : ℕ) → MakesCalls bytes first second p q session
    → MakesCalls (second.held ++ piece) second third q t session → MakesCalls (bytes ++ piece) first third p t session
makes_then bytes piece first second third p q t session g h = record {
  calls = g.calls ++ h.calls;
  gave = gave_then g.calls h.calls bytes piece first second third g.gave h.gave;
  asks = asks_then p q t session g.calls h.calls g.asks h.asks;
}

-- one step over what is held and the next
pub makes_on : (bytes : List ℕ) (first second third : IntakeState) (p q t : WorldPass) (session : ℕ) → MakesCalls bytes first second p q session
    → MakesCalls second.held second third q t session → MakesCalls bytes first third p t session
makes_on bytes first second third p q t session g h = record {
  calls = g.calls ++ h.calls;
  gave = gave_on g.calls h.calls bytes first second third g.gave h.gave;
  asks = asks_then p q t session g.calls h.calls g.asks h.asks;
}

-- more bytes are needed, and the pass may have seen more
pub makes_waits : (bytes : List ℕ) (first second third : IntakeState) (p q t : WorldPass) (session : ℕ) → MakesCalls bytes first second p q session → third ≡ second → Stays q t
    → MakesCalls bytes first third p t session
makes_waits bytes first second third p q t session g e stays =
    subst (λ (x : IntakeState). MakesCalls bytes first x p t session) (sym e)
    (makes_on bytes first second second p q t session g (record { calls = []; gave = gave_none second; asks = asks_stays q t session stays }))

-- a piece came, and that many bytes more
pub made_more : (piece : List ℕ) (old new : IntakeState) (p q : WorldPass) (session : ℕ) → MakesCalls (old.held ++ piece) old new p q session → came new ≡ came old + length piece
made_more piece old new p q session h = came_more h.calls piece old new h.gave

-- how many bytes came to one
pub made_length : (bytes : List ℕ) (old new : IntakeState) (p q : WorldPass) (session : ℕ) → old ≡ fresh_intake → MakesCalls bytes old new p q session → length bytes ≡ came new
made_length bytes old new p q session e h = came_all h.calls bytes old new (ap (λ (x : IntakeState). x.place) e) h.gave

all_then : (flaw : Option Flaw) (bytes piece : List ℕ) (first second : IntakeState) (p q t : WorldPass) (session : ℕ) → MakesCalls bytes first second p q session
    → MakesAll flaw (second.held ++ piece) second q t session → MakesAll flaw (bytes ++ piece) first p t session
all_then flaw bytes piece first second p q t session g h = record {
  calls = g.calls ++ h.calls;
  reads = reads_behind g.calls h.calls bytes piece flaw first second g.gave h.reads;
  asks = asks_then p q t session g.calls h.calls g.asks h.asks;
}

some_then : (bytes piece : List ℕ) (first second : IntakeState) (p q t : WorldPass) (session : ℕ) → MakesCalls bytes first second p q session
    → AsksSome q t session (second.held ++ piece) → AsksSome p t session (bytes ++ piece)
some_then bytes piece first second p q t session g h = record {
  calls = g.calls ++ h.calls;
  begins = begins_behind g.calls h.calls bytes piece first second g.gave h.begins;
  asks = asks_then p q t session g.calls h.calls g.asks h.asks;
}

-- steps, and then an end
pub stops_then : (over : Type 0) (end : ReaderEnd) (bytes piece : List ℕ) (first second : IntakeState) (p q t : WorldPass) (session : ℕ) → MakesCalls bytes first second p q session
    → StopsIn over end (second.held ++ piece) second q t session → StopsIn over end (bytes ++ piece) first p t session
stops_then over reader.Closed bytes piece first second p q t session g h = (all_then None bytes piece first second p q t session g h.0, h.1)
stops_then over (reader.Malformed flaw) bytes piece first second p q t session g h = (all_then (Some flaw) bytes piece first second p q t session g h.0, h.1)
stops_then over reader.ReadFault bytes piece first second p q t session g h = (h.0, h.1, all_then h.0 bytes piece first second p q t session g h.2)
stops_then over (reader.Gone cause) bytes piece first second p q t session g h = (some_then bytes piece first second p q t session g h.0, h.1)
stops_then over reader.NoMemory bytes piece first second p q t session g h = some_then bytes piece first second p q t session g h

-- steps over what is held, and then an end
pub stops_on : (over : Type 0) (end : ReaderEnd) (bytes : List ℕ) (first second : IntakeState) (p q t : WorldPass) (session : ℕ) → MakesCalls bytes first second p q session
    → StopsIn over end second.held second q t session → StopsIn over end bytes first p t session
stops_on over end bytes first second p q t session g h =
    subst (λ (l : List ℕ). StopsIn over end l first p t session) (append-nil bytes)
    (stops_then over end bytes [] first second p q t session g (subst (λ (l : List ℕ). StopsIn over end l second q t session) (sym (append-nil second.held)) h))

-- an end for another reason that no more bytes come
pub stops_by : (over other : Type 0) (end : ReaderEnd) (bytes : List ℕ) (s : IntakeState) (p q : WorldPass) (session : ℕ) → (over → other) → StopsIn over end bytes s p q session → StopsIn other end bytes s p q session
stops_by over other reader.Closed bytes s p q session f h = (h.0, f h.1)
stops_by over other (reader.Malformed flaw) bytes s p q session f h = (h.0, inside_by over other flaw f h.1)
stops_by over other reader.ReadFault bytes s p q session f h = h
stops_by over other (reader.Gone cause) bytes s p q session f h = h
stops_by over other reader.NoMemory bytes s p q session f h = h

-- ---- ends over what is held

none_made : (flaw : Option Flaw) (s : IntakeState) (p : WorldPass) (session : ℕ) → EndsAt s.number s.place s.held flaw → MakesAll flaw s.held s p p session
none_made flaw s p session e = record { calls = []; reads = e; asks = asks_self p session }

some_made : (bytes : List ℕ) (p q : WorldPass) (session : ℕ) → Asks p q session [] → AsksSome p q session bytes
some_made bytes p q session a = record { calls = []; begins = ([], bytes, refl, refl); asks = a }

by_flaw : (over : Type 0) (flaw : Option Flaw) (bytes : List ℕ) (s : IntakeState) (p : WorldPass) (session : ℕ) → over → IsUnfinished flaw → MakesAll flaw bytes s p p session → StopsIn over (reader_end_by_flaw flaw) bytes s p p session
by_flaw over None bytes s p session o u f = (f, o)
by_flaw over (Some (Inside place)) bytes s p session o u f = (f, o)
by_flaw over (Some (Bad place)) bytes s p session o u f = absurd u
by_flaw over (Some (TooDeep place)) bytes s p session o u f = absurd u
by_flaw over (Some (TooLong place)) bytes s p session o u f = absurd u
by_flaw over (Some (NoCall place)) bytes s p session o u f = absurd u

-- how a reader ends to which no more bytes come, by what its intake holds
abbrev pub EndsHeld : ReaderEnd → IntakeState → Type 0
EndsHeld end s = (flaw : Option Flaw) × (end ≡ reader_end_by_flaw flaw) × IsUnfinished flaw × EndsAt s.number s.place s.held flaw

pub stops_held : (over : Type 0) (end : ReaderEnd) (s : IntakeState) (p : WorldPass) (session : ℕ) → over → EndsHeld end s → StopsIn over end s.held s p p session
stops_held over end s p session o h =
    let E : ReaderEnd → Type 0 = λ x. StopsIn over x s.held s p p session in
    subst E (sym h.1) (by_flaw over h.0 s.held s p session o h.2 (none_made h.0 s p session h.3))

-- with the nothing that came last
nothing_last : (over : Type 0) (end : ReaderEnd) (piece : List ℕ) (s : IntakeState) (p : WorldPass) (session : ℕ) → piece ≡ [] → StopsIn over end s.held s p p session → StopsIn over end (s.held ++ piece) s p p session
nothing_last over end piece s p session e h =
    subst (λ (l : List ℕ). StopsIn over end l s p p session) (sym (ap (λ (l : List ℕ). s.held ++ l) e ∙ append-nil s.held)) h

pub stops_last : (over : Type 0) (end : ReaderEnd) (piece : List ℕ) (s t : IntakeState) (p : WorldPass) (session : ℕ) → piece ≡ [] → t ≡ s → over → EndsHeld end t → StopsIn over end (s.held ++ piece) s p p session
stops_last over end piece s t p session e same o h =
    nothing_last over end piece s p session e (stops_held over end s p session o (subst (λ (x : IntakeState). EndsHeld end x) same h))

-- one whose source failed, and that wanted more
pub stops_failed : (over : Type 0) (piece : List ℕ) (s : IntakeState) (p : WorldPass) (session : ℕ) → piece ≡ [] → (flaw : Option Flaw) × IsUnfinished flaw × EndsAt s.number s.place s.held flaw
    → StopsIn over reader.ReadFault (s.held ++ piece) s p p session
stops_failed over piece s p session e h =
    nothing_last over reader.ReadFault piece s p session e (h.0, h.1, none_made h.0 s p session h.2)

-- memory was wanting
pub stops_wanting : (over : Type 0) (bytes : List ℕ) (s : IntakeState) (p : WorldPass) (session : ℕ) → StopsIn over reader.NoMemory bytes s p p session
stops_wanting over bytes s p session = some_made bytes p p session (asks_self p session)

-- ---- what came of a call

-- a call was given, and was asked
pub stepped_call : (call : Call) (old new : IntakeState) (p q : WorldPass) (session : ℕ) (met : Asked) → GivesCall call old new → AsksOnce met p q session call → Steps (step_of_asked met) old new p q session
stepped_call call old new p q session asked.Done g a = (
  record { calls = call ∷ []; gave = gave_one call old new g; asks = a },
  g.live,
  omega (arith, ap (length {A = ℕ}) g.parts, length-append g.front new.held, g.some),
)
stepped_call call old new p q session (asked.Gone cause) g a = (some_made old.held p q session a.0, a.1)
stepped_call call old new p q session asked.NoMemory g a = some_made old.held p q session a

-- the intake met a flaw
pub stepped_flaw : (flaw : Flaw) (s new : IntakeState) (p : WorldPass) (session : ℕ) → EndsAt s.number s.place s.held (Some flaw) × IfInside flaw ⊥ → Steps (stepped.Ends (reader.Malformed flaw)) s new p p session
stepped_flaw flaw s new p session h = (none_made (Some flaw) s p session h.0, h.1)

-- what came of a call is no fault
pub asked_no_fault : (met : Asked) → step_of_asked met ≡ stepped.Ends reader.ReadFault → ⊥
asked_no_fault asked.Done e = cc
asked_no_fault (asked.Gone cause) e = cc
asked_no_fault asked.NoMemory e = cc

-- ---- a piece

-- a piece was held, and then its calls were made
pub made_piece : {A : Type 0} (over : Type 0) (done : Result A ReaderEnd) (piece : List ℕ) (old middle new : IntakeState) (p q : WorldPass) (session : ℕ) → middle ≡ with_more old piece
    → 0 < length piece → MakesHeld ⊥ done middle.held middle new p q session → MakesPiece over done piece old new p q session
made_piece over (Ok done) piece old middle new p q session e some h =
    (makes_on (old.held ++ piece) old middle new p p q session (record { calls = []; gave = gave_fed piece old middle e; asks = asks_self p session }) h.0, h.1, h.2, some)
made_piece over (Err end) piece old middle new p q session e some h =
    stops_by ⊥ over end (old.held ++ piece) old p q session (λ x. absurd x)
    (stops_on ⊥ end (old.held ++ piece) old middle p p q session (record { calls = []; gave = gave_fed piece old middle e; asks = asks_self p session }) h)

-- ---- the whole of a reader

all_asked : (flaw : Option Flaw) (bytes : List ℕ) (s : IntakeState) (p q : WorldPass) (session : ℕ) → s ≡ fresh_intake → MakesAll flaw bytes s p q session → AsksAll p q session bytes flaw
all_asked flaw bytes s p q session e h = record {
  calls = h.calls;
  reads = subst (λ (x : IntakeState). ReadsFrom x.number x.place h.calls bytes flaw) e h.reads;
  asks = h.asks;
}

-- a reader ended, from its first byte on
pub read_stops : (over : Type 0) (end : ReaderEnd) (bytes : List ℕ) (left : Option (List ℕ)) (s : IntakeState) (p q : WorldPass) (session : ℕ) → s ≡ fresh_intake → (over → WasRead left bytes)
    → StopsIn over end bytes s p q session → ReadBy end p q session bytes left
read_stops over reader.Closed bytes left s p q session n f h = (all_asked None bytes s p q session n h.0, f h.1)
read_stops over (reader.Malformed flaw) bytes left s p q session n f h = (all_asked (Some flaw) bytes s p q session n h.0, inside_by over (WasRead left bytes) flaw f h.1)
read_stops over reader.ReadFault bytes left s p q session n f h = (h.0, h.1, all_asked h.0 bytes s p q session n h.2)
read_stops over (reader.Gone cause) bytes left s p q session n f h = h
read_stops over reader.NoMemory bytes left s p q session n f h = h

-- the pass of a reader is the same, whatever it has seen
pub read_same : (end : ReaderEnd) (p q : WorldPass) (session : ℕ) (bytes : List ℕ) (left : Option (List ℕ)) → ReadBy end p q session bytes left → IsSamePass p q
read_same reader.Closed p q session bytes left h = h.0.asks.same
read_same (reader.Malformed flaw) p q session bytes left h = h.0.asks.same
read_same reader.ReadFault p q session bytes left h = h.2.asks.same
read_same (reader.Gone cause) p q session bytes left h = h.0.asks.same
read_same reader.NoMemory p q session bytes left h = h.asks.same

-- a reader that ended before anything came
pub read_nothing : (p : WorldPass) (session : ℕ) (taken left : Option (List ℕ)) → ReadsHalf reader.NoMemory p p session taken taken left left
read_nothing p session taken left = ([], stream.gave_none taken left, some_made [] p p session (asks_self p session))

-- the end where no more bytes come is no fault
pub no_read_fault : (flaw : Option Flaw) → reader_end_by_flaw flaw ≡ reader.ReadFault → ⊥
no_read_fault None e = cc
no_read_fault (Some flaw) e = cc

-- ---- the close

asks_shut : (p q t : WorldPass) (session : ℕ) (calls : List Call) (met : Asked) → Asks p q session calls → Shuts met q t session → Asks p t session calls
asks_shut p q t session calls asked.Done a h =
    subst (λ (l : List Call). Asks p t session l) (append-nil calls) (asks_then p q t session calls [] a (shut_asks q t session h.0))
asks_shut p q t session calls (asked.Gone cause) a h =
    subst (λ (l : List Call). Asks p t session l) (append-nil calls) (asks_then p q t session calls [] a (asks_stays q t session h.0))
asks_shut p q t session calls asked.NoMemory a h =
    subst (λ (l : List Call). Asks p t session l) (append-nil calls) (asks_then p q t session calls [] a (asks_stays q t session h))

all_shut : (p q t : WorldPass) (session : ℕ) (bytes : List ℕ) (flaw : Option Flaw) (met : Asked) → AsksAll p q session bytes flaw → Shuts met q t session → AsksAll p t session bytes flaw
all_shut p q t session bytes flaw met a h = record { calls = a.calls; reads = a.reads; asks = asks_shut p q t session a.calls met a.asks h }

some_shut : (p q t : WorldPass) (session : ℕ) (bytes : List ℕ) (met : Asked) → AsksSome p q session bytes → Shuts met q t session → AsksSome p t session bytes
some_shut p q t session bytes met a h = record { calls = a.calls; begins = a.begins; asks = asks_shut p q t session a.calls met a.asks h }

all_some : (p q : WorldPass) (session : ℕ) (bytes : List ℕ) (flaw : Option Flaw) → AsksAll p q session bytes flaw → AsksSome p q session bytes
all_some p q session bytes flaw a = record { calls = a.calls; begins = calls_read 0 0 a.calls bytes flaw a.reads; asks = a.asks }

-- where it was to be closed and was gone, and where memory was wanting
gone_read : (cause : _) (p q t : WorldPass) (session : ℕ) (bytes : List ℕ) → AsksSome p q session bytes → Shuts (asked.Gone cause) q t session → AsksSome p t session bytes × Goes t session (plain_cause cause)
gone_read cause p q t session bytes a h = (some_shut p q t session bytes (asked.Gone cause) a h, h.1)

pub closes_after : (end : ReaderEnd) (met : Asked) (q t : WorldPass) (session : ℕ) → Shuts met q t session → ((cause : _) → end ≡ reader.Gone cause → ⊥) → ClosesAfter end (end_after_close end met) q t session
closes_after reader.NoMemory met q t session h live =
    (λ e. e, tt, λ first bytes left a. some_shut first q t session bytes met a h)
closes_after reader.Closed asked.Done q t session h live =
    (λ e. e, h.1, λ first bytes left a. (all_shut first q t session bytes None asked.Done a.0 h, a.1))
closes_after (reader.Malformed flaw) asked.Done q t session h live =
    (λ e. e, h.1, λ first bytes left a. (all_shut first q t session bytes (Some flaw) asked.Done a.0 h, a.1))
closes_after reader.ReadFault asked.Done q t session h live =
    (λ e. e, h.1, λ first bytes left a. (a.0, a.1, all_shut first q t session bytes a.0 asked.Done a.2 h))
closes_after (reader.Gone cause) met q t session h live = absurd (live cause refl)
closes_after reader.Closed (asked.Gone cause) q t session h live =
    (λ e. cc, tt, λ first bytes left a. gone_read cause first q t session bytes (all_some first q session bytes None a.0) h)
closes_after (reader.Malformed flaw) (asked.Gone cause) q t session h live =
    (λ e. cc, tt, λ first bytes left a. gone_read cause first q t session bytes (all_some first q session bytes (Some flaw) a.0) h)
closes_after reader.ReadFault (asked.Gone cause) q t session h live =
    (λ e. cc, tt, λ first bytes left a. gone_read cause first q t session bytes (all_some first q session bytes a.0 a.2) h)
closes_after reader.Closed asked.NoMemory q t session h live =
    (λ e. cc, tt, λ first bytes left a. some_shut first q t session bytes asked.NoMemory (all_some first q session bytes None a.0) h)
closes_after (reader.Malformed flaw) asked.NoMemory q t session h live =
    (λ e. cc, tt, λ first bytes left a. some_shut first q t session bytes asked.NoMemory (all_some first q session bytes (Some flaw) a.0) h)
closes_after reader.ReadFault asked.NoMemory q t session h live =
    (λ e. cc, tt, λ first bytes left a. some_shut first q t session bytes asked.NoMemory (all_some first q session bytes a.0 a.2) h)
