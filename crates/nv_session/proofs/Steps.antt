-- What each step of a session is, in the words of its bytes.
use Rattle.std.proofs.Common.{◌≡◌, ℕ, ◌<◌, List, [], ◌∷◌, ◌++◌, length, Option, Some, None, Result, Ok, Err, refl, sym, ap, ◌∙◌, subst, arith, length-append}
use Rattle.std.proofs.lemmas.List.{append-nil}
use Rattle.std.specs.Prelude.{IfOk, OnOk, OnErr}
use Rattle.std.specs.Io.KnownBytes.{append_known}
use Rattle.nv_io.specs.declared.lanes.Flaw.{Flaw}
use Rattle.nv_io.specs.declared.lanes.Flaw.TheVariants.{Bad, TooDeep, TooLong, Inside, NoCall}
use Rattle.nv_io.specs.declared.lanes.Ended.{Ended}
use Rattle.nv_io.specs.declared.lanes.Ended.TheVariants.{Closed, Malformed, Overflowed, ReadFault, WriteFault, Quit, NoMemory}
use Rattle.nv_rpc.specs.Calls.{Call, request, notice}
use Rattle.nv_rpc.specs.Messages.{Sent}
use Rattle.nv_history.specs.Events.{open_session, Entry, Cause, overflowed_at, quit_at}
use Rattle.nv_history.specs.Asking.{calls_of}
use Rattle.nv_history.specs.Solo.{entry_alone}
use Rattle.nv_world.specs.Worlds.{WorldRecord, start_of}
use Rattle.nv_core.specs.Bounds.{IsLightCall}
use Rattle.nv_screen.specs.declared.scene.Scene.{Scene}
use Rattle.nv_linegrid.specs.Told.{Told, nothing_told}
use Rattle.nv_history.specs.Spoken.{told_with}
use Rattle.nv_session.specs.Sending.{AreBytesTaken, history_of, cause_after, HasSession}
use Rattle.nv_core.specs.declared.start.Start.{Start}
use Rattle.nv_calls.specs.Reading.{EndsAt, IsUnfinished, IfInside}
use Rattle.nv_calls.specs.Intakes.{IntakeState, IsShortCall, GivesCall, fresh_intake}
use Rattle.nv_calls.proofs.Giving.{gave_fresh, gave_one}
use Rattle.nv_session.specs.Ends.{IsFront}
use Rattle.nv_session.specs.inside.Alone.{HasNothingDue, IsAlone, IsClosing, IsSent, Answers, IsUnanswered, WentOn, WentPart, WentUpTo}
use Rattle.nv_speech.specs.Flows.{bytes_said}
use Rattle.nv_speech.specs.declared.saying.Unsaid.{Unsaid}
use Rattle.nv_speech.specs.declared.saying.Unsaid.TheVariants as unsaid
use Rattle.nv_session.specs.inside.Worlds.{entries_in, IsEndedBy}
use Rattle.nv_session.specs.inside.Serving.{SessionState, begun_with, session_entries, client_told, IsReady, IsNew, AnswersCall, StopsAtCall, ServesCalls, FinishesCalls, StopsShort, StopsClosed, EndsIn, CutsShort, end_by_flaw, ended_unsaid}
use Rattle.nv_session.proofs.Sending.{sent_bytes, sent_alike, sent_nil}
use Rattle.nv_speech.proofs.Flowing.{known_none}
use Rattle.nv_session.proofs.Serving.{went_none, take_all}
use Rattle.nv_session.proofs.Lone.{alone_front, rest_front, closing, closed_taken, alone_if, whatever}

-- a call that came in can be asked of a world
pub light_call : (call : Call) → IsShortCall call → IsLightCall call
light_call (request msgid method params) h = (omega (arith, h.0), omega (arith, h.1))
light_call (notice method params) h = (omega (arith, h.0), omega (arith, h.1))

-- a session to which no byte has come
pub begun : (s : SessionState) → s.intake ≡ fresh_intake → IsAlone (begun_with s) (session_entries s) → session_entries s ≡ entry_alone open_session ∷ [] → client_told s ≡ nothing_told → IsNew s × IsReady s
begun s e alone t untold =
    (record { fresh = e; first = t; untold = untold }, record { live = ap (λ (x : IntakeState). x.flaw) e; alone = alone })

-- the session of a history that goes on is there
pub alone_has : (start : Start) (h : List Entry) → IsAlone start h → HasSession start h
alone_has start h a = record { now = a.nothing_due.now; runs = a.nothing_due.runs; one = a.nothing_due.one; there = a.nothing_due.there }

pub due_has : (start : Start) (h : List Entry) → HasNothingDue start h → HasSession start h
due_has start h a = record { now = a.now; runs = a.runs; one = a.one; there = a.there }

-- what is sent of the calls that were answered
pub rest_answered : (start : Start) (h : List Entry) (told : Told) (a : HasNothingDue start h) (bytes : List ℕ) → IsSent start h told bytes → AreBytesTaken start (history_of start (calls_of 1 h ++ [])) (bytes ++ [])
rest_answered start h told a bytes s =
    sent_nil start (history_of start (calls_of 1 h ++ [])) bytes
    (subst (λ (l : List Call). AreBytesTaken start (history_of start l) bytes) (sym (append-nil (calls_of 1 h)))
    (sent_alike start h (history_of start (calls_of 1 h)) bytes (closed_taken start (calls_of 1 h) h (closing start h a)) (sent_bytes start h told bytes s)))

-- nothing more was answered, and memory was wanting for what comes
none_part : (start : Start) (calls : List Call) (h : List Entry) (told : Told) (out : Option (List ℕ)) → IsAlone start h → WentPart start IsFront [] calls h h told out out
none_part start calls h told out a = record {
  has = alone_has start h a;
  gave = [];
  last = [];
  count = 0;
  answered = λ bytes s. rest_answered start h told a.nothing_due bytes s;
  sent = λ bytes s. sent_nil start h (bytes ++ []) (sent_nil start h bytes (sent_bytes start h told bytes s));
  written = known_none out;
  is = subst (λ (l : List Call). IsFront start (l ++ calls) h) (sym (append-nil (calls_of 1 h))) (alone_front start h calls a);
}

-- nothing was answered yet
pub cut_none : (bytes : List ℕ) (s last : SessionState) (out : Option (List ℕ)) → IsReady s → last.world ≡ s.world → StopsShort IsFront bytes s last out out
cut_none bytes s last out r e = record {
  calls = [];
  next = [];
  whole = [];
  rest = bytes;
  parts = refl;
  spelled = refl;
  went = subst (λ (k : WorldRecord). WentPart (begun_with s) IsFront [] [] (session_entries s) (entries_in k) (client_told s) out out) (sym e) (none_part (begun_with s) [] (session_entries s) (client_told s) out r.alone);
}

-- ---- ends over what is held

-- the bytes held end so, and nothing was done with them
finished_at : (flaw : Option Flaw) (s last : SessionState) (out : Option (List ℕ)) → IsReady s → last.world ≡ s.world → EndsAt s.intake.number s.intake.place s.intake.held flaw
    → FinishesCalls flaw s.intake.held s last out out
finished_at flaw s last out r same e = record {
  calls = [];
  reads = e;
  later = client_told s;
  went = subst (λ (x : WorldRecord). WentOn (begun_with s) [] (session_entries s) (entries_in x) (client_told s) (client_told s) out out) (sym same) (went_none (begun_with s) (session_entries s) (client_told s) out);
  alone = subst (λ (x : WorldRecord). IsAlone (begun_with s) (entries_in x)) (sym same) r.alone;
}

ends_by_flaw : (over : Type 0) (flaw : Option Flaw) (bytes : List ℕ) (s last : SessionState) (out : Option (List ℕ)) → over → IsUnfinished flaw → FinishesCalls flaw bytes s last out out → EndsIn over (end_by_flaw flaw) bytes s last out out
ends_by_flaw over None bytes s last out o u f = (f, o)
ends_by_flaw over (Some (Inside place)) bytes s last out o u f = (f, o)
ends_by_flaw over (Some (Bad place)) bytes s last out o u f = absurd u
ends_by_flaw over (Some (TooDeep place)) bytes s last out o u f = absurd u
ends_by_flaw over (Some (TooLong place)) bytes s last out o u f = absurd u
ends_by_flaw over (Some (NoCall place)) bytes s last out o u f = absurd u

-- how a session ends to which no more bytes come, by what its intake holds
abbrev pub EndsHeld : Ended → IntakeState → Type 0
EndsHeld ended t = (flaw : Option Flaw) × (ended ≡ end_by_flaw flaw) × IsUnfinished flaw × EndsAt t.number t.place t.held flaw

-- with the nothing that came last
with_nothing : (over : Type 0) (ended : Ended) (piece : List ℕ) (s last : SessionState) (out : Option (List ℕ)) → piece ≡ [] → EndsIn over ended s.intake.held s last out out → EndsIn over ended (s.intake.held ++ piece) s last out out
with_nothing over ended piece s last out e h =
    subst (λ (l : List ℕ). EndsIn over ended l s last out out) (sym (ap (λ (l : List ℕ). s.intake.held ++ l) e ∙ append-nil s.intake.held)) h

pub ends_last : (over : Type 0) (ended : Ended) (piece : List ℕ) (s last : SessionState) (t : IntakeState) (out : Option (List ℕ)) → piece ≡ [] → t ≡ s.intake → last.world ≡ s.world → over → IsReady s → EndsHeld ended t
    → EndsIn over ended (s.intake.held ++ piece) s last out out
ends_last over ended piece s last t out e same kept o r h =
    let w : EndsHeld ended s.intake = subst (λ (x : IntakeState). EndsHeld ended x) same h in
    let E : Ended → Type 0 = λ x. EndsIn over x s.intake.held s last out out in
    with_nothing over ended piece s last out e (subst E (sym w.1) (ends_by_flaw over w.0 s.intake.held s last out o w.2 (finished_at w.0 s last out r kept w.3)))

-- a session whose source failed
pub fails_last : (over : Type 0) (piece : List ℕ) (s last : SessionState) (out : Option (List ℕ)) → piece ≡ [] → last.world ≡ s.world → IsReady s → (flaw : Option Flaw) × IsUnfinished flaw × EndsAt s.intake.number s.intake.place s.intake.held flaw
    → EndsIn over ReadFault (s.intake.held ++ piece) s last out out
fails_last over piece s last out e kept r h =
    with_nothing over ReadFault piece s last out e (h.0, h.1, finished_at h.0 s last out r kept h.2)

-- the intake met a flaw
pub flawed : (flaw : Flaw) (s last : SessionState) (out : Option (List ℕ)) → IsReady s → last.world ≡ s.world → EndsAt s.intake.number s.intake.place s.intake.held (Some flaw) × IfInside flaw ⊥
    → FinishesCalls (Some flaw) s.intake.held s last out out × IfInside flaw ⊥
flawed flaw s last out r kept h = (finished_at (Some flaw) s last out r kept h.0, h.1)

-- ---- a call that was given

cut_in_call : (Is : Start → List Call → List Entry → Type 0) (call : Call) (old new : SessionState) (t : IntakeState) (before after : Option (List ℕ)) → GivesCall call old.intake t
    → WentPart (begun_with old) Is [] (call ∷ []) (session_entries old) (session_entries new) (client_told old) before after → StopsShort Is old.intake.held old new before after
cut_in_call Is call old new t before after g b = record {
  calls = [];
  next = call ∷ [];
  whole = g.front;
  rest = t.held;
  parts = g.parts;
  spelled = (g.front, [], g.spelled, sym (append-nil g.front), refl);
  went = b;
}

closed_in_call : (cause : Cause) (call : Call) (old new : SessionState) (t : IntakeState) (before after : Option (List ℕ)) → GivesCall call old.intake t
    → WentUpTo (begun_with old) cause (call ∷ []) (session_entries old) (session_entries new) (client_told old) before after → StopsClosed cause old.intake.held old new before after
closed_in_call cause call old new t before after g b = record {
  calls = call ∷ [];
  whole = g.front;
  rest = t.held;
  parts = g.parts;
  spelled = (g.front, [], g.spelled, sym (append-nil g.front), refl);
  went = b;
}

-- it ended the session
pub stopped_at : (ended : Ended) (call : Call) (old new : SessionState) (t : IntakeState) (before after : Option (List ℕ)) → GivesCall call old.intake t
    → StopsAtCall ended call old.world new.world (client_told old) before after → EndsIn ⊥ ended old.intake.held old new before after
stopped_at (Malformed flaw) call old new t before after g h = absurd h
stopped_at WriteFault call old new t before after g h = cut_in_call IsClosing call old new t before after g h
stopped_at NoMemory call old new t before after g h = cut_in_call IsFront call old new t before after g h
stopped_at (Overflowed entry) call old new t before after g h = closed_in_call (overflowed_at entry) call old new t before after g h
stopped_at (Quit entry) call old new t before after g h = closed_in_call (quit_at entry) call old new t before after g h
stopped_at Closed call old new t before after g h = absurd h
stopped_at ReadFault call old new t before after g h = absurd h

-- it was answered
pub served_one : (call : Call) (old new : SessionState) (t : IntakeState) (before after : Option (List ℕ)) → GivesCall call old.intake t → AnswersCall call (record old { intake = t }) new before after
    → ServesCalls old.intake.held old new before after × IsReady new × (length new.intake.held < length old.intake.held)
served_one call old new t before after g a =
    let given : GivesCall call old.intake new.intake = subst (λ (x : IntakeState). GivesCall call old.intake x) (sym a.intake) g in (
      record { calls = call ∷ []; gave = gave_one call old.intake new.intake given; begins = a.begins; went = a.went },
      record { live = given.live; alone = subst (λ (d : Start). IsAlone d (session_entries new)) (sym a.begins) a.alone },
      omega (arith, ap (length {A = ℕ}) given.parts, length-append given.front new.intake.held, given.some),
    )

-- a session to which nothing came
pub served_new : (s : SessionState) (out : Option (List ℕ)) → IsNew s → ServesCalls [] s s out out
served_new s out n = record {
  calls = [];
  gave = gave_fresh s.intake (ap (λ (x : IntakeState). x.held) n.fresh);
  begins = refl;
  went = went_none (begun_with s) (session_entries s) (client_told s) out;
}

-- ---- a call, and what it made due, on its way out

-- a call wasn't answered
pub unanswered_part : (start : Start) (h k : List Entry) (call : Call) (told : Told) (out : Option (List ℕ)) → IsAlone start h → IsUnanswered start call h k → WentPart start IsFront [] (call ∷ []) h k told out out
unanswered_part start h k call told out a u = record {
  has = u.has;
  gave = [];
  last = [];
  count = 0;
  answered = λ bytes s. rest_answered start h told a.nothing_due bytes s;
  sent = λ bytes s. sent_nil start k (bytes ++ []) (sent_nil start k bytes (sent_alike start h k bytes u.taken (sent_bytes start h told bytes s)));
  written = known_none out;
  is = subst (λ (l : List Call). IsFront start (l ++ call ∷ []) k) (sym (append-nil (calls_of 1 h))) u.front;
}

-- a call was answered, and its answer went out in part: how that is, by what its history is
cut_part : (start : Start) (Is : Start → List Call → List Entry → Type 0) (h k : List Entry) (call : Call) (messages : List Sent) (scene : Option Scene) (told : Told) → IsAlone start h → Answers start call messages scene h k
    → Is start (calls_of 1 k) k → WentPart start Is [] (call ∷ []) h k told (Some []) (Some (bytes_said told messages scene))
cut_part start Is h k call messages scene told a w is = record {
  has = due_has start k w.nothing_due;
  gave = [];
  last = bytes_said told messages scene;
  count = length (bytes_said told messages scene);
  answered = λ bytes s. rest_answered start h told a.nothing_due bytes s;
  sent = λ bytes s.
      subst (λ (l : List ℕ). AreBytesTaken start k (l ++ bytes_said told messages scene)) (sym (append-nil bytes))
      (sent_bytes start k (told_with told scene) (bytes ++ bytes_said told messages scene) (w.sent told bytes s));
  written = ap (λ (l : List ℕ). Some l) (sym (take_all (bytes_said told messages scene)));
  is = subst (λ (l : List Call). Is start (l ++ call ∷ []) k) (sym (append-nil (calls_of 1 h))) (subst (λ (l : List Call). Is start l k) w.asked is);
}

-- a batch didn't go out whole
pub cut_at : (ended : Ended) (old new : WorldRecord) (call : Call) (messages : List Sent) (scene : Option Scene) (told : Told) → CutsShort ended → IsAlone (start_of old) (entries_in old)
    → Answers (start_of old) call messages scene (entries_in old) (entries_in new) → StopsAtCall ended call old new told (Some []) (Some (bytes_said told messages scene))
cut_at WriteFault old new call messages scene told short a w =
    cut_part (start_of old) IsClosing (entries_in old) (entries_in new) call messages scene told a w (closing (start_of old) (entries_in new) w.nothing_due)
cut_at NoMemory old new call messages scene told short a w =
    cut_part (start_of old) IsFront (entries_in old) (entries_in new) call messages scene told a w (rest_front (start_of old) (entries_in new) w.nothing_due)
cut_at Closed old new call messages scene told short a w = absurd short
cut_at (Malformed flaw) old new call messages scene told short a w = absurd short
cut_at ReadFault old new call messages scene told short a w = absurd short
cut_at (Overflowed entry) old new call messages scene told short a w = absurd short
cut_at (Quit entry) old new call messages scene told short a w = absurd short

-- all of it waits
spoken_all : (start : Start) (h k : List Entry) (call : Call) (messages : List Sent) (scene : Option Scene) (told : Told) (before after : Option (List ℕ)) → Answers start call messages scene h k
    → after ≡ append_known before (bytes_said told messages scene) → WentOn start (call ∷ []) h k told (told_with told scene) before after
spoken_all start h k call messages scene told before after w e =
    record { gave = bytes_said told messages scene; asked = w.asked; sent = λ bytes s. w.sent told bytes s; written = e }

pub goes_on : (call : Call) (messages : List Sent) (scene : Option Scene) (old new : SessionState) (before after : Option (List ℕ)) → new.intake ≡ old.intake → begun_with new ≡ begun_with old
    → client_told new ≡ told_with (client_told old) scene → Answers (begun_with old) call messages scene (session_entries old) (session_entries new) → after ≡ append_known before (bytes_said (client_told old) messages scene)
    → cause_after (begun_with old) (session_entries new) ≡ None → AnswersCall call old new before after
goes_on call messages scene old new before after s begins told w e c = record {
  intake = s;
  begins = begins;
  alone = alone_if (begun_with old) (session_entries new) w.nothing_due c;
  went = subst (λ (t : Told). WentOn (begun_with old) (call ∷ []) (session_entries old) (session_entries new) (client_told old) t before after) (sym told)
      (spoken_all (begun_with old) (session_entries old) (session_entries new) call messages scene (client_told old) before after w e);
}

goes_up_to : (start : Start) (cause : Cause) (call : Call) (messages : List Sent) (scene : Option Scene) (h k : List Entry) (told : Told) (before after : Option (List ℕ)) → Answers start call messages scene h k
    → after ≡ append_known before (bytes_said told messages scene) → cause_after start k ≡ Some cause → WentUpTo start cause (call ∷ []) h k told before after
goes_up_to start cause call messages scene h k told before after w e c = record {
  later = told_with told scene;
  went = spoken_all start h k call messages scene told before after w e;
  nothing_due = w.nothing_due;
  whatever = whatever start k w.nothing_due cause c;
  cause_is = c;
}

pub ended_call : (ended : Ended) (call : Call) (messages : List Sent) (scene : Option Scene) (old new : WorldRecord) (told : Told) (before after : Option (List ℕ))
    → Answers (start_of old) call messages scene (entries_in old) (entries_in new) → after ≡ append_known before (bytes_said told messages scene) → IsEndedBy (Some ended) (cause_after (start_of old) (entries_in new))
    → StopsAtCall ended call old new told before after
ended_call (Overflowed entry) call messages scene old new told before after w e h = goes_up_to (start_of old) (overflowed_at entry) call messages scene (entries_in old) (entries_in new) told before after w e h
ended_call (Quit entry) call messages scene old new told before after w e h = goes_up_to (start_of old) (quit_at entry) call messages scene (entries_in old) (entries_in new) told before after w e h
ended_call Closed call messages scene old new told before after w e h = absurd h
ended_call (Malformed flaw) call messages scene old new told before after w e h = absurd h
ended_call ReadFault call messages scene old new told before after w e h = absurd h
ended_call WriteFault call messages scene old new told before after w e h = absurd h
ended_call NoMemory call messages scene old new told before after w e h = absurd h

-- ---- a batch that didn't go out whole

pub unsaid_cut : (why : Unsaid) → CutsShort (ended_unsaid why)
unsaid_cut unsaid.WriteFault = tt
unsaid_cut unsaid.NoMemory = tt

pub unsaid_fault : {T : Type 0} (why : Unsaid) (ended : Ended) (r : Result T Ended) → ended ≡ ended_unsaid why → r ≡ Err ended → r ≡ Err WriteFault → why ≡ unsaid.WriteFault
unsaid_fault unsaid.WriteFault ended r e f g = cc
unsaid_fault unsaid.NoMemory ended r e f g = cc

-- ---- answers under a result

pub if_ok : {T E : Type 0} (r : Result T E) (P Q : T → Type 0) → ((x : T) → P x → Q x) → IfOk r P → IfOk r Q
if_ok (Ok x) P Q f h = f x h
if_ok (Err e) P Q f h = tt

pub on_err : {T E : Type 0} (r : Result T E) (P Q : Type 0) → (P → Q) → OnErr r P → OnErr r Q
on_err (Ok x) P Q f h = tt
on_err (Err e) P Q f h = f h

pub on_ok : {T E : Type 0} (r : Result T E) (P Q : Type 0) → (P → Q) → OnOk r P → OnOk r Q
on_ok (Ok x) P Q f h = f h
on_ok (Err e) P Q f h = tt
