-- How what a session does in steps is one whole.
use Rattle.std.proofs.Common.{Result, Ok, Err, ◌≡◌, ℕ, ◌+◌, ◌<◌, List, [], ◌∷◌, ◌++◌, length, take, Option, Some, None, refl, sym, ap, ◌∙◌, subst, arith, append_assoc, inl}
use Rattle.std.proofs.lemmas.List.{append-nil}
use Rattle.std.specs.List.{concat}
use Rattle.std.proofs.lemmas.List.Folds.{concat-append}
use Rattle.std.specs.Io.KnownBytes.{append_known, IsAtEnd}
use Rattle.nv_io.specs.declared.lanes.Flaw.{Flaw}
use Rattle.nv_io.specs.declared.lanes.Flaw.TheVariants.{Bad, TooDeep, TooLong, Inside, NoCall}
use Rattle.nv_io.specs.declared.lanes.Ended.{Ended}
use Rattle.nv_io.specs.declared.lanes.Ended.TheVariants.{Closed, Malformed, Overflowed, ReadFault, WriteFault, Quit, NoMemory}
use Rattle.nv_rpc.specs.Calls.{Call}
use Rattle.nv_history.specs.Events.{Entry, Cause, overflowed_at, quit_at}
use Rattle.nv_history.specs.Runs.{TakenBatch}
use Rattle.nv_history.specs.Spoken.{AreBytesOf}
use Rattle.nv_history.specs.Asking.{calls_of}
use Rattle.nv_world.specs.Worlds.{WorldRecord, start_of}
use Rattle.nv_linegrid.specs.Told.{Told, nothing_told}
use Rattle.nv_painter.specs.Painters.{Painting}
use Rattle.nv_session.specs.Sending.{AreBytesTaken, history_of}
use Rattle.nv_core.specs.declared.start.Start.{Start}
use Rattle.nv_calls.specs.Reading.{Calls, EndsAt, ReadsFrom, WasRead, IsUnfinished}
use Rattle.nv_calls.specs.Intakes.{IntakeState, with_more, came}
use Rattle.nv_calls.proofs.Giving.{calls_then, inside_by, gave_none, gave_fed, gave_then, gave_on, reads_behind, reads_on, parts_behind, came_more, came_all}
use Rattle.nv_speech.proofs.Flowing.{known_none, known_then}
use Rattle.nv_session.specs.Ends.{AnswersUpTo, AnswersSome, HasEarlier, IsFront}
use Rattle.nv_session.specs.inside.Alone.{IsAlone, IsClosing, IsSent, WentOn, WentPart, WentUpTo}
use Rattle.nv_session.specs.inside.Leaving.{LeavesAll, LeavesWith}
use Rattle.nv_session.specs.inside.Worlds.{entries_in}
use Rattle.nv_session.specs.inside.Serving.{SessionState, begun_with, session_entries, client_told, IsNew, ServesCalls, FinishesCalls, StopsShort, StopsClosed, EndsIn, end_by_flaw, Serves, Turns}
use Rattle.nv_session.proofs.Lone.{nothing_sent}
use Rattle.nv_session.proofs.Sending.{sent_bytes}

-- ---- a history that goes on

-- nothing was done
pub went_none : (start : Start) (h : List Entry) (told : Told) (out : Option (List ℕ)) → WentOn start [] h h told told out out
went_none start h told out = record {
  gave = [];
  asked = sym (append-nil (calls_of 1 h));
  sent = λ bytes s. subst (λ (l : List ℕ). IsSent start h told l) (sym (append-nil bytes)) s;
  written = known_none out;
}

-- calls were answered, and then more
pub went_then : (start : Start) (calls more : List Call) (a b c : List Entry) (t u v : Told) (x y z : Option (List ℕ)) → WentOn start calls a b t u x y → WentOn start more b c u v y z → WentOn start (calls ++ more) a c t v x z
went_then start calls more a b c t u v x y z p q = record {
  gave = p.gave ++ q.gave;
  asked = q.asked ∙ ap (λ (l : List Call). l ++ more) p.asked ∙ append_assoc (calls_of 1 a) calls more;
  sent = λ bytes s. subst (λ (l : List ℕ). IsSent start c v l) (append_assoc bytes p.gave q.gave) (q.sent (bytes ++ p.gave) (p.sent bytes s));
  written = q.written ∙ ap (λ (o : Option (List ℕ)). append_known o q.gave) p.written ∙ known_then x p.gave q.gave;
}

pub part_then : (start : Start) (Is : Start → List Call → List Entry → Type 0) (calls more next : List Call) (a b c : List Entry) (t u : Told) (x y z : Option (List ℕ)) → WentOn start calls a b t u x y → WentPart start Is more next b c u y z → WentPart start Is (calls ++ more) next a c t x z
part_then start Is calls more next a b c t u x y z p q =
    let asked : calls_of 1 b ++ more ≡ calls_of 1 a ++ (calls ++ more) =
    ap (λ (l : List Call). l ++ more) p.asked ∙ append_assoc (calls_of 1 a) calls more in
    record {
      has = q.has;
      gave = p.gave ++ q.gave;
      last = q.last;
      count = q.count;
      answered = λ bytes s.
          subst (λ (l : List ℕ). AreBytesTaken start (history_of start (calls_of 1 a ++ (calls ++ more))) l) (append_assoc bytes p.gave q.gave)
          (subst (λ (l : List Call). AreBytesTaken start (history_of start l) (bytes ++ p.gave ++ q.gave)) asked (q.answered (bytes ++ p.gave) (p.sent bytes s)));
      sent = λ bytes s.
          subst (λ (l : List ℕ). AreBytesTaken start c (l ++ q.last)) (append_assoc bytes p.gave q.gave) (q.sent (bytes ++ p.gave) (p.sent bytes s));
      written = q.written ∙ ap (λ (o : Option (List ℕ)). append_known o (q.gave ++ take q.count q.last)) p.written
          ∙ known_then x p.gave (q.gave ++ take q.count q.last)
          ∙ ap (λ (l : List ℕ). append_known x l) (sym (append_assoc p.gave q.gave (take q.count q.last)));
      is = subst (λ (l : List Call). Is start (l ++ next) c) asked q.is;
    }

pub up_to_then : (start : Start) (cause : Cause) (calls more : List Call) (a b c : List Entry) (t u : Told) (x y z : Option (List ℕ)) → WentOn start calls a b t u x y → WentUpTo start cause more b c u y z → WentUpTo start cause (calls ++ more) a c t x z
up_to_then start cause calls more a b c t u x y z p q = record {
  later = q.later;
  went = went_then start calls more a b c t u q.later x y z p q.went;
  nothing_due = q.nothing_due;
  whatever = q.whatever;
  cause_is = q.cause_is;
}

-- ---- a session in steps

-- a session that did nothing
pub served_none : (s : SessionState) (out : Option (List ℕ)) → ServesCalls s.intake.held s s out out
served_none s out = record {
  calls = [];
  gave = gave_none s.intake;
  begins = refl;
  went = went_none (begun_with s) (session_entries s) (client_told s) out;
}

-- one step and the next
pub served_then : (bytes piece : List ℕ) (first second third : SessionState) (a b c : Option (List ℕ)) → ServesCalls bytes first second a b → ServesCalls (second.intake.held ++ piece) second third b c → ServesCalls (bytes ++ piece) first third a c
served_then bytes piece first second third a b c p q = record {
  calls = p.calls ++ q.calls;
  gave = gave_then p.calls q.calls bytes piece first.intake second.intake third.intake p.gave q.gave;
  begins = q.begins ∙ p.begins;
  went = went_then (begun_with first) p.calls q.calls (session_entries first) (session_entries second) (session_entries third) (client_told first) (client_told second) (client_told third) a b c p.went
      (subst (λ (d : Start). WentOn d q.calls (session_entries second) (session_entries third) (client_told second) (client_told third) b c) p.begins q.went);
}

-- one step over what is held and the next
pub served_on : (bytes : List ℕ) (first second third : SessionState) (a b c : Option (List ℕ)) → ServesCalls bytes first second a b → ServesCalls second.intake.held second third b c → ServesCalls bytes first third a c
served_on bytes first second third a b c p q = record {
  calls = p.calls ++ q.calls;
  gave = gave_on p.calls q.calls bytes first.intake second.intake third.intake p.gave q.gave;
  begins = q.begins ∙ p.begins;
  went = went_then (begun_with first) p.calls q.calls (session_entries first) (session_entries second) (session_entries third) (client_told first) (client_told second) (client_told third) a b c p.went
      (subst (λ (d : Start). WentOn d q.calls (session_entries second) (session_entries third) (client_told second) (client_told third) b c) p.begins q.went);
}

-- a piece came, and that many bytes more
pub served_more : (piece : List ℕ) (old new : SessionState) (before after : Option (List ℕ)) → ServesCalls (old.intake.held ++ piece) old new before after → came new.intake ≡ came old.intake + length piece
served_more piece old new before after h = came_more h.calls piece old.intake new.intake h.gave

abbrev pub finished_then : (flaw : Option Flaw) (bytes piece : List ℕ) (first second last : SessionState) (a b c : Option (List ℕ)) → ServesCalls bytes first second a b → FinishesCalls flaw (second.intake.held ++ piece) second last b c → FinishesCalls flaw (bytes ++ piece) first last a c
finished_then flaw bytes piece first second last a b c p q = record {
  calls = p.calls ++ q.calls;
  reads = reads_behind p.calls q.calls bytes piece flaw first.intake second.intake p.gave q.reads;
  later = q.later;
  went = went_then (begun_with first) p.calls q.calls (session_entries first) (session_entries second) (session_entries last) (client_told first) (client_told second) q.later a b c p.went
      (subst (λ (d : Start). WentOn d q.calls (session_entries second) (session_entries last) (client_told second) q.later b c) p.begins q.went);
  alone = subst (λ (d : Start). IsAlone d (session_entries last)) p.begins q.alone;
}

-- all of some bytes
pub take_all : (a : List ℕ) → take (length a) a ≡ a
take_all [] = refl
take_all (x ∷ a) = ap (λ (l : List ℕ). x ∷ l) (take_all a)

abbrev pub cut_then : (Is : Start → List Call → List Entry → Type 0) (bytes piece : List ℕ) (first second last : SessionState) (a b c : Option (List ℕ)) → ServesCalls bytes first second a b → StopsShort Is (second.intake.held ++ piece) second last b c → StopsShort Is (bytes ++ piece) first last a c
cut_then Is bytes piece first second last a b c p q = record {
  calls = p.calls ++ q.calls;
  next = q.next;
  whole = p.gave.whole ++ q.whole;
  rest = q.rest;
  parts = parts_behind p.calls bytes piece q.whole q.rest first.intake second.intake p.gave q.parts;
  spelled = subst (λ (cs : List Call). Calls cs (p.gave.whole ++ q.whole)) (sym (append_assoc p.calls q.calls q.next))
      (calls_then p.calls (q.calls ++ q.next) p.gave.whole q.whole p.gave.spelled q.spelled);
  went = part_then (begun_with first) Is p.calls q.calls q.next (session_entries first) (session_entries second) (session_entries last) (client_told first) (client_told second) a b c p.went
      (subst (λ (d : Start). WentPart d Is q.calls q.next (session_entries second) (session_entries last) (client_told second) b c) p.begins q.went);
}

abbrev pub closed_then : (cause : Cause) (bytes piece : List ℕ) (first second last : SessionState) (a b c : Option (List ℕ)) → ServesCalls bytes first second a b → StopsClosed cause (second.intake.held ++ piece) second last b c → StopsClosed cause (bytes ++ piece) first last a c
closed_then cause bytes piece first second last a b c p q = record {
  calls = p.calls ++ q.calls;
  whole = p.gave.whole ++ q.whole;
  rest = q.rest;
  parts = parts_behind p.calls bytes piece q.whole q.rest first.intake second.intake p.gave q.parts;
  spelled = calls_then p.calls q.calls p.gave.whole q.whole p.gave.spelled q.spelled;
  went = up_to_then (begun_with first) cause p.calls q.calls (session_entries first) (session_entries second) (session_entries last) (client_told first) (client_told second) a b c p.went
      (subst (λ (d : Start). WentUpTo d cause q.calls (session_entries second) (session_entries last) (client_told second) b c) p.begins q.went);
}

-- steps, and then an end
pub ends_then : (over : Type 0) (ended : Ended) (bytes piece : List ℕ) (first second last : SessionState) (a b c : Option (List ℕ)) → ServesCalls bytes first second a b → EndsIn over ended (second.intake.held ++ piece) second last b c → EndsIn over ended (bytes ++ piece) first last a c
ends_then over Closed bytes piece first second last a b c p q = (finished_then None bytes piece first second last a b c p q.0, q.1)
ends_then over (Malformed flaw) bytes piece first second last a b c p q = (finished_then (Some flaw) bytes piece first second last a b c p q.0, q.1)
ends_then over ReadFault bytes piece first second last a b c p q = (q.0, q.1, finished_then q.0 bytes piece first second last a b c p q.2)
ends_then over WriteFault bytes piece first second last a b c p q = cut_then IsClosing bytes piece first second last a b c p q
ends_then over NoMemory bytes piece first second last a b c p q = cut_then IsFront bytes piece first second last a b c p q
ends_then over (Overflowed entry) bytes piece first second last a b c p q = closed_then (overflowed_at entry) bytes piece first second last a b c p q
ends_then over (Quit entry) bytes piece first second last a b c p q = closed_then (quit_at entry) bytes piece first second last a b c p q

-- steps over what is held, and then an end
pub ends_on : (over : Type 0) (ended : Ended) (bytes : List ℕ) (first second last : SessionState) (a b c : Option (List ℕ)) → ServesCalls bytes first second a b → EndsIn over ended second.intake.held second last b c → EndsIn over ended bytes first last a c
ends_on over ended bytes first second last a b c p q =
    subst (λ (l : List ℕ). EndsIn over ended l first last a c) (append-nil bytes)
    (ends_then over ended bytes [] first second last a b c p (subst (λ (l : List ℕ). EndsIn over ended l second last b c) (sym (append-nil second.intake.held)) q))

-- an end for another reason that no more bytes come
pub ends_by : (over other : Type 0) (ended : Ended) (bytes : List ℕ) (s last : SessionState) (a b : Option (List ℕ)) → (over → other) → EndsIn over ended bytes s last a b → EndsIn other ended bytes s last a b
ends_by over other Closed bytes s last a b f h = (h.0, f h.1)
ends_by over other (Malformed flaw) bytes s last a b f h = (h.0, inside_by over other flaw f h.1)
ends_by over other ReadFault bytes s last a b f h = h
ends_by over other WriteFault bytes s last a b f h = h
ends_by over other NoMemory bytes s last a b f h = h
ends_by over other (Overflowed entry) bytes s last a b f h = h
ends_by over other (Quit entry) bytes s last a b f h = h

-- ---- a session from its first byte on

-- nothing was sent of a session to which nothing came
new_sent : (s : SessionState) → IsNew s → IsSent (begun_with s) (session_entries s) (client_told s) []
new_sent s n =
    subst (λ (h : List Entry). IsSent (begun_with s) h (client_told s) []) (sym n.first) ([], (refl, refl, n.untold))

new_asked : (s : SessionState) → IsNew s → calls_of 1 (session_entries s) ≡ []
new_asked s n = ap (calls_of 1) n.first

all_answered : (flaw : Option Flaw) (pieces : List (List ℕ)) (bytes : List ℕ) (s last : SessionState) (a b : Option (List ℕ)) (n : IsNew s) → concat pieces ≡ bytes → (h : FinishesCalls flaw bytes s last a b)
    → HasEarlier h.calls pieces → LeavesAll (begun_with s) flaw pieces (session_entries last) a b
all_answered flaw pieces bytes s last a b n e h earlier = record {
  calls = h.calls;
  reads = subst (λ (l : List ℕ). ReadsFrom 0 0 h.calls l flaw) (sym e) (subst (λ (x : IntakeState). ReadsFrom x.number x.place h.calls bytes flaw) n.fresh h.reads);
  earlier = earlier;
  asked = h.went.asked ∙ ap (λ (l : List Call). l ++ h.calls) (new_asked s n);
  alone = h.alone;
  sent = h.went.gave;
  sent_is = sent_bytes (begun_with s) (session_entries last) h.later h.went.gave (h.went.sent [] (new_sent s n));
  written = h.went.written;
}

-- calls before a place that ends so, as a session at its first byte read them
earlier_reads : (bytes : List ℕ) (first second : SessionState) (a b : Option (List ℕ)) (flaw : Option Flaw) → IsNew first → (p : ServesCalls bytes first second a b)
    → EndsAt second.intake.number second.intake.place second.intake.held flaw → ReadsFrom 0 0 p.calls bytes flaw
earlier_reads bytes first second a b flaw n p e =
    subst (λ (x : IntakeState). ReadsFrom x.number x.place p.calls bytes flaw) n.fresh (reads_on p.calls bytes flaw first.intake second.intake p.gave e)

-- the calls that were whole before a read, of those that were answered by its end
has_earlier : (pieces : List (List ℕ)) (piece : List ℕ) (first second : SessionState) (more : List Call) (a b : Option (List ℕ)) (flaw : Option Flaw) → IsNew first → (p : ServesCalls (concat pieces) first second a b)
    → IsUnfinished flaw → EndsAt second.intake.number second.intake.place second.intake.held flaw → HasEarlier (p.calls ++ more) (pieces ++ piece ∷ [])
has_earlier pieces piece first second more a b flaw n p u e = record {
  earlier = pieces;
  last = piece ∷ [];
  parts = refl;
  short = omega arith;
  first = p.calls;
  later = more;
  flaw = flaw;
  unfinished = u;
  reads = earlier_reads (concat pieces) first second a b flaw n p e;
  begins = refl;
}

-- the answers were cut short
some_answered : (Is : Start → List Call → List Entry → Type 0) (pieces : List (List ℕ)) (bytes : List ℕ) (s last : SessionState) (a b : Option (List ℕ)) (n : IsNew s) → concat pieces ≡ bytes → (h : StopsShort Is bytes s last a b)
    → HasEarlier h.calls pieces → AnswersSome (begun_with s) Is pieces (session_entries last) a b
some_answered Is pieces bytes s last a b n e h earlier =
    let w = h.went in
    let asked : calls_of 1 (session_entries s) ≡ [] = new_asked s n in
    record {
      calls = h.calls;
      next = h.next;
      whole = h.whole;
      rest = h.rest;
      parts = e ∙ h.parts;
      reads = h.spelled;
      earlier = earlier;
      history = subst (λ (l : List Call). Is (begun_with s) (l ++ h.calls ++ h.next) (session_entries last)) asked w.is;
      front = w.gave;
      front_is = subst (λ (l : List Call). AreBytesTaken (begun_with s) (history_of (begun_with s) (l ++ h.calls)) w.gave) asked (w.answered [] (new_sent s n));
      last_sent = w.last;
      sent_is = w.sent [] (new_sent s n);
      count = w.count;
      written = w.written;
    }

-- the session was closed by a call
closed_answered : (cause : Cause) (bytes : List ℕ) (s last : SessionState) (a b : Option (List ℕ)) → IsNew s → StopsClosed cause bytes s last a b → AnswersUpTo (begun_with s) cause bytes (session_entries last) a b
closed_answered cause bytes s last a b n h =
    let w = h.went in
    let asked : calls_of 1 (session_entries last) ≡ h.calls = w.went.asked ∙ ap (λ (l : List Call). l ++ h.calls) (new_asked s n) in
    record {
      calls = h.calls;
      whole = h.whole;
      rest = h.rest;
      parts = h.parts;
      reads = h.spelled;
      history = λ more. w.whatever more ∙ ap (λ (l : List Call). history_of (begun_with s) (l ++ more)) asked;
      asked = asked;
      closed = w.cause_is;
      sent = w.went.gave;
      sent_is = sent_bytes (begun_with s) (session_entries last) w.later w.went.gave (w.went.sent [] (new_sent s n));
      written = w.went.written;
    }

-- a session that holds a piece more
pub served_fed : (piece : List ℕ) (old middle : SessionState) (out : Option (List ℕ)) → middle.intake ≡ with_more old.intake piece → middle.world ≡ old.world → middle.painter ≡ old.painter → ServesCalls (old.intake.held ++ piece) old middle out out
served_fed piece old middle out s t k = record {
  calls = [];
  gave = gave_fed piece old.intake middle.intake s;
  begins = ap start_of t;
  went = subst (λ (x : WorldRecord). WentOn (begun_with old) [] (session_entries old) (entries_in x) (client_told old) (client_told middle) out out) (sym t)
      (subst (λ (q : Painting). WentOn (begun_with old) [] (session_entries old) (session_entries old) (client_told old) q.told out out) (sym k) (went_none (begun_with old) (session_entries old) (client_told old) out));
}

-- a piece was held, and then its calls were served
pub turned : {A : Type 0} (over : Type 0) (done : Result A Ended) (piece : List ℕ) (old middle new : SessionState) (before after : Option (List ℕ)) → middle.intake ≡ with_more old.intake piece → middle.world ≡ old.world → middle.painter ≡ old.painter
    → 0 < length piece → Serves ⊥ done middle.intake.held middle new before after → Turns over done piece old new before after
turned over (Ok done) piece old middle new before after s t k some h =
    (served_on (old.intake.held ++ piece) old middle new before before after (served_fed piece old middle before s t k) h.0, h.1, h.2, some)
turned over (Err ended) piece old middle new before after s t k some h =
    ends_by ⊥ over ended (old.intake.held ++ piece) old new before after (λ e. absurd e)
    (ends_on ⊥ ended (old.intake.held ++ piece) old middle new before before after (served_fed piece old middle before s t k) h)

-- the bytes of pieces and of one more
concat_push : (pieces : List (List ℕ)) (piece : List ℕ) → concat (pieces ++ piece ∷ []) ≡ concat pieces ++ piece
concat_push pieces piece = concat-append pieces (piece ∷ []) ∙ ap (λ (l : List ℕ). concat pieces ++ l) (append-nil piece)

-- steps over pieces, and over one more
pub served_piece : (pieces : List (List ℕ)) (piece : List ℕ) (first second third : SessionState) (a b c : Option (List ℕ)) → ServesCalls (concat pieces) first second a b
    → ServesCalls (second.intake.held ++ piece) second third b c → ServesCalls (concat (pieces ++ piece ∷ [])) first third a c
served_piece pieces piece first second third a b c p q =
    subst (λ (l : List ℕ). ServesCalls l first third a c) (sym (concat_push pieces piece)) (served_then (concat pieces) piece first second third a b c p q)

-- how many bytes came to a session
pub served_length : (bytes : List ℕ) (old new : SessionState) (before after : Option (List ℕ)) → IsNew old → ServesCalls bytes old new before after → length bytes ≡ came new.intake
served_length bytes old new before after n h = came_all h.calls bytes old.intake new.intake (ap (λ (x : IntakeState). x.place) n.fresh) h.gave

-- a session that ended before anything came
pub leaves_before : (start : Start) (left out : Option (List ℕ)) → LeavesWith start NoMemory [] left [] out out
leaves_before start left out = record {
  calls = [];
  next = [];
  whole = [];
  rest = [];
  parts = refl;
  reads = refl;
  earlier = record {
    earlier = [];
    last = [];
    parts = refl;
    short = omega arith;
    first = [];
    later = [];
    flaw = None;
    unfinished = tt;
    reads = refl;
    begins = refl;
  };
  history = (history_of start [], refl);
  front = [];
  front_is = subst (λ (bs : List TakenBatch). AreBytesOf bs []) (sym (nothing_sent start)) ([], nothing_told, (refl, refl, refl));
  last_sent = [];
  sent_is = ([], nothing_told, (refl, refl, refl));
  count = 0;
  written = known_none out;
}

-- a turn ended a session
pub leaves_turn : (ended : Ended) (pieces : List (List ℕ)) (piece : List ℕ) (left : Option (List ℕ)) (first second last : SessionState) (a b c : Option (List ℕ)) (flaw : Option Flaw) → IsNew first
    → ServesCalls (concat pieces) first second a b → IsUnfinished flaw → EndsAt second.intake.number second.intake.place second.intake.held flaw
    → EndsIn (IsAtEnd left) ended (second.intake.held ++ piece) second last b c → LeavesWith (begun_with first) ended (pieces ++ piece ∷ []) left (session_entries last) a c
leaves_turn Closed pieces piece left first second last a b c flaw n p u e q = (
  all_answered None (pieces ++ piece ∷ []) (concat pieces ++ piece) first last a c n (concat_push pieces piece) (finished_then None (concat pieces) piece first second last a b c p q.0)
      (has_earlier pieces piece first second q.0.calls a b flaw n p u e),
  inl q.1,
)
leaves_turn (Malformed found) pieces piece left first second last a b c flaw n p u e q = (
  all_answered (Some found) (pieces ++ piece ∷ []) (concat pieces ++ piece) first last a c n (concat_push pieces piece) (finished_then (Some found) (concat pieces) piece first second last a b c p q.0)
      (has_earlier pieces piece first second q.0.calls a b flaw n p u e),
  inside_by (IsAtEnd left) (WasRead left (concat (pieces ++ piece ∷ []))) found (λ h. inl h) q.1,
)
leaves_turn ReadFault pieces piece left first second last a b c flaw n p u e q = (
  q.0,
  q.1,
  all_answered q.0 (pieces ++ piece ∷ []) (concat pieces ++ piece) first last a c n (concat_push pieces piece) (finished_then q.0 (concat pieces) piece first second last a b c p q.2)
      (has_earlier pieces piece first second q.2.calls a b flaw n p u e),
)
leaves_turn WriteFault pieces piece left first second last a b c flaw n p u e q =
    some_answered IsClosing (pieces ++ piece ∷ []) (concat pieces ++ piece) first last a c n (concat_push pieces piece) (cut_then IsClosing (concat pieces) piece first second last a b c p q)
    (has_earlier pieces piece first second q.calls a b flaw n p u e)
leaves_turn NoMemory pieces piece left first second last a b c flaw n p u e q =
    some_answered IsFront (pieces ++ piece ∷ []) (concat pieces ++ piece) first last a c n (concat_push pieces piece) (cut_then IsFront (concat pieces) piece first second last a b c p q)
    (has_earlier pieces piece first second q.calls a b flaw n p u e)
leaves_turn (Overflowed entry) pieces piece left first second last a b c flaw n p u e q =
    subst (λ (l : List ℕ). AnswersUpTo (begun_with first) (overflowed_at entry) l (session_entries last) a c) (sym (concat_push pieces piece))
    (closed_answered (overflowed_at entry) (concat pieces ++ piece) first last a c n (closed_then (overflowed_at entry) (concat pieces) piece first second last a b c p q))
leaves_turn (Quit entry) pieces piece left first second last a b c flaw n p u e q =
    subst (λ (l : List ℕ). AnswersUpTo (begun_with first) (quit_at entry) l (session_entries last) a c) (sym (concat_push pieces piece))
    (closed_answered (quit_at entry) (concat pieces ++ piece) first last a c n (closed_then (quit_at entry) (concat pieces) piece first second last a b c p q))

-- the end of a session to which no more bytes come is no fault
pub not_read_fault : (flaw : Option Flaw) → end_by_flaw flaw ≡ ReadFault → ⊥
not_read_fault None e = cc
not_read_fault (Some flaw) e = cc

pub not_write_fault : (flaw : Option Flaw) → end_by_flaw flaw ≡ WriteFault → ⊥
not_write_fault None e = cc
not_write_fault (Some flaw) e = cc

-- a session from whose source so many bytes came that it counts as ended
leaves_at_most : (flaw : Option Flaw) (pieces : List (List ℕ)) (left : Option (List ℕ)) (first second : SessionState) (a b : Option (List ℕ)) → IsNew first → (p : ServesCalls (concat pieces) first second a b)
    → IsUnfinished flaw → EndsAt second.intake.number second.intake.place second.intake.held flaw → IsAlone (begun_with first) (session_entries second) → WasRead left (concat pieces)
    → LeavesWith (begun_with first) (end_by_flaw flaw) pieces left (session_entries second) a b
leaves_at_most flaw pieces left first second a b n p u e alone over =
    let reads = earlier_reads (concat pieces) first second a b flaw n p e in
    let asked : calls_of 1 (session_entries second) ≡ p.calls = p.went.asked ∙ ap (λ (l : List Call). l ++ p.calls) (new_asked first n) in
    let all : LeavesAll (begun_with first) flaw pieces (session_entries second) a b = record {
      calls = p.calls;
      reads = reads;
      earlier = record {
        earlier = pieces;
        last = [];
        parts = sym (append-nil pieces);
        short = omega arith;
        first = p.calls;
        later = [];
        flaw = flaw;
        unfinished = u;
        reads = reads;
        begins = sym (append-nil p.calls);
      };
      asked = asked;
      alone = alone;
      sent = p.went.gave;
      sent_is = sent_bytes (begun_with first) (session_entries second) (client_told second) p.went.gave (p.went.sent [] (new_sent first n));
      written = p.went.written;
    } in
    by_flaw flaw u all
  where
    by_flaw : (f : Option Flaw) → IsUnfinished f → LeavesAll (begun_with first) f pieces (session_entries second) a b → LeavesWith (begun_with first) (end_by_flaw f) pieces left (session_entries second) a b
    by_flaw None u all = (all, over)
    by_flaw (Some (Inside place)) u all = (all, over)
    by_flaw (Some (Bad place)) u all = absurd u
    by_flaw (Some (TooDeep place)) u all = absurd u
    by_flaw (Some (TooLong place)) u all = absurd u
    by_flaw (Some (NoCall place)) u all = absurd u

pub leaves_full : (ended : Ended) (flaw : Option Flaw) (pieces : List (List ℕ)) (left : Option (List ℕ)) (first second : SessionState) (a b : Option (List ℕ)) → ended ≡ end_by_flaw flaw → IsNew first
    → ServesCalls (concat pieces) first second a b → IsUnfinished flaw → EndsAt second.intake.number second.intake.place second.intake.held flaw → IsAlone (begun_with first) (session_entries second)
    → WasRead left (concat pieces) → LeavesWith (begun_with first) ended pieces left (session_entries second) a b
leaves_full ended flaw pieces left first second a b e n p u at alone over =
    subst (λ (x : Ended). LeavesWith (begun_with first) x pieces left (session_entries second) a b) (sym e) (leaves_at_most flaw pieces left first second a b n p u at alone over)
