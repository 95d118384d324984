-- A session that is left, and its close.
use Rattle.std.proofs.Common.{◌≡◌, ℕ, Bool, true, false, List, [], ◌∷◌, ◌++◌, Option, Some, None, refl, sym, ap, ◌∙◌, subst, inl, inr}
use Rattle.std.proofs.lemmas.List.{append-nil}
use Rattle.std.specs.List.{concat}
use Rattle.std.specs.Io.KnownBytes.{append_known}
use Rattle.nv_io.specs.declared.lanes.Flaw.{Flaw}
use Rattle.nv_io.specs.declared.lanes.Ended.{Ended}
use Rattle.nv_io.specs.declared.lanes.Ended.TheVariants.{Closed, Malformed, Overflowed, ReadFault, WriteFault, Quit, NoMemory}
use Rattle.nv_rpc.specs.Calls.{Call}
use Rattle.nv_history.specs.Events.{open_session, close_of, Entry, Cause, closed_at, overflowed_at, quit_at, Effect}
use Rattle.nv_history.specs.Sessions.{Session, session_closed_by, session_quit_if}
use Rattle.nv_history.specs.Worlds.{World, Outcome, refuses, idles, becomes, session_of, with_session_at, after_settled_entry, step, live_close_outcome}
use Rattle.nv_history.specs.Asking.{calls_of}
use Rattle.nv_history.specs.Runs.{TakenBatch}
use Rattle.nv_history.specs.Solo.{entry_alone, solo_with_close}
use Rattle.nv_history.specs.Spoken.{AreBytesOf}
use Rattle.nv_linegrid.specs.Told.{nothing_told}
use Rattle.nv_core.specs.declared.entry.Entry as world
use Rattle.nv_core.specs.Contents.{plain_entries}
use Rattle.nv_core.specs.Sessions.{cause_of}
use Rattle.nv_core.specs.declared.start.Start.{Start}
use Rattle.nv_session.specs.Sending.{world_after, batches_taken, history_of, cause_in, cause_after, HasSession}
use Rattle.nv_calls.specs.Reading.{Calls}
use Rattle.nv_session.specs.Ends.{AnswersAll, AnswersSome, AnswersUpTo, IsHistoryOf, IsFront, SessionEnds}
use Rattle.nv_session.specs.inside.Alone.{HasNothingDue, IsClosing}
use Rattle.nv_session.specs.inside.Worlds.{IsEndedBy}
use Rattle.nv_session.specs.inside.Leaving.{LeavesAll, LeavesWith, GainsClose, IsClosedSo, leaves_open}
use Rattle.nv_session.specs.inside.Serving.{SessionState, begun_with, session_entries, EndsIn}
use Rattle.nv_session.proofs.Sending.{sent_alike, sent_nil}
use Rattle.nv_session.proofs.Lone.{closing, closed_taken, closed_asked, closed_itself, rest_front, opened_taken, whatever, world_with, close_is, first_put, is_last, at_end_one}
use Rattle.nv_calls.proofs.Giving.{calls_read}
use Rattle.nv_speech.proofs.Flowing.{known_none}
use Rattle.nv_session.proofs.Serving.{leaves_before}
use Rattle.nv_session.proofs.Steps.{alone_has}

-- ---- what an end leaves

cause_has : (start : Start) (h : List Entry) (cause : Cause) (o : Option World) → world_after start h ≡ o → cause_in o ≡ Some cause → HasSession start h
cause_has start h cause None e c = cc
cause_has start h cause (Some w) e c = by (session_of w 1) refl c
  where
    by : (s : Option Session) → session_of w 1 ≡ s → cause_of s ≡ Some cause → HasSession start h
    by None there c = cc
    by (Some x) there c = record { now = w; runs = e; one = x; there = there }

pub ends_has : (over : Type 0) (ended : Ended) (bytes : List ℕ) (old last : SessionState) (b a : Option (List ℕ)) → EndsIn over ended bytes old last b a → HasSession (begun_with old) (session_entries last)
ends_has over Closed bytes old last b a h = alone_has (begun_with old) (session_entries last) h.0.alone
ends_has over (Malformed flaw) bytes old last b a h = alone_has (begun_with old) (session_entries last) h.0.alone
ends_has over ReadFault bytes old last b a h = alone_has (begun_with old) (session_entries last) h.2.alone
ends_has over WriteFault bytes old last b a h = h.went.has
ends_has over NoMemory bytes old last b a h = h.went.has
ends_has over (Overflowed entry) bytes old last b a h = cause_has (begun_with old) (session_entries last) (overflowed_at entry) (world_after (begun_with old) (session_entries last)) refl h.went.cause_is
ends_has over (Quit entry) bytes old last b a h = cause_has (begun_with old) (session_entries last) (quit_at entry) (world_after (begun_with old) (session_entries last)) refl h.went.cause_is

-- ---- a close

-- a session that was there is there once it was closed
closed_there : (c : Option Cause) (w v : World) (x : Session) (effect : Effect) → session_of w 1 ≡ Some x → live_close_outcome c w 1 x ≡ becomes v effect → (y : Session) × (session_of v 1 ≡ Some y)
closed_there (Some cause) w v x effect there e = cc
closed_there None w v x effect there e =
    let y = session_closed_by (closed_at w.entries) x in
    let put = with_session_at w 1 y in
    let same : v ≡ after_settled_entry false put = cc in
    (session_quit_if (is_last put) put.entries y, ap (λ (u : World). session_of u 1) same ∙ at_end_one false put y (first_put w.sessions x y there))

close_has : (start : Start) (h k : List Entry) (s : HasSession start h) (o : Outcome) → step s.now (close_of 1) ≡ o → k ≡ h ++ solo_with_close o → HasSession start k
close_has start h k s (becomes v effect) e g =
    let t = closed_there s.one.closed s.now v s.one effect s.there (sym (close_is s.now s.one s.there) ∙ e) in
    subst (HasSession start) (sym g) (record { now = v; runs = world_with start h (close_of 1) s.now v effect s.runs e; one = t.0; there = t.1 })
close_has start h k s (idles effect) e g = subst (HasSession start) (sym (g ∙ append-nil h)) s
close_has start h k s (refuses stop) e g = subst (HasSession start) (sym (g ∙ append-nil h)) s

pub closed_has : (start : Start) (still : Bool) (ended result : Ended) (h k : List Entry) → HasSession start h → IsClosedSo start still ended result h k → HasSession start k
closed_has start true ended result h k s (inl c) = close_has start h k s (step s.now (close_of 1)) refl (c.1 s.now s.runs)
closed_has start true ended result h k s (inr c) = subst (HasSession start) (sym c.1) s
closed_has start false ended result h k s c = subst (HasSession start) (sym c.1) s

-- all was answered, and the session was closed
whole_history : (start : Start) (calls : List Call) (h k : List Entry) (c : IsClosing start calls h) → GainsClose start h k → k ≡ history_of start calls
whole_history start calls h k c g = g c.now c.runs ∙ c.ends

all_closed : (start : Start) (flaw : Option Flaw) (pieces : List (List ℕ)) (h k : List Entry) (b a : Option (List ℕ)) → LeavesAll start flaw pieces h b a → GainsClose start h k → AnswersAll start flaw (concat pieces) k b a
all_closed start flaw pieces h k b a l g =
    let c = closing start h l.alone.nothing_due in
    let is : k ≡ history_of start (calls_of 1 h) = whole_history start (calls_of 1 h) h k c g in
    record {
      calls = l.calls;
      reads = l.reads;
      history = is ∙ ap (history_of start) l.asked;
      asked = ap (calls_of 1) is ∙ closed_asked start (calls_of 1 h) h c ∙ l.asked;
      entry = l.alone.nothing_due.now.entries;
      closed = ap (cause_after start) is ∙ closed_itself start h l.alone;
      sent = l.sent;
      sent_is = sent_alike start h k l.sent (ap (batches_taken start) is ∙ closed_taken start (calls_of 1 h) h c) l.sent_is;
      written = l.written;
    }

-- all was answered, and memory was wanting for the close
all_unclosed : (start : Start) (flaw : Option Flaw) (pieces : List (List ℕ)) (h : List Entry) (b a : Option (List ℕ)) → LeavesAll start flaw pieces h b a → AnswersSome start IsFront pieces h b a
all_unclosed start flaw pieces h b a l =
    let c = closing start h l.alone.nothing_due in
    let r = calls_read 0 0 l.calls (concat pieces) flaw l.reads in
    let taken : batches_taken start (history_of start l.calls) ≡ batches_taken start h =
    ap (λ (x : List Call). batches_taken start (history_of start x)) (sym l.asked) ∙ closed_taken start (calls_of 1 h) h c in
    record {
      calls = l.calls;
      next = [];
      whole = r.0;
      rest = r.1;
      parts = r.2;
      reads = subst (λ (x : List Call). Calls x r.0) (sym (append-nil l.calls)) r.3;
      earlier = l.earlier;
      history = subst (λ (x : List Call). IsFront start x h) (l.asked ∙ sym (append-nil l.calls)) (rest_front start h l.alone.nothing_due);
      front = l.sent;
      front_is = sent_alike start h (history_of start l.calls) l.sent taken l.sent_is;
      last_sent = [];
      sent_is = sent_nil start h l.sent l.sent_is;
      count = 0;
      written = l.written ∙ ap (λ (x : List ℕ). append_known b x) (sym (append-nil l.sent));
    }

-- the answers were cut short, and the session was closed
some_closed : (start : Start) (pieces : List (List ℕ)) (h k : List Entry) (b a : Option (List ℕ)) → AnswersSome start IsClosing pieces h b a → GainsClose start h k → AnswersSome start IsHistoryOf pieces k b a
some_closed start pieces h k b a s g =
    let calls = s.calls ++ s.next in
    let is : k ≡ history_of start calls = whole_history start calls h k s.history g in
    record {
      calls = s.calls;
      next = s.next;
      whole = s.whole;
      rest = s.rest;
      parts = s.parts;
      reads = s.reads;
      earlier = s.earlier;
      history = is;
      front = s.front;
      front_is = s.front_is;
      last_sent = s.last_sent;
      sent_is = sent_alike start h k (s.front ++ s.last_sent) (ap (batches_taken start) is ∙ closed_taken start calls h s.history) s.sent_is;
      count = s.count;
      written = s.written;
    }

some_unclosed : (start : Start) (pieces : List (List ℕ)) (h : List Entry) (b a : Option (List ℕ)) → AnswersSome start IsClosing pieces h b a → AnswersSome start IsFront pieces h b a
some_unclosed start pieces h b a s = record {
  calls = s.calls;
  next = s.next;
  whole = s.whole;
  rest = s.rest;
  parts = s.parts;
  reads = s.reads;
  earlier = s.earlier;
  history = (solo_with_close (step s.history.now (close_of 1)), sym s.history.ends);
  front = s.front;
  front_is = s.front_is;
  last_sent = s.last_sent;
  sent_is = s.sent_is;
  count = s.count;
  written = s.written;
}

-- ---- the end of a session

-- a session that made no call, and was closed by an entry
answers_none : (start : Start) (cause : Cause) (h : List Entry) (out : Option (List ℕ)) → h ≡ entry_alone open_session ∷ [] → HasNothingDue start h → cause_after start h ≡ Some cause → AnswersUpTo start cause [] h out out
answers_none start cause h out e due c =
    let asked : calls_of 1 h ≡ [] = ap (calls_of 1) e in
    let none : batches_taken start h ≡ [] = ap (batches_taken start) e ∙ opened_taken start in
    record {
      calls = [];
      whole = [];
      rest = [];
      parts = refl;
      reads = refl;
      history = λ more. whatever start h due cause c more ∙ ap (λ (l : List Call). history_of start (l ++ more)) asked;
      asked = asked;
      closed = c;
      sent = [];
      sent_is = subst (λ (bs : List TakenBatch). AreBytesOf bs []) (sym none) ([], nothing_told, (refl, refl, refl));
      written = known_none out;
    }

closes_so : (start : Start) (ended : Ended) (pieces : List (List ℕ)) (left : Option (List ℕ)) (h k : List Entry) (b a : Option (List ℕ)) → leaves_open ended ≡ true → LeavesWith start ended pieces left h b a → GainsClose start h k → SessionEnds start ended pieces left k b a
closes_so start Closed pieces left h k b a e l g = (all_closed start None pieces h k b a l.0 g, l.1)
closes_so start (Malformed flaw) pieces left h k b a e l g = (all_closed start (Some flaw) pieces h k b a l.0 g, l.1)
closes_so start ReadFault pieces left h k b a e l g = (l.0, l.1, all_closed start l.0 pieces h k b a l.2 g)
closes_so start WriteFault pieces left h k b a e l g = some_closed start pieces h k b a l g
closes_so start NoMemory pieces left h k b a e l g = cc
closes_so start (Overflowed entry) pieces left h k b a e l g = cc
closes_so start (Quit entry) pieces left h k b a e l g = cc

wants_memory : (start : Start) (ended : Ended) (pieces : List (List ℕ)) (left : Option (List ℕ)) (h : List Entry) (b a : Option (List ℕ)) → leaves_open ended ≡ true → LeavesWith start ended pieces left h b a → SessionEnds start NoMemory pieces left h b a
wants_memory start Closed pieces left h b a e l = all_unclosed start None pieces h b a l.0
wants_memory start (Malformed flaw) pieces left h b a e l = all_unclosed start (Some flaw) pieces h b a l.0
wants_memory start ReadFault pieces left h b a e l = all_unclosed start l.0 pieces h b a l.2
wants_memory start WriteFault pieces left h b a e l = some_unclosed start pieces h b a l
wants_memory start NoMemory pieces left h b a e l = cc
wants_memory start (Overflowed entry) pieces left h b a e l = cc
wants_memory start (Quit entry) pieces left h b a e l = cc

stays_so : (start : Start) (ended : Ended) (pieces : List (List ℕ)) (left : Option (List ℕ)) (h : List Entry) (b a : Option (List ℕ)) → leaves_open ended ≡ false → LeavesWith start ended pieces left h b a → SessionEnds start ended pieces left h b a
stays_so start Closed pieces left h b a e l = cc
stays_so start (Malformed flaw) pieces left h b a e l = cc
stays_so start ReadFault pieces left h b a e l = cc
stays_so start WriteFault pieces left h b a e l = cc
stays_so start NoMemory pieces left h b a e l = l
stays_so start (Overflowed entry) pieces left h b a e l = l
stays_so start (Quit entry) pieces left h b a e l = l

left_by : (start : Start) (still : Bool) (ended result : Ended) (pieces : List (List ℕ)) (left : Option (List ℕ)) (h k : List Entry) (b a : Option (List ℕ)) → leaves_open ended ≡ still → LeavesWith start ended pieces left h b a → IsClosedSo start still ended result h k → SessionEnds start result pieces left k b a
left_by start true ended result pieces left h k b a e l (inl c) =
    subst (λ (x : Ended). SessionEnds start x pieces left k b a) (sym c.0) (closes_so start ended pieces left h k b a e l c.1)
left_by start true ended result pieces left h k b a e l (inr c) =
    subst (λ (x : Ended). SessionEnds start x pieces left k b a) (sym c.0)
    (subst (λ (x : List Entry). SessionEnds start NoMemory pieces left x b a) (sym c.1) (wants_memory start ended pieces left h b a e l))
left_by start false ended result pieces left h k b a e l c =
    subst (λ (x : Ended). SessionEnds start x pieces left k b a) (sym c.0)
    (subst (λ (x : List Entry). SessionEnds start ended pieces left x b a) (sym c.1) (stays_so start ended pieces left h b a e l))

-- a session that was left and closed has ended so, with the history that was taken out
pub left_ends : (start : Start) (ended result : Ended) (pieces : List (List ℕ)) (left : Option (List ℕ)) (h k entries : List Entry) (b a : Option (List ℕ)) → LeavesWith start ended pieces left h b a → IsClosedSo start (leaves_open ended) ended result h k
    → entries ≡ k → SessionEnds start result pieces left entries b a
left_ends start ended result pieces left h k entries b a l c e =
    subst (λ (x : List Entry). SessionEnds start result pieces left x b a) (sym e) (left_by start (leaves_open ended) ended result pieces left h k b a refl l c)

-- a fault is told by the end that was left
fault_by : (start : Start) (still : Bool) (ended result fault : Ended) (h k : List Entry) → IsClosedSo start still ended result h k → result ≡ fault → (fault ≡ NoMemory → ⊥) → ended ≡ fault
fault_by start true ended result fault h k (inl c) e n = sym c.0 ∙ e
fault_by start true ended result fault h k (inr c) e n = absurd (n (sym e ∙ c.0))
fault_by start false ended result fault h k c e n = sym c.0 ∙ e

pub read_fault : (start : Start) (ended result : Ended) (h k : List Entry) → IsClosedSo start (leaves_open ended) ended result h k → result ≡ ReadFault → ended ≡ ReadFault
read_fault start ended result h k c e = fault_by start (leaves_open ended) ended result ReadFault h k c e (λ n. cc)

pub write_fault : (start : Start) (ended result : Ended) (h k : List Entry) → IsClosedSo start (leaves_open ended) ended result h k → result ≡ WriteFault → ended ≡ WriteFault
write_fault start ended result h k c e = fault_by start (leaves_open ended) ended result WriteFault h k c e (λ n. cc)

-- nothing was kept
pub ends_before : (start : Start) (left out : Option (List ℕ)) (entries : List world.Entry) → entries ≡ [] → SessionEnds start NoMemory [] left (plain_entries entries) out out
ends_before start left out entries e =
    subst (λ (x : List world.Entry). SessionEnds start NoMemory [] left (plain_entries x) out out) (sym e) (leaves_before start left out)

-- an entry has closed a session that made no call
pub ends_opened : (start : Start) (ended : Ended) (left out : Option (List ℕ)) (h : List Entry) → h ≡ entry_alone open_session ∷ [] → HasNothingDue start h → IsEndedBy (Some ended) (cause_after start h) → SessionEnds start ended [] left h out out
ends_opened start (Overflowed entry) left out h e due c = answers_none start (overflowed_at entry) h out e due c
ends_opened start (Quit entry) left out h e due c = answers_none start (quit_at entry) h out e due c
ends_opened start Closed left out h e due c = absurd c
ends_opened start (Malformed flaw) left out h e due c = absurd c
ends_opened start ReadFault left out h e due c = absurd c
ends_opened start WriteFault left out h e due c = absurd c
ends_opened start NoMemory left out h e due c = absurd c
