-- What waits goes out: what was done over the bytes that wait, in the words of what an output took.
use Rattle.std.proofs.Common.{◌≡◌, ℕ, zero, suc, Bool, true, false, List, [], ◌∷◌, ◌++◌, length, ◌+◌, ◌≤◌, take, Option, Some, None, Result, Ok, Err, refl, sym, ap, ◌∙◌, subst, append_assoc, inl, inr, arith}
use Rattle.std.proofs.lemmas.List.{append-nil}
use Rattle.std.specs.Io.KnownBytes.{append_known}
use Rattle.nv_io.specs.Faults.{Rose}
use Rattle.nv_io.specs.declared.lanes.Flaw.{Flaw}
use Rattle.nv_io.specs.declared.lanes.Ended.{Ended}
use Rattle.nv_io.specs.declared.lanes.Ended.TheVariants.{Closed, Malformed, Overflowed, ReadFault, WriteFault, Quit, NoMemory}
use Rattle.nv_calls.specs.Intakes.{WantsMore}
use Rattle.nv_calls.proofs.Giving.{calls_read}
use Rattle.nv_rpc.specs.Calls.{Call}
use Rattle.nv_history.specs.Events.{Entry, Cause, overflowed_at, quit_at}
use Rattle.nv_history.specs.Asking.{calls_of}
use Rattle.nv_linegrid.specs.Told.{Told}
use Rattle.nv_core.specs.declared.start.Start.{Start}
use Rattle.nv_session.specs.Ends.{IsFront}
use Rattle.nv_session.specs.Sending.{AreBytesTaken}
use Rattle.nv_session.specs.inside.Alone.{HasNothingDue, IsAlone, IsClosing, WentOn, WentPart, WentUpTo}
use Rattle.nv_session.specs.inside.Serving.{SessionState, begun_with, session_entries, client_told, IsReady, ServesCalls, FinishesCalls, StopsShort, StopsClosed, EndsIn, StepsOn, Serves, CutsShort, FlowsBy, end_by_fault}
use Rattle.nv_speech.specs.Flows.{FlowsOut}
use Rattle.nv_speech.proofs.Flowing.{known_none, take_behind, only_waits, goes_then, goes_cut, flows_all, flows_cut, front_cut}
use Rattle.nv_session.proofs.Lone.{closing}
use Rattle.nv_session.proofs.Sending.{sent_bytes}
use Rattle.nv_session.proofs.Serving.{served_none}
use Rattle.nv_session.proofs.Steps.{due_has, rest_answered}

-- ---- bytes that wait, and bytes that went out

-- the bytes that are known, if they are
abbrev known_bytes : Option (List ℕ) → List ℕ
known_bytes None = []
known_bytes (Some xs) = xs

-- what was known grew by the same bytes
abbrev pub GrowsAlike : Option (List ℕ) → Option (List ℕ) → Option (List ℕ) → Option (List ℕ) → Type 0
GrowsAlike a b c d = (gave : List ℕ) → b ≡ append_known a gave → d ≡ append_known c gave

-- what waits where nothing waited before
all_waits : (total gave : List ℕ) → Some total ≡ append_known (Some []) gave → total ≡ gave
all_waits total gave e = ap known_bytes e

-- all that waits went out
pub grows_alike : (before total : List ℕ) (c d : Option (List ℕ)) → before ≡ [] → d ≡ append_known c total → GrowsAlike (Some before) (Some total) c d
grows_alike before total c d none e gave w =
    e ∙ ap (λ (l : List ℕ). append_known c l) (all_waits total gave (subst (λ (l : List ℕ). Some total ≡ append_known (Some l) gave) none w))

-- the first bytes of the first bytes
took_twice : (n m : ℕ) (xs : List ℕ) → (k : ℕ) × (take n (take m xs) ≡ take k xs)
took_twice zero m xs = (0, refl)
took_twice (suc n) zero xs = (0, refl)
took_twice (suc n) (suc m) [] = (0, refl)
took_twice (suc n) (suc m) (x ∷ xs) = let r = took_twice n m xs in (suc r.0, ap (λ (l : List ℕ). x ∷ l) r.1)

-- ---- all that waits went out

went_out : (start : Start) (calls : List Call) (h k : List Entry) (t u : Told) (a b c d : Option (List ℕ)) → GrowsAlike a b c d → WentOn start calls h k t u a b → WentOn start calls h k t u c d
went_out start calls h k t u a b c d f w = record { gave = w.gave; asked = w.asked; sent = λ bytes s. w.sent bytes s; written = f w.gave w.written }

part_out : (start : Start) (Is : Start → List Call → List Entry → Type 0) (calls next : List Call) (h k : List Entry) (t : Told) (a b c d : Option (List ℕ)) → GrowsAlike a b c d → WentPart start Is calls next h k t a b → WentPart start Is calls next h k t c d
part_out start Is calls next h k t a b c d f w = record {
  has = w.has;
  gave = w.gave;
  last = w.last;
  count = w.count;
  answered = λ bytes s. w.answered bytes s;
  sent = λ bytes s. w.sent bytes s;
  written = f (w.gave ++ take w.count w.last) w.written;
  is = w.is;
}

up_to_out : (start : Start) (cause : Cause) (calls : List Call) (h k : List Entry) (t : Told) (a b c d : Option (List ℕ)) → GrowsAlike a b c d → WentUpTo start cause calls h k t a b → WentUpTo start cause calls h k t c d
up_to_out start cause calls h k t a b c d f w = record {
  later = w.later;
  went = went_out start calls h k t w.later a b c d f w.went;
  nothing_due = w.nothing_due;
  whatever = w.whatever;
  cause_is = w.cause_is;
}

served_out : (bytes : List ℕ) (old new : SessionState) (a b c d : Option (List ℕ)) → GrowsAlike a b c d → ServesCalls bytes old new a b → ServesCalls bytes old new c d
served_out bytes old new a b c d f h = record {
  calls = h.calls;
  gave = h.gave;
  begins = h.begins;
  went = went_out (begun_with old) h.calls (session_entries old) (session_entries new) (client_told old) (client_told new) a b c d f h.went;
}

finished_out : (flaw : Option Flaw) (bytes : List ℕ) (old new : SessionState) (a b c d : Option (List ℕ)) → GrowsAlike a b c d → FinishesCalls flaw bytes old new a b → FinishesCalls flaw bytes old new c d
finished_out flaw bytes old new a b c d f h = record {
  calls = h.calls;
  reads = h.reads;
  later = h.later;
  went = went_out (begun_with old) h.calls (session_entries old) (session_entries new) (client_told old) h.later a b c d f h.went;
  alone = h.alone;
}

cut_out : (Is : Start → List Call → List Entry → Type 0) (bytes : List ℕ) (old new : SessionState) (a b c d : Option (List ℕ)) → GrowsAlike a b c d → StopsShort Is bytes old new a b → StopsShort Is bytes old new c d
cut_out Is bytes old new a b c d f h = record {
  calls = h.calls;
  next = h.next;
  whole = h.whole;
  rest = h.rest;
  parts = h.parts;
  spelled = h.spelled;
  went = part_out (begun_with old) Is h.calls h.next (session_entries old) (session_entries new) (client_told old) a b c d f h.went;
}

closed_out : (cause : Cause) (bytes : List ℕ) (old new : SessionState) (a b c d : Option (List ℕ)) → GrowsAlike a b c d → StopsClosed cause bytes old new a b → StopsClosed cause bytes old new c d
closed_out cause bytes old new a b c d f h = record {
  calls = h.calls;
  whole = h.whole;
  rest = h.rest;
  parts = h.parts;
  spelled = h.spelled;
  went = up_to_out (begun_with old) cause h.calls (session_entries old) (session_entries new) (client_told old) a b c d f h.went;
}

ends_out : (over : Type 0) (ended : Ended) (bytes : List ℕ) (old new : SessionState) (a b c d : Option (List ℕ)) → GrowsAlike a b c d → EndsIn over ended bytes old new a b → EndsIn over ended bytes old new c d
ends_out over Closed bytes old new a b c d f h = (finished_out None bytes old new a b c d f h.0, h.1)
ends_out over (Malformed flaw) bytes old new a b c d f h = (finished_out (Some flaw) bytes old new a b c d f h.0, h.1)
ends_out over ReadFault bytes old new a b c d f h = (h.0, h.1, finished_out h.0 bytes old new a b c d f h.2)
ends_out over WriteFault bytes old new a b c d f h = cut_out IsClosing bytes old new a b c d f h
ends_out over NoMemory bytes old new a b c d f h = cut_out IsFront bytes old new a b c d f h
ends_out over (Overflowed entry) bytes old new a b c d f h = closed_out (overflowed_at entry) bytes old new a b c d f h
ends_out over (Quit entry) bytes old new a b c d f h = closed_out (quit_at entry) bytes old new a b c d f h

-- what steps came to, where all that waits went out
pub steps_out : (done : Result Bool Ended) (old new : SessionState) (a b c d : Option (List ℕ)) → GrowsAlike a b c d → StepsOn done old new a b → StepsOn done old new c d
steps_out (Ok true) old new a b c d f h = (served_out old.intake.held old new a b c d f h.0, h.1, h.2)
steps_out (Ok false) old new a b c d f h = (served_out old.intake.held old new a b c d f h.0, h.1, h.2)
steps_out (Err ended) old new a b c d f h = ends_out ⊥ ended old.intake.held old new a b c d f h

-- ---- a prefix of what waits went out

-- calls were answered, and a prefix of their answers went out
went_short : (start : Start) (calls : List Call) (h k : List Entry) (t u : Told) (total : List ℕ) (n : ℕ) (c d : Option (List ℕ)) → IsAlone start h → HasNothingDue start k → d ≡ append_known c (take n total)
    → WentOn start calls h k t u (Some []) (Some total) → WentPart start IsClosing [] calls h k t c d
went_short start calls h k t u total n c d a due e w = record {
  has = due_has start k due;
  gave = [];
  last = w.gave;
  count = n;
  answered = λ bytes s. rest_answered start h t a.nothing_due bytes s;
  sent = λ bytes s.
      subst (λ (l : List ℕ). AreBytesTaken start k (l ++ w.gave)) (sym (append-nil bytes))
      (sent_bytes start k u (bytes ++ w.gave) (w.sent bytes s));
  written = e ∙ ap (λ (l : List ℕ). append_known c (take n l)) (all_waits total w.gave w.written);
  is = subst (λ (l : List Call). IsClosing start (l ++ calls) k) (sym (append-nil (calls_of 1 h))) (subst (λ (l : List Call). IsClosing start l k) w.asked (closing start k due));
}

-- a part of what waits was to be all that goes out, and a prefix of it went out
part_short : (start : Start) (Is : Start → List Call → List Entry → Type 0) (calls next : List Call) (h k : List Entry) (t : Told) (total : List ℕ) (n : ℕ) (c d : Option (List ℕ)) → IsAlone start h → d ≡ append_known c (take n total)
    → WentPart start Is calls next h k t (Some []) (Some total) → WentPart start Is [] (calls ++ next) h k t c d
part_short start Is calls next h k t total n c d a e w =
    let first = calls_of 1 h in
    let twice = took_twice n (length w.gave + w.count) (w.gave ++ w.last) in
    let same : total ≡ take (length w.gave + w.count) (w.gave ++ w.last) =
    all_waits total (w.gave ++ take w.count w.last) w.written ∙ sym (take_behind w.gave w.last w.count) in
    record {
      has = w.has;
      gave = [];
      last = w.gave ++ w.last;
      count = twice.0;
      answered = λ bytes s. rest_answered start h t a.nothing_due bytes s;
      sent = λ bytes s.
          subst (λ (l : List ℕ). AreBytesTaken start k l) (append_assoc bytes w.gave w.last ∙ ap (λ (l : List ℕ). l ++ (w.gave ++ w.last)) (sym (append-nil bytes))) (w.sent bytes s);
      written = e ∙ ap (λ (l : List ℕ). append_known c (take n l)) same ∙ ap (λ (l : List ℕ). append_known c l) twice.1;
      is = subst (λ (l : List Call). Is start l k) (append_assoc first calls next ∙ ap (λ (l : List Call). l ++ (calls ++ next)) (sym (append-nil first))) w.is;
    }

-- the session that stands after calls has nothing due
still_due : (bytes : List ℕ) (old new : SessionState) (a b : Option (List ℕ)) → IsReady new → ServesCalls bytes old new a b → HasNothingDue (begun_with old) (session_entries new)
still_due bytes old new a b r h = subst (λ (s : Start). HasNothingDue s (session_entries new)) h.begins r.alone.nothing_due

served_short : (bytes : List ℕ) (old new : SessionState) (total : List ℕ) (n : ℕ) (c d : Option (List ℕ)) → IsReady old → IsReady new → d ≡ append_known c (take n total) → ServesCalls bytes old new (Some []) (Some total)
    → StopsShort IsClosing bytes old new c d
served_short bytes old new total n c d r s e h = record {
  calls = [];
  next = h.calls;
  whole = h.gave.whole;
  rest = new.intake.held;
  parts = h.gave.parts;
  spelled = h.gave.spelled;
  went = went_short (begun_with old) h.calls (session_entries old) (session_entries new) (client_told old) (client_told new) total n c d r.alone (still_due bytes old new (Some []) (Some total) s h) e h.went;
}

finished_short : (flaw : Option Flaw) (bytes : List ℕ) (old new : SessionState) (total : List ℕ) (n : ℕ) (c d : Option (List ℕ)) → IsReady old → d ≡ append_known c (take n total) → FinishesCalls flaw bytes old new (Some []) (Some total)
    → StopsShort IsClosing bytes old new c d
finished_short flaw bytes old new total n c d r e h =
    let q = calls_read old.intake.number old.intake.place h.calls bytes flaw h.reads in
    record {
      calls = [];
      next = h.calls;
      whole = q.0;
      rest = q.1;
      parts = q.2;
      spelled = q.3;
      went = went_short (begun_with old) h.calls (session_entries old) (session_entries new) (client_told old) h.later total n c d r.alone h.alone.nothing_due e h.went;
    }

closed_short : (cause : Cause) (bytes : List ℕ) (old new : SessionState) (total : List ℕ) (n : ℕ) (c d : Option (List ℕ)) → IsReady old → d ≡ append_known c (take n total) → StopsClosed cause bytes old new (Some []) (Some total)
    → StopsShort IsClosing bytes old new c d
closed_short cause bytes old new total n c d r e h = record {
  calls = [];
  next = h.calls;
  whole = h.whole;
  rest = h.rest;
  parts = h.parts;
  spelled = h.spelled;
  went = went_short (begun_with old) h.calls (session_entries old) (session_entries new) (client_told old) h.went.later total n c d r.alone h.went.nothing_due e h.went.went;
}

cut_short : (Is : Start → List Call → List Entry → Type 0) (bytes : List ℕ) (old new : SessionState) (total : List ℕ) (n : ℕ) (c d : Option (List ℕ)) → IsReady old → d ≡ append_known c (take n total) → StopsShort Is bytes old new (Some []) (Some total)
    → StopsShort Is bytes old new c d
cut_short Is bytes old new total n c d r e h = record {
  calls = [];
  next = h.calls ++ h.next;
  whole = h.whole;
  rest = h.rest;
  parts = h.parts;
  spelled = h.spelled;
  went = part_short (begun_with old) Is h.calls h.next (session_entries old) (session_entries new) (client_told old) total n c d r.alone e h.went;
}

ends_short : (ended : Ended) (bytes : List ℕ) (old new : SessionState) (total : List ℕ) (n : ℕ) (c d : Option (List ℕ)) → IsReady old → d ≡ append_known c (take n total) → EndsIn ⊥ ended bytes old new (Some []) (Some total)
    → EndsIn ⊥ (end_by_fault ended) bytes old new c d
ends_short Closed bytes old new total n c d r e h = finished_short None bytes old new total n c d r e h.0
ends_short (Malformed flaw) bytes old new total n c d r e h = finished_short (Some flaw) bytes old new total n c d r e h.0
ends_short ReadFault bytes old new total n c d r e h = finished_short h.0 bytes old new total n c d r e h.2
ends_short WriteFault bytes old new total n c d r e h = cut_short IsClosing bytes old new total n c d r e h
ends_short NoMemory bytes old new total n c d r e h = cut_short IsFront bytes old new total n c d r e h
ends_short (Overflowed entry) bytes old new total n c d r e h = closed_short (overflowed_at entry) bytes old new total n c d r e h
ends_short (Quit entry) bytes old new total n c d r e h = closed_short (quit_at entry) bytes old new total n c d r e h

-- ---- bytes that were added in steps

-- what was done with bytes behind none is done behind others
pub steps_behind : (done : Result Bool Ended) (old new : SessionState) (made added : List ℕ) → StepsOn done old new (Some []) (Some added) → StepsOn done old new (Some made) (Some (made ++ added))
steps_behind done old new made added h = steps_out done old new (Some []) (Some added) (Some made) (Some (made ++ added)) (grows_alike [] added (Some made) (Some (made ++ added)) refl refl) h

-- what was done with all bytes, where all of them went out
serves_out : {A : Type 0} (over : Type 0) (done : Result A Ended) (bytes : List ℕ) (old new : SessionState) (a b c d : Option (List ℕ)) → GrowsAlike a b c d → Serves over done bytes old new a b → Serves over done bytes old new c d
serves_out over (Ok done) bytes old new a b c d f h = (served_out bytes old new a b c d f h.0, h.1, h.2)
serves_out over (Err ended) bytes old new a b c d f h = ends_out over ended bytes old new a b c d f h

-- a front of them went out: an end by which that is so stays
cut_stays : (ended : Ended) → CutsShort ended → end_by_fault ended ≡ ended
cut_stays WriteFault h = refl
cut_stays NoMemory h = refl
cut_stays Closed h = absurd h
cut_stays (Malformed flaw) h = absurd h
cut_stays ReadFault h = absurd h
cut_stays (Overflowed entry) h = absurd h
cut_stays (Quit entry) h = absurd h

-- none is a front of none
front_none : (n : ℕ) → take {A = ℕ} n [] ≡ []
front_none zero = refl
front_none (suc n) = refl

-- nothing waited any more, and so nothing more went out
nothing_more : (u v : Option (List ℕ)) (waits : List ℕ) (n : ℕ) → waits ≡ [] → v ≡ append_known u (take n waits) → v ≡ u
nothing_more u v waits n e h = h ∙ ap (λ (l : List ℕ). append_known u l) (ap (λ (l : List ℕ). take n l) e ∙ front_none n) ∙ sym (known_none u)

short_of : (ended : Ended) (old new : SessionState) (added : List ℕ) (c d : Option (List ℕ)) → IsReady old → (count : ℕ) × (d ≡ append_known c (take count added)) → Serves {A = Unit {0}} ⊥ (Err ended) old.intake.held old new (Some []) (Some added)
    → EndsIn ⊥ (end_by_fault ended) old.intake.held old new c d
short_of ended old new added c d r front h = ends_short ended old.intake.held old new added front.0 c d r front.1 h

-- all that waits went out
pub serves_all : {A : Type 0} (done : Result A Ended) (old new : SessionState) (added waits : List ℕ) (c u d : Option (List ℕ)) → IsReady old → d ≡ append_known u waits → FlowsBy done c u [] added waits
    → Serves ⊥ done old.intake.held old new (Some []) (Some added) → Serves ⊥ done old.intake.held old new c d
serves_all (Ok done) old new added waits c u d r e g h =
    serves_out ⊥ (Ok done) old.intake.held old new (Some []) (Some added) c d (grows_alike [] added c d refl (flows_all c u d [] added waits refl g e)) h
serves_all (Err ended) old new added waits c u d r e (inl g) h =
    serves_out {A = Unit {0}} ⊥ (Err ended) old.intake.held old new (Some []) (Some added) c d (grows_alike [] added c d refl (flows_all c u d [] added waits refl g e)) h
serves_all (Err ended) old new added waits c u d r e (inr g) h =
    let same : d ≡ u = e ∙ ap (λ (l : List ℕ). append_known u l) g.1 ∙ sym (known_none u) in
    let front = front_cut c u [] added refl g.2 in
    subst (λ (x : Ended). EndsIn ⊥ x old.intake.held old new c d) (cut_stays ended g.0)
    (short_of ended old new added c d r (front.0, same ∙ front.1) h)

-- a front of what waits went out, and then a write failed
pub serves_short : {A : Type 0} (done : A) (old new : SessionState) (added waits : List ℕ) (n : ℕ) (c u d : Option (List ℕ)) → IsReady old → d ≡ append_known u (take n waits) → FlowsBy {A = A} (Ok done) c u [] added waits
    → Serves {A = A} ⊥ (Ok done) old.intake.held old new (Some []) (Some added) → EndsIn ⊥ WriteFault old.intake.held old new c d
serves_short done old new added waits n c u d r e g h =
    let front = flows_cut c u d [] added waits refl g (record { count = n; written = e }) in
    served_short old.intake.held old new added front.0 c d r h.1 front.1 h.0

pub ends_short_of : (ended : Ended) (old new : SessionState) (added waits : List ℕ) (n : ℕ) (c u d : Option (List ℕ)) → IsReady old → d ≡ append_known u (take n waits) → FlowsBy {A = Unit {0}} (Err ended) c u [] added waits
    → Serves {A = Unit {0}} ⊥ (Err ended) old.intake.held old new (Some []) (Some added) → EndsIn ⊥ (end_by_fault ended) old.intake.held old new c d
ends_short_of ended old new added waits n c u d r e (inl g) h =
    short_of ended old new added c d r (flows_cut c u d [] added waits refl g (record { count = n; written = e })) h
ends_short_of ended old new added waits n c u d r e (inr g) h =
    let front = front_cut c u [] added refl g.2 in
    short_of ended old new added c d r (front.0, nothing_more u d waits n g.1 e ∙ front.1) h

-- a fault that rose before more was written
pub rose_before : (before middle after : ℕ) → Rose before middle → middle ≤ after → Rose before after
rose_before before middle after r h = omega (arith, r, h)

-- what was added flows on behind what was added before
pub goes_behind : {A : Type 0} (done : Result A Ended) (c u d : Option (List ℕ)) (made between added waits : List ℕ) → FlowsOut c u [] made between → FlowsBy done u d between added waits → FlowsBy done c d [] (made ++ added) waits
goes_behind (Ok done) c u d made between added waits f g = goes_then c u d [] made between added waits f g
goes_behind (Err ended) c u d made between added waits f (inl g) = inl (goes_then c u d [] made between added waits f g)
goes_behind (Err ended) c u d made between added waits f (inr g) = inr (g.0, g.1, goes_cut c u d [] made between added f g.2)

-- nothing was added
pub nothing_added : (known : Option (List ℕ)) (waited : List ℕ) → FlowsOut known known waited [] waited
nothing_added known waited = only_waits known waited [] waited (sym (append-nil waited))

-- ---- a step that found no call

-- more bytes are needed
pub needs_on : (s new : SessionState) (out : Option (List ℕ)) → IsReady s → new ≡ s → WantsMore s.intake → StepsOn (Ok false) s new out out
needs_on s new out r e h = subst (λ (x : SessionState). StepsOn (Ok false) s x out out) (sym e) (served_none s out, r, h)
