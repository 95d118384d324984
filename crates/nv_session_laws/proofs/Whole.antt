-- Whole inputs are answered.
use Rattle.std.proofs.Common.{◌≡◌, ◌⊎◌, ℕ, ◌+◌, ◌^◌, ◌<◌, ◌≤◌, List, [], ◌∷◌, ◌++◌, length, take, Option, Some, None, refl, sym, ap, ap₂, inl, inr, ⊎_elim, ◌∙◌, subst, append-nil, arith}
use Rattle.std.specs.List.{concat}
use Rattle.std.proofs.lemmas.List.{append_assoc, append_cancel_left, take_at}
use Rattle.nv_value.specs.Content.{Tree}
use Rattle.nv_io.specs.declared.lanes.Flaw.{Flaw}
use Rattle.nv_io.specs.declared.lanes.Flaw.TheVariants.{Bad, TooDeep, TooLong, Inside, NoCall}
use Rattle.nv_io.specs.declared.lanes.Ended.{Ended}
use Rattle.nv_io.specs.declared.lanes.Ended.TheVariants.{Closed, Malformed, Overflowed, ReadFault, WriteFault, Quit, NoMemory}
use Rattle.nv_msgpack.specs.Reading.{Reading, whole, more, flawed, value_at}
use Rattle.nv_msgpack.specs.Reading as reading
use Rattle.nv_msgpack.specs.Within.{SpellsWithin}
use Rattle.nv_msgpack.proofs.Exact.{empty_wants, reads}
use Rattle.nv_msgpack.proofs.Flaws.{stays}
use Rattle.nv_rpc.specs.Calls.{Call, call_in}
use Rattle.nv_history.specs.Events.{Entry, Cause, closed_at, overflowed_at, quit_at}
use Rattle.nv_history.specs.Worlds.{World}
use Rattle.nv_history.specs.Asking.{calls_of}
use Rattle.nv_core.specs.declared.start.Start.{Start}
use Rattle.nv_halves.specs.Passes.{IsClosedBy}
use Rattle.nv_calls.specs.Reading.{BeginWithCalls, Calls, EndsAt, IfInside, Reads, ReadsFrom, SpellsCall, WasRead, most_bytes, most_depth}
use Rattle.nv_calls.proofs.ReadsOnce.{reads_once}
use Rattle.nv_session.specs.Ends.{AnswersAll, AnswersUpTo}
use Rattle.nv_session.specs.Sending.{history_of}
use Rattle.nv_session_laws.specs.Laws.{AnswersCalls, AsksFirst, ConnectionsAnswerCalls, HadCalls, SessionsAnswerCalls, known_left, ended_by}

-- ---- the calls at the front of bytes

-- what is read at the front of bytes
at_front : List ℕ → Reading Tree
at_front bytes = value_at most_depth most_bytes bytes

front_read : (value : Tree) (bytes front rest : List ℕ) → SpellsWithin most_depth most_bytes value front → bytes ≡ front ++ rest
    → at_front bytes ≡ whole value (length front)
unfolding at_front
front_read value bytes front rest h e = reads most_depth most_bytes bytes value front rest e h

one_value : (t u : Tree) (n m : ℕ) (r : Reading Tree) → r ≡ whole t n → r ≡ whole u m → (t ≡ u) × (n ≡ m)
one_value t u n m r p q = let c : whole t n ≡ whole u m = sym p ∙ q in (cc, cc)

-- two calls at the front of the same bytes are one, and the same follows them
record IsOneFront (call other : Call) (front left rest last : List ℕ) : Type 0 where
  pub calls : call ≡ other
  pub fronts : front ≡ left
  pub rests : rest ≡ last

one_front : (bytes : List ℕ) (call other : Call) (front left rest last : List ℕ) → SpellsCall call front → SpellsCall other left
    → bytes ≡ front ++ rest → bytes ≡ left ++ last → IsOneFront call other front left rest last
one_front bytes call other front left rest last s o e d =
    let same =
    one_value s.value o.value (length front) (length left) (at_front bytes) (front_read s.value bytes front rest s.spelled e)
    (front_read o.value bytes left last o.spelled d) in
    let call_is : Some call ≡ Some other = sym s.is_call ∙ ap call_in same.0 ∙ o.is_call in
    let joined : front ++ rest ≡ left ++ last = sym e ∙ d in
    let fronts : front ≡ left = sym (take_at front rest (length front) refl) ∙ ap (λ (l : List ℕ). take (length front) l) joined ∙ take_at left last (length front) (sym same.1) in
    let tails : front ++ rest ≡ front ++ last = joined ∙ ap (λ (l : List ℕ). l ++ last) (sym fronts) in
    record { calls = cc; fronts = fronts; rests = append_cancel_left front rest last tails }

-- nothing is no call
no_empty_call : (call : Call) → SpellsCall call [] → ⊥
no_empty_call call s =
    let one : Reads (call ∷ []) [] None = ([], [], s, refl, refl) in
    let same : [] ≡ call ∷ [] = (reads_once [] (call ∷ []) [] None None refl one).0 in
    absurd cc

-- calls at the front of bytes that are calls are the first of these
first_calls : (number place : ℕ) (firsts calls : List Call) (bytes front rest : List ℕ) → Calls firsts front → bytes ≡ front ++ rest
    → ReadsFrom number place calls bytes None → (later : List Call) × (calls ≡ firsts ++ later)
first_calls number place [] calls bytes front rest are parts read = (calls, refl)
first_calls number place (call ∷ firsts) [] bytes front rest are parts read =
    let nothing : [] ≡ are.0 ++ (are.1 ++ rest) = sym read ∙ parts ∙ ap (λ (l : List ℕ). l ++ rest) are.3 ∙ append_assoc are.0 are.1 rest in
    absurd (no_front are.0 are.2 nothing)
  where
    no_front : (l : List ℕ) → SpellsCall call l → [] ≡ l ++ (are.1 ++ rest) → ⊥
    no_front [] s is = no_empty_call call s
    no_front (b ∷ bs) s is = absurd cc
first_calls number place (call ∷ firsts) (other ∷ calls) bytes front rest are parts read =
    let here : bytes ≡ are.0 ++ (are.1 ++ rest) = parts ∙ ap (λ (l : List ℕ). l ++ rest) are.3 ∙ append_assoc are.0 are.1 rest in
    let same = one_front bytes call other are.0 read.0 (are.1 ++ rest) read.1 are.2 read.2 here read.3 in
    let more = first_calls (number + 1) (place + length read.0) firsts calls read.1 are.1 rest are.4 (sym same.rests) read.4 in
    (more.0, ap₂ (λ (c : Call) (cs : List Call). c ∷ cs) (sym same.calls) more.1)

-- ---- bytes that are calls have no flaw, whatever follows

-- a flaw that stays, whatever follows
abbrev IsSure : Flaw → Type 0
IsSure (Bad n) = Unit {0}
IsSure (TooDeep n) = Unit {0}
IsSure (TooLong n) = Unit {0}
IsSure (Inside n) = ⊥
IsSure (NoCall n) = Unit {0}

-- a value that is no call is read at the front of bytes, or a flaw is
record ReadsOther (bytes : List ℕ) : Type 0 where
  pub value : Tree
  pub taken : ℕ
  pub is : at_front bytes ≡ whole value taken
  pub no_call : call_in value ≡ None

record ReadsFlaw (bytes : List ℕ) : Type 0 where
  pub flaw : reading.Flaw
  pub place : ℕ
  pub is : at_front bytes ≡ flawed flaw place

sure_flaw : (number place : ℕ) (bytes rest : List ℕ) (flaw : Flaw) → IsSure flaw → EndsAt number place bytes (Some flaw)
    → ReadsOther (bytes ++ rest) ⊎ ReadsFlaw (bytes ++ rest)
unfolding at_front
sure_flaw number place bytes rest (Inside n) sure h = absurd sure
sure_flaw number place bytes rest (NoCall n) sure h =
    let parts : bytes ++ rest ≡ h.1.front ++ (h.1.rest ++ rest) = ap (λ (l : List ℕ). l ++ rest) h.1.parts ∙ append_assoc h.1.front h.1.rest rest in
    inl (record {
      value = h.1.value;
      taken = length h.1.front;
      is = reads most_depth most_bytes (bytes ++ rest) h.1.value h.1.front (h.1.rest ++ rest) parts h.1.spelled;
      no_call = h.1.no_call;
    })
sure_flaw number place bytes rest (Bad n) sure h =
    inr (record { flaw = reading.bad; place = h.0; is = stays most_depth most_bytes bytes rest reading.bad h.0 (omega arith) h.2.1 })
sure_flaw number place bytes rest (TooDeep n) sure h =
    inr (record { flaw = reading.too_deep; place = h.0; is = stays most_depth most_bytes bytes rest reading.too_deep h.0 (omega arith) h.2.1 })
sure_flaw number place bytes rest (TooLong n) sure h =
    inr (record { flaw = reading.too_long; place = h.0; is = stays most_depth most_bytes bytes rest reading.too_long h.0 (omega arith) h.2.1 })

nothing_read : (bytes : List ℕ) → bytes ≡ [] → at_front bytes ≡ more
unfolding at_front
nothing_read bytes none = ap (λ (l : List ℕ). value_at most_depth most_bytes l) none ∙ empty_wants most_depth most_bytes

-- where bytes are calls, neither is read
no_end : (number place : ℕ) (calls : List Call) (bytes : List ℕ) → ReadsFrom number place calls bytes None → ReadsOther bytes ⊎ ReadsFlaw bytes → ⊥
no_end number place [] bytes read other =
    ⊎_elim
    (λ (o : ReadsOther bytes). let c : more ≡ whole o.value o.taken = sym (nothing_read bytes read) ∙ o.is in cc)
    (λ (f : ReadsFlaw bytes). let c : more ≡ flawed f.flaw f.place = sym (nothing_read bytes read) ∙ f.is in cc)
    other
no_end number place (call ∷ calls) bytes read other =
    let here = front_read read.2.value bytes read.0 read.1 read.2.spelled read.3 in
    ⊎_elim
    (λ (o : ReadsOther bytes).
    let same = one_value o.value read.2.value o.taken (length read.0) (at_front bytes) o.is here in
    let c : None ≡ Some call = sym o.no_call ∙ ap call_in same.0 ∙ read.2.is_call in
    cc)
    (λ (f : ReadsFlaw bytes). let c : flawed f.flaw f.place ≡ whole read.2.value (length read.0) = sym f.is ∙ here in cc)
    other

no_sure_flaw : (number place other_number other_place : ℕ) (firsts calls : List Call) (bytes rest : List ℕ) (flaw : Flaw) → IsSure flaw
    → ReadsFrom number place firsts bytes (Some flaw) → ReadsFrom other_number other_place calls (bytes ++ rest) None → ⊥
no_sure_flaw number place other_number other_place [] calls bytes rest flaw sure flawed_so read =
    no_end other_number other_place calls (bytes ++ rest) read (sure_flaw number place bytes rest flaw sure flawed_so)
no_sure_flaw number place other_number other_place (first ∷ firsts) [] bytes rest flaw sure flawed_so read =
    let here : bytes ++ rest ≡ flawed_so.0 ++ (flawed_so.1 ++ rest) = ap (λ (l : List ℕ). l ++ rest) flawed_so.3 ∙ append_assoc flawed_so.0 flawed_so.1 rest in
    let c : more ≡ whole flawed_so.2.value (length flawed_so.0) =
    sym (nothing_read (bytes ++ rest) read) ∙ front_read flawed_so.2.value (bytes ++ rest) flawed_so.0 (flawed_so.1 ++ rest) flawed_so.2.spelled here in
    cc
no_sure_flaw number place other_number other_place (first ∷ firsts) (call ∷ calls) bytes rest flaw sure flawed_so read =
    let here : bytes ++ rest ≡ flawed_so.0 ++ (flawed_so.1 ++ rest) = ap (λ (l : List ℕ). l ++ rest) flawed_so.3 ∙ append_assoc flawed_so.0 flawed_so.1 rest in
    let same = one_front (bytes ++ rest) first call flawed_so.0 read.0 (flawed_so.1 ++ rest) read.1 flawed_so.2 read.2 here read.3 in
    no_sure_flaw (number + 1) (place + length flawed_so.0) (other_number + 1) (other_place + length read.0) firsts calls flawed_so.1 rest flaw sure flawed_so.4
    (subst (λ (l : List ℕ). ReadsFrom (other_number + 1) (other_place + length read.0) calls l None) (sym same.rests) read.4)

-- what is left of a source that was read to its end
none_left : (left : Option (List ℕ)) (read : List ℕ) → length read < 2 ^ 62 → WasRead left read → known_left left ≡ []
none_left None read short was = refl
none_left (Some bytes) read short was =
    ⊎_elim (λ (none : bytes ≡ []). none) (λ (long : 2 ^ 62 ≤ length read). absurd (omega (arith, short, long))) was

read_alone : (calls : List Call) (read : List ℕ) (left : Option (List ℕ)) → HadCalls calls read left → WasRead left read → Reads calls read None
read_alone calls read left had was =
    subst (λ (l : List ℕ). Reads calls l None) (ap (λ (l : List ℕ). read ++ l) (none_left left read had.short was) ∙ append-nil read) had.reads

no_flaw : (calls others : List Call) (read : List ℕ) (left : Option (List ℕ)) (flaw : Flaw) → HadCalls calls read left → Reads others read (Some flaw)
    → IfInside flaw (WasRead left read) → ⊥
no_flaw calls others read left (Inside n) had flawed_so was =
    let same : None ≡ Some (Inside n) = (reads_once calls others read None (Some (Inside n)) (read_alone calls read left had was) flawed_so).1 in
    absurd cc
no_flaw calls others read left (Bad n) had flawed_so was = no_sure_flaw 0 0 0 0 others calls read (known_left left) (Bad n) tt flawed_so had.reads
no_flaw calls others read left (TooDeep n) had flawed_so was = no_sure_flaw 0 0 0 0 others calls read (known_left left) (TooDeep n) tt flawed_so had.reads
no_flaw calls others read left (TooLong n) had flawed_so was = no_sure_flaw 0 0 0 0 others calls read (known_left left) (TooLong n) tt flawed_so had.reads
no_flaw calls others read left (NoCall n) had flawed_so was = no_sure_flaw 0 0 0 0 others calls read (known_left left) (NoCall n) tt flawed_so had.reads

-- calls that were read are the first of those that the source had
firsts_of : (calls firsts : List Call) (read front rest : List ℕ) (left : Option (List ℕ)) → HadCalls calls read left → Calls firsts front → read ≡ front ++ rest
    → (later : List Call) × (calls ≡ firsts ++ later)
firsts_of calls firsts read front rest left had are parts =
    first_calls 0 0 firsts calls (read ++ known_left left) front (rest ++ known_left left) are
    (ap (λ (l : List ℕ). l ++ known_left left) parts ∙ append_assoc front rest (known_left left)) had.reads

-- ---- a session alone

answers_all : (start : Start) (calls : List Call) (read : List ℕ) (kept : List Entry) (before after : Option (List ℕ)) → Reads calls read None
    → AnswersAll start None read kept before after → AnswersCalls start calls Closed kept before after
answers_all start calls read kept before after reading is =
    let same : is.calls ≡ calls = (reads_once is.calls calls read None None is.reads reading).0 in
    record {
      history = is.history ∙ ap (history_of start) same;
      cause = closed_at is.entry;
      closed = is.closed;
      ended_is = refl;
      sent = is.sent;
      sent_is = is.sent_is;
      written = is.written;
    }

answers_front : (start : Start) (calls : List Call) (cause : Cause) (read : List ℕ) (left : Option (List ℕ)) (kept : List Entry) (before after : Option (List ℕ))
    → HadCalls calls read left → AnswersUpTo start cause read kept before after → AnswersCalls start calls (ended_by cause) kept before after
answers_front start calls cause read left kept before after had is =
    let later = firsts_of calls is.calls read is.whole is.rest left had is.reads is.parts in
    record {
      history = is.history later.0 ∙ ap (history_of start) (sym later.1);
      cause = cause;
      closed = is.closed;
      ended_is = refl;
      sent = is.sent;
      sent_is = is.sent_is;
      written = is.written;
    }

pub sessions_answer_calls : SessionsAnswerCalls
unfolding SessionsAnswerCalls
sessions_answer_calls start calls Closed pieces left kept before after had ends =
    inr (answers_all start calls (concat pieces) kept before after (read_alone calls (concat pieces) left had ends.1) ends.0)
sessions_answer_calls start calls (Malformed flaw) pieces left kept before after had ends =
    absurd (no_flaw calls ends.0.calls (concat pieces) left flaw had ends.0.reads ends.1)
sessions_answer_calls start calls (Overflowed entry) pieces left kept before after had ends =
    inr (answers_front start calls (overflowed_at entry) (concat pieces) left kept before after had ends)
sessions_answer_calls start calls ReadFault pieces left kept before after had ends = inl tt
sessions_answer_calls start calls WriteFault pieces left kept before after had ends = inl tt
sessions_answer_calls start calls (Quit entry) pieces left kept before after had ends =
    inr (answers_front start calls (quit_at entry) (concat pieces) left kept before after had ends)
sessions_answer_calls start calls NoMemory pieces left kept before after had ends = inl tt

-- ---- a connection of many

asks_first : (calls : List Call) (cause : Cause) (s : ℕ) (history : List Entry) (world : World) (read : List ℕ) (left : Option (List ℕ)) → HadCalls calls read left
    → BeginWithCalls (calls_of s history) read → IsClosedBy world s cause → (ended_by cause ≡ Closed → ⊥) → AsksFirst calls (ended_by cause) s history world
asks_first calls cause s history world read left had begin closed other =
    let later = firsts_of calls (calls_of s history) read begin.0 begin.1 left had begin.3 begin.2 in
    record {
      cause = cause;
      closed = closed;
      ended_is = refl;
      later = later.0;
      asked = later.1;
      all = λ is. absurd (other is);
    }

abbrev is_other : Ended → Type 0
is_other Closed = ⊥
is_other (Malformed flaw) = Unit {0}
is_other (Overflowed entry) = Unit {0}
is_other ReadFault = Unit {0}
is_other WriteFault = Unit {0}
is_other (Quit entry) = Unit {0}
is_other NoMemory = Unit {0}

pub connections_answer_calls : ConnectionsAnswerCalls
unfolding ConnectionsAnswerCalls
connections_answer_calls calls Closed start s history world x had ends =
    let same : calls ≡ calls_of s history = (reads_once calls (calls_of s history) x.read None None (read_alone calls x.read x.left had ends.1) ends.0).0 in
    let over = ends.2.1.1 in
    inr (record {
      cause = closed_at ends.2.0;
      closed = (over.0, over.1, over.2);
      ended_is = refl;
      later = [];
      asked = same ∙ sym (append-nil (calls_of s history));
      all = λ is. refl;
    })
connections_answer_calls calls (Malformed flaw) start s history world x had ends =
    absurd (no_flaw calls (calls_of s history) x.read x.left flaw had ends.0 ends.1)
connections_answer_calls calls (Overflowed entry) start s history world x had ends =
    inr (asks_first calls (overflowed_at entry) s history world x.read x.left had ends.0 ends.1.0 (λ is. subst is_other is tt))
connections_answer_calls calls ReadFault start s history world x had ends = inl tt
connections_answer_calls calls WriteFault start s history world x had ends = inl tt
connections_answer_calls calls (Quit entry) start s history world x had ends =
    inr (asks_first calls (quit_at entry) s history world x.read x.left had ends.0 ends.1.0 (λ is. subst is_other is tt))
connections_answer_calls calls NoMemory start s history world x had ends = inl tt
