-- How a client stands after its steps, and how following ends.
use Rattle.std.proofs.Common.{◌≡◌, ◌⊎◌, ℕ, ◌+◌, ◌<◌, ◌≤◌, ℤ, List, [], ◌∷◌, ◌++◌, length, take, Option, Some, None, Result, Ok, Err, refl, sym, ap, subst, ◌∙◌, inl, inr, ⊎_elim, arith, length-append}
use Rattle.std.proofs.lemmas.List.{append-nil, append_assoc, take_all}
use Rattle.std.proofs.lemmas.List.Folds.{concat-append}
use Rattle.std.specs.Prelude.{⊤}
use Rattle.std.specs.List.{concat}
use Rattle.std.specs.Option.{option_or}
use Rattle.nv_value.specs.Content.{Tree}
use Rattle.nv_value.specs.View.{content}
use Rattle.nv_value.specs.declared.value.Value.{Value}
use Rattle.nv_io.specs.declared.lanes.Flaw.{Flaw}
use Rattle.nv_io.specs.declared.lanes.Flaw.TheVariants.{Bad, TooDeep, TooLong, Inside, NoCall}
use Rattle.nv_stream.specs.State.{State, empty_state, with_piece, end_at, stream_end}
use Rattle.nv_stream.specs.Answers.{IsAnswer, NeedsMore}
use Rattle.nv_stream.specs.Runs.{HasCut}
use Rattle.nv_stream.specs.declared.stream.Next.TheVariants.{Value as TheValue, More as AskMore, Flaw as TheFlaw}
use Rattle.nv_stream.proofs.Taken.{Taken, MetFlaw, taken_fed, taken_gave, taken_more, taken_flaw, given_shrinks}
use Rattle.nv_subs.specs.Mirrors.{Mirror, absent}
use Rattle.nv_rpc.specs.Messages.{Sent}
use Rattle.nv_mirror.specs.Listings.{Received, StopReason, buffer_detached, request_refused, unfit, strange, received_in, messages_with, messages_in, listing, listing_from, stop_by, stop_from, stop_in}
use Rattle.nv_mirror.specs.Ends.{most_levels, most_spelled, BeginWith, ListsAll, StopsAtValue, ListsSome, FollowsTo, ListsAtOnce}
use Rattle.nv_mirror.specs.declared.followed.Followed.{Followed}
use Rattle.nv_mirror.specs.declared.followed.Followed.TheVariants.{Ended, Detached, Malformed, Refused, Unfit, ReadFault, ServerFault, OutputFault, NoMemory}
use Rattle.nv_mirror.specs.inside.Steps.{Known, EndsBy, GoesPast, stop_alone, listing_alone, EndsAtValue, TakesReceived, Standing, IsOn, StepsTo, StepsFromAny, followed_of_flaw}
use Rattle.nv_mirror.proofs.Outs.{take_past}

-- what was given of the stream
taken_of : (buffer : ℤ) (bytes listed : List ℕ) (s : Standing) (h : IsOn buffer bytes listed s) → Taken most_levels most_spelled bytes h.values s.stream
taken_of buffer bytes listed s h = record {
  room = omega arith;
  depth_is = h.depth;
  most_is = h.most;
  front = h.front.0;
  spelled = h.front.1;
  split = h.front.2;
  start = h.front.3;
  flaw = subst (λ (o : Option Flaw). MetFlaw most_levels most_spelled s.stream.start s.stream.held o) (sym h.no_flaw) tt;
}

-- the stops and the texts of one value more
stops_more : (buffer : ℤ) (values : List Tree) (t : Tree) (old new : Known) (out : List ℕ) → old.buffer ≡ buffer
    → ((later : List Tree) → stop_in buffer (values ++ later) ≡ stop_from buffer old.number old.mirror later) → GoesPast (received_in t) old new out
    → (later : List Tree) → stop_in buffer ((values ++ t ∷ []) ++ later) ≡ stop_from buffer new.number new.mirror later
stops_more buffer values t old new out a s p later =
    let past : stop_by buffer old.number old.mirror (received_in t) (λ next. stop_from buffer (old.number + 1) next later) ≡ stop_from buffer (old.number + 1) new.mirror later =
    subst (λ (b : ℤ). stop_by b old.number old.mirror (received_in t) (λ next. stop_from buffer (old.number + 1) next later) ≡ stop_from buffer (old.number + 1) new.mirror later) a
    (p.stops (λ next. stop_from buffer (old.number + 1) next later)) in
    ap (λ (l : List Tree). stop_in buffer l) (append_assoc values (t ∷ []) later)
    ∙ s (t ∷ later)
    ∙ past
    ∙ ap (λ (n : ℕ). stop_from buffer n new.mirror later) (sym p.number)

lists_more : (buffer : ℤ) (values : List Tree) (listed : List ℕ) (t : Tree) (old new : Known) (out : List ℕ) → old.buffer ≡ buffer
    → ((later : List Tree) → listing buffer (messages_in (values ++ later)) ≡ listed ++ listing_from buffer old.mirror (messages_in later)) → GoesPast (received_in t) old new out
    → (later : List Tree) → listing buffer (messages_in ((values ++ t ∷ []) ++ later)) ≡ (listed ++ out) ++ listing_from buffer new.mirror (messages_in later)
lists_more buffer values listed t old new out a s p later =
    let past : listing_from buffer old.mirror (messages_with (received_in t) (messages_in later)) ≡ out ++ listing_from buffer new.mirror (messages_in later) =
    subst (λ (b : ℤ). listing_from b old.mirror (messages_with (received_in t) (messages_in later)) ≡ out ++ listing_from b new.mirror (messages_in later)) a
    (p.lists (messages_in later)) in
    ap (λ (l : List Tree). listing buffer (messages_in l)) (append_assoc values (t ∷ []) later)
    ∙ s (t ∷ later)
    ∙ ap (λ (l : List ℕ). listed ++ l) past
    ∙ sym (append_assoc listed out (listing_from buffer new.mirror (messages_in later)))

-- a value was given, and the client goes on past it
on_value : (buffer : ℤ) (bytes listed out : List ℕ) (v : Value) (old new : Standing) → IsOn buffer bytes listed old → IsAnswer (TheValue v) old.stream new.stream
    → GoesPast (received_in (content v)) old.known new.known out → IsOn buffer bytes (listed ++ out) new
on_value buffer bytes listed out v old new h g p =
    let k = taken_gave most_levels most_spelled bytes h.values v old.stream new.stream (taken_of buffer bytes listed old h) g in
    record {
      about = p.buffer ∙ h.about;
      depth = k.depth_is;
      most = k.most_is;
      no_flaw = ap (λ (s : State). s.flaw) g.4 ∙ g.1;
      values = h.values ++ content v ∷ [];
      front = (k.front, k.spelled, k.split, k.start);
      stops = stops_more buffer h.values (content v) old.known new.known out h.about h.stops p;
      lists = lists_more buffer h.values listed (content v) old.known new.known out h.about h.lists p;
    }

-- the values looked at and one more, what they come to, and what they list
record OneMore (buffer : ℤ) (bytes listed : List ℕ) (received : Received) (k : Known) : Type 0 where
  values : List Tree
  place : ℕ
  rest : List ℕ
  front : BeginWith bytes values place rest
  stops : stop_in buffer values ≡ stop_alone k received
  lists : listing buffer (messages_in values) ≡ listed ++ listing_alone k received

one_more : (buffer : ℤ) (bytes listed : List ℕ) (v : Value) (old : Standing) (new : State) → IsOn buffer bytes listed old → IsAnswer (TheValue v) old.stream new
    → OneMore buffer bytes listed (received_in (content v)) old.known
one_more buffer bytes listed v old new h g =
    let t = content v in
    let k = taken_gave most_levels most_spelled bytes h.values v old.stream new (taken_of buffer bytes listed old h) g in
    record {
      values = h.values ++ t ∷ [];
      place = new.start;
      rest = new.held;
      front = (k.front, k.spelled, k.split, k.start);
      stops = h.stops (t ∷ []) ∙ subst (λ (b : ℤ). stop_from b old.known.number old.known.mirror (t ∷ []) ≡ stop_alone old.known (received_in t)) h.about refl;
      lists = h.lists (t ∷ []) ∙ ap (λ (l : List ℕ). listed ++ l)
          (subst (λ (b : ℤ). listing_from b old.known.mirror (messages_in (t ∷ [])) ≡ listing_alone old.known (received_in t)) h.about refl);
    }

stops_there : (buffer : ℤ) (bytes listed out : List ℕ) (received : Received) (k : Known) (stop : StopReason) → OneMore buffer bytes listed received k → stop_alone k received ≡ Some stop → out ≡ listing_alone k received
    → StopsAtValue buffer stop bytes (listed ++ out)
stops_there buffer bytes listed out received k stop h s o = record {
  values = h.values;
  place = h.place;
  rest = h.rest;
  front = h.front;
  stops = h.stops ∙ s;
  lists = ap (λ (l : List ℕ). listed ++ l) o ∙ sym h.lists;
}

some_there : (buffer : ℤ) (bytes listed out : List ℕ) (received : Received) (k : Known) → OneMore buffer bytes listed received k → (n : ℕ) × (out ≡ take n (listing_alone k received))
    → ListsSome buffer bytes (listed ++ out)
some_there buffer bytes listed out received k h p = record {
  values = h.values;
  place = h.place;
  rest = h.rest;
  front = h.front;
  count = length listed + p.0;
  lists = ap (λ (l : List ℕ). listed ++ l) p.1 ∙ sym (take_past listed (listing_alone k received) p.0) ∙ ap (λ (l : List ℕ). take (length listed + p.0) l) (sym h.lists);
}

ends_there : (over : Type 0) (f : Followed) (buffer : ℤ) (bytes listed out : List ℕ) (received : Received) (k : Known) → OneMore buffer bytes listed received k → EndsAtValue f k received out
    → FollowsTo over buffer f bytes (listed ++ out)
ends_there over Ended buffer bytes listed out r k h e = absurd e.0
ends_there over Detached buffer bytes listed out r k h e = stops_there buffer bytes listed out r k buffer_detached h e.0 e.1
ends_there over (Malformed (Bad n)) buffer bytes listed out r k h e = absurd e.0
ends_there over (Malformed (TooDeep n)) buffer bytes listed out r k h e = absurd e.0
ends_there over (Malformed (TooLong n)) buffer bytes listed out r k h e = absurd e.0
ends_there over (Malformed (Inside n)) buffer bytes listed out r k h e = absurd e.0
ends_there over (Malformed (NoCall n)) buffer bytes listed out r k h e = stops_there buffer bytes listed out r k (strange n) h e.0 e.1
ends_there over (Refused words) buffer bytes listed out r k h e = stops_there buffer bytes listed out r k (request_refused words) h e.0 e.1
ends_there over (Unfit n) buffer bytes listed out r k h e = stops_there buffer bytes listed out r k (unfit n) h e.0 e.1
ends_there over ReadFault buffer bytes listed out r k h e = absurd e.0
ends_there over ServerFault buffer bytes listed out r k h e = absurd e.0
ends_there over OutputFault buffer bytes listed out r k h e = some_there buffer bytes listed out r k h e
ends_there over NoMemory buffer bytes listed out r k h e = some_there buffer bytes listed out r k h e

-- ---- steps

same_bytes : (over : Type 0) (f : Followed) (buffer : ℤ) (bytes listed : List ℕ) → FollowsTo over buffer f bytes listed → FollowsTo over buffer f (bytes ++ []) listed
same_bytes over f buffer bytes listed h = subst (λ (l : List ℕ). FollowsTo over buffer f l listed) (sym (append-nil bytes)) h

same_listed : (over : Type 0) (f : Followed) (buffer : ℤ) (bytes listed : List ℕ) → FollowsTo over buffer f bytes listed → FollowsTo over buffer f bytes (listed ++ [])
same_listed over f buffer bytes listed h = subst (λ (l : List ℕ). FollowsTo over buffer f bytes l) (sym (append-nil listed)) h

-- a value was looked at
pub steps_value : (v : Value) (out : List ℕ) (old new : Standing) → IsAnswer (TheValue v) old.stream new.stream → GoesPast (received_in (content v)) old.known new.known out
    → StepsFromAny {A = Unit {0}} ⊥ (Ok tt) ([], out) old new
steps_value v out old new g p = λ buffer bytes listed h.
    subst (λ (l : List ℕ). IsOn buffer l (listed ++ out) new) (sym (append-nil bytes)) (on_value buffer bytes listed out v old new h g p)

-- following ends at a value
pub steps_end : (v : Value) (f : Followed) (out : List ℕ) (old : Standing) (new : State) (last : Standing) → IsAnswer (TheValue v) old.stream new → EndsAtValue f old.known (received_in (content v)) out
    → StepsFromAny {A = Unit {0}} ⊥ (Err f) ([], out) old last
steps_end v f out old new last g e = λ buffer bytes listed h.
    same_bytes ⊥ f buffer bytes (listed ++ out) (ends_there ⊥ f buffer bytes listed out (received_in (content v)) old.known (one_more buffer bytes listed v old new h g) e)

-- nothing was done
pub steps_none : (over : Type 0) (old new : Standing) → new ≡ old → StepsFromAny {A = Unit {0}} over (Ok tt) ([], []) old new
steps_none over old new e = λ buffer bytes listed h.
    subst (λ (s : Standing). IsOn buffer (bytes ++ []) (listed ++ []) s) (sym e)
    (subst (λ (l : List ℕ). IsOn buffer l (listed ++ []) old) (sym (append-nil bytes)) (subst (λ (l : List ℕ). IsOn buffer bytes l old) (sym (append-nil listed)) h))

-- the values so far are listed
all_listed : (buffer : ℤ) (bytes listed : List ℕ) (s : Standing) (h : IsOn buffer bytes listed s) → listed ≡ listing buffer (messages_in h.values)
all_listed buffer bytes listed s h =
    sym (ap (λ (l : List Tree). listing buffer (messages_in l)) (sym (append-nil h.values)) ∙ h.lists [] ∙ append-nil listed)

none_stops : (buffer : ℤ) (bytes listed : List ℕ) (s : Standing) (h : IsOn buffer bytes listed s) → stop_in buffer h.values ≡ None
none_stops buffer bytes listed s h = ap (λ (l : List Tree). stop_in buffer l) (sym (append-nil h.values)) ∙ h.stops []

lists_all : (buffer : ℤ) (bytes listed : List ℕ) (s : Standing) (end : Option Flaw) (h : IsOn buffer bytes listed s) → HasCut most_levels most_spelled bytes h.values end → ListsAll buffer end bytes listed
lists_all buffer bytes listed s end h c = record {
  values = h.values;
  cut = c;
  goes_on = none_stops buffer bytes listed s h;
  lists = all_listed buffer bytes listed s h;
}

-- memory was wanting
some_listed : (buffer : ℤ) (bytes listed : List ℕ) (s : Standing) → IsOn buffer bytes listed s → ListsSome buffer bytes listed
some_listed buffer bytes listed s h = record {
  values = h.values;
  place = s.stream.start;
  rest = s.stream.held;
  front = h.front;
  count = length listed;
  lists = sym (take_all (length listed) listed (omega arith)) ∙ ap (λ (l : List ℕ). take (length listed) l) (all_listed buffer bytes listed s h);
}

-- the values so far begin more bytes too
some_more : (buffer : ℤ) (bytes piece listed : List ℕ) → ListsSome buffer bytes listed → ListsSome buffer (bytes ++ piece) listed
some_more buffer bytes piece listed h = record {
  values = h.values;
  place = h.place;
  rest = h.rest ++ piece;
  front = (h.front.0, h.front.1, ap (λ (l : List ℕ). l ++ piece) h.front.2 ∙ append_assoc h.front.0 h.rest piece, h.front.3);
  count = h.count;
  lists = h.lists;
}

pub steps_no_memory : (over : Type 0) (piece : List ℕ) (old new : Standing) → StepsFromAny {A = Unit {0}} over (Err NoMemory) (piece, []) old new
steps_no_memory over piece old new = λ buffer bytes listed h.
    subst (λ (l : List ℕ). ListsSome buffer (bytes ++ piece) l) (sym (append-nil listed)) (some_more buffer bytes piece listed (some_listed buffer bytes listed old h))

-- the bytes have a flaw
flawed : (over : Type 0) (f : Flaw) (buffer : ℤ) (bytes listed : List ℕ) (values : List Tree) → HasCut most_levels most_spelled bytes values (Some f) → (Inside_is : (n : ℕ) → f ≡ Inside n → over)
    → ListsAll buffer (Some f) bytes listed → FollowsTo over buffer (Malformed f) bytes listed
flawed over (Bad n) buffer bytes listed values c i h = h
flawed over (TooDeep n) buffer bytes listed values c i h = h
flawed over (TooLong n) buffer bytes listed values c i h = h
flawed over (Inside n) buffer bytes listed values c i h = (h, i n refl)
flawed over (NoCall n) buffer bytes listed values c i h = absurd c.4

no_inside : (over : Type 0) (f : Flaw) (old new : State) → old.flaw ≡ None → IsAnswer (TheFlaw f) old new → (n : ℕ) → f ≡ Inside n → over
no_inside over (Bad n) old new e g k i = cc
no_inside over (TooDeep n) old new e g k i = cc
no_inside over (TooLong n) old new e g k i = cc
no_inside over (NoCall n) old new e g k i = cc
no_inside over (Inside n) old new e g k i =
    absurd (⊎_elim (λ m. let c : None ≡ Some (Inside n) = sym e ∙ m in cc) (λ w. w.1) g.1)

pub steps_flaw : (f : Flaw) (old : Standing) (new : State) (last : Standing) → IsAnswer (TheFlaw f) old.stream new → StepsFromAny {A = Unit {0}} ⊥ (Err (Malformed f)) ([], []) old last
steps_flaw f old new last g = λ buffer bytes listed h.
    let c = (taken_flaw most_levels most_spelled bytes h.values f old.stream new (taken_of buffer bytes listed old h) g).1 in
    same_bytes ⊥ (Malformed f) buffer bytes (listed ++ [])
    (same_listed ⊥ (Malformed f) buffer bytes listed (flawed ⊥ f buffer bytes listed h.values c (no_inside ⊥ f old.stream new h.no_flaw g) (lists_all buffer bytes listed old (Some f) h c)))

-- ---- the end of the bytes

-- nothing more comes, or reading fails
abbrev EndsIn : Type 0 → ℤ → Option Flaw → List ℕ → List ℕ → Type 0
EndsIn over buffer end bytes listed =
    (over → FollowsTo over buffer (followed_of_flaw end) bytes listed) × FollowsTo over buffer ReadFault bytes listed

end_found : (over : Type 0) (buffer : ℤ) (bytes listed held : List ℕ) (start : ℕ) (s : Standing) (h : IsOn buffer bytes listed s) → HasCut most_levels most_spelled bytes h.values (end_at start held)
    → EndsIn over buffer (end_at start held) bytes listed
end_found over buffer bytes listed [] start s h c =
    let all = lists_all buffer bytes listed s None h c in (λ o. (all, o), inl all)
end_found over buffer bytes listed (b ∷ held) start s h c =
    let all = lists_all buffer bytes listed s (Some (Inside start)) h c in (λ o. (all, o), inr (start, all))

end_of : (over : Type 0) (buffer : ℤ) (bytes listed : List ℕ) (s : Standing) → IsOn buffer bytes listed s → NeedsMore s.stream → EndsIn over buffer (stream_end s.stream) bytes listed
end_of over buffer bytes listed s h w =
    let c = (taken_more most_levels most_spelled bytes h.values s.stream s.stream (taken_of buffer bytes listed s h) (refl, h.no_flaw, w)).1 in
    let e : stream_end s.stream ≡ end_at s.stream.start s.stream.held = ap (λ (o : Option Flaw). option_or o (end_at s.stream.start s.stream.held)) h.no_flaw in
    subst (λ (o : Option Flaw). EndsIn over buffer o bytes listed) (sym e)
    (end_found over buffer bytes listed s.stream.held s.stream.start s h (subst (λ (o : Option Flaw). HasCut most_levels most_spelled bytes h.values o) e c))

pub steps_over : (over : Type 0) (f : Followed) (old new : Standing) → over → NeedsMore old.stream → f ≡ followed_of_flaw (stream_end old.stream)
    → StepsFromAny {A = Unit {0}} over (Err f) ([], []) old new
steps_over over f old new o w e = λ buffer bytes listed h.
    same_bytes over f buffer bytes (listed ++ []) (same_listed over f buffer bytes listed
    (subst (λ (x : Followed). FollowsTo over buffer x bytes listed) (sym e) ((end_of over buffer bytes listed old h w).0 o)))

pub steps_read_fault : (over : Type 0) (old new : Standing) → NeedsMore old.stream → StepsFromAny {A = Unit {0}} over (Err ReadFault) ([], []) old new
steps_read_fault over old new w = λ buffer bytes listed h.
    same_bytes over ReadFault buffer bytes (listed ++ []) (same_listed over ReadFault buffer bytes listed ((end_of over buffer bytes listed old h w).1))

-- a piece came
pub steps_piece : (over : Type 0) (piece : List ℕ) (old new : Standing) → new.stream ≡ with_piece old.stream piece → new.known ≡ old.known
    → StepsFromAny {A = Unit {0}} over (Ok tt) (piece, []) old new
steps_piece over piece old new e k = λ buffer bytes listed h.
    let t = taken_fed most_levels most_spelled bytes piece h.values old.stream new.stream (taken_of buffer bytes listed old h) e in
    subst (λ (l : List ℕ). IsOn buffer (bytes ++ piece) l new) (sym (append-nil listed)) (record {
      about = ap (λ (x : Known). x.buffer) k ∙ h.about;
      depth = t.depth_is;
      most = t.most_is;
      no_flaw = ap (λ (s : State). s.flaw) e ∙ h.no_flaw;
      values = h.values;
      front = (t.front, t.spelled, t.split, t.start);
      stops = λ later. h.stops later ∙ ap (λ (x : Known). stop_from buffer x.number x.mirror later) (sym k);
      lists = λ later. h.lists later ∙ ap (λ (x : Known). listed ++ listing_from buffer x.mirror (messages_in later)) (sym k);
    })

-- ---- steps one after another

-- what more says that no bytes come says that none come
over_weaker : (over more : Type 0) (f : Followed) (buffer : ℤ) (bytes listed : List ℕ) → (over → more) → FollowsTo over buffer f bytes listed → FollowsTo more buffer f bytes listed
over_weaker over more Ended buffer bytes listed i h = (h.0, i h.1)
over_weaker over more Detached buffer bytes listed i h = h
over_weaker over more (Malformed (Bad n)) buffer bytes listed i h = h
over_weaker over more (Malformed (TooDeep n)) buffer bytes listed i h = h
over_weaker over more (Malformed (TooLong n)) buffer bytes listed i h = h
over_weaker over more (Malformed (Inside n)) buffer bytes listed i h = (h.0, i h.1)
over_weaker over more (Malformed (NoCall n)) buffer bytes listed i h = h
over_weaker over more (Refused words) buffer bytes listed i h = h
over_weaker over more (Unfit n) buffer bytes listed i h = h
over_weaker over more ReadFault buffer bytes listed i h = h
over_weaker over more ServerFault buffer bytes listed i h = h
over_weaker over more OutputFault buffer bytes listed i h = h
over_weaker over more NoMemory buffer bytes listed i h = h

pub steps_weaker : {A : Type 0} → (over more : Type 0) (r : Result A Followed) (told : List ℕ × List ℕ) (old new : Standing) → (over → more) → StepsFromAny over r told old new → StepsFromAny more r told old new
steps_weaker over more (Ok done) told old new i h = h
steps_weaker over more (Err f) told old new i h = λ buffer bytes listed o. over_weaker over more f buffer (bytes ++ told.0) (listed ++ told.1) i (h buffer bytes listed o)

pub steps_then : {B : Type 0} → (none over : Type 0) (r : Result B Followed) (a b x y : List ℕ) (first second last : Standing) → StepsFromAny {A = Unit {0}} none (Ok tt) (a, x) first second → StepsFromAny over r (b, y) second last
    → StepsFromAny over r (a ++ b, x ++ y) first last
steps_then none over r a b x y first second last p q = λ buffer bytes listed h.
    subst (λ (l : List ℕ). StepsTo over r buffer (bytes ++ (a ++ b), l) last) (append_assoc listed x y)
    (subst (λ (l : List ℕ). StepsTo over r buffer (l, (listed ++ x) ++ y) last) (append_assoc bytes a b) (q buffer (bytes ++ a) (listed ++ x) (p buffer bytes listed h)))

-- and they go on, or end it
pub steps_on : (none over : Type 0) (a b x y : List ℕ) (first second last : Standing) → StepsFromAny {A = Unit {0}} none (Ok tt) (a, x) first second → StepsFromAny {A = Unit {0}} over (Ok tt) (b, y) second last
    → StepsFromAny {A = Unit {0}} over (Ok tt) (a ++ b, x ++ y) first last
steps_on none over a b x y first second last p q = steps_then {B = Unit {0}} none over (Ok tt) a b x y first second last p q

pub steps_stop : (none over : Type 0) (f : Followed) (a b x y : List ℕ) (first second last : Standing) → StepsFromAny {A = Unit {0}} none (Ok tt) (a, x) first second → StepsFromAny {A = Unit {0}} over (Err f) (b, y) second last
    → StepsFromAny {A = Unit {0}} over (Err f) (a ++ b, x ++ y) first last
steps_stop none over f a b x y first second last p q = steps_then {B = Unit {0}} none over (Err f) a b x y first second last p q

-- ---- what a stream holds, as values are taken

pub value_moves : (v : Value) (old new : State) → IsAnswer (TheValue v) old new → (length new.held < length old.held) × (new.start + length new.held ≡ old.start + length old.held) × (old.start + 1 ≤ new.start)
value_moves v old new g =
    let some = given_shrinks v old new g in
    let start : new.start ≡ old.start + length g.0 = ap (λ (s : State). s.start) g.4 in
    let split : length old.held ≡ length g.0 + length new.held = ap (length {A = ℕ}) g.3 ∙ length-append g.0 new.held in
    (some, omega (arith, start, split), omega (arith, some, start, split))

pub piece_moves : (piece : List ℕ) (old new : State) → new ≡ with_piece old piece → (new.start + length new.held ≡ old.start + length old.held + length piece) × (new.start ≡ old.start)
piece_moves piece old new e =
    let start : new.start ≡ old.start = ap (λ (s : State). s.start) e in
    let held : length new.held ≡ length old.held + length piece = ap (λ (s : State). length s.held) e ∙ length-append old.held piece in
    (omega (arith, start, held), start)

-- ---- a client to which no byte came

pub on_fresh : (buffer : ℤ) (s : Standing) → s ≡ record { stream = empty_state most_levels most_spelled; known = record { buffer = buffer; number = 0; mirror = absent } } → IsOn buffer [] [] s
on_fresh buffer s e =
    subst (λ (x : Standing). IsOn buffer [] [] x) (sym e) (record {
      about = refl;
      depth = refl;
      most = refl;
      no_flaw = refl;
      values = [];
      front = ([], refl, refl, refl);
      stops = λ later. refl;
      lists = λ later. refl;
    })

-- ---- all steps of a client

-- they ended it
pub follows_from : (over more : Type 0) (f : Followed) (buffer : ℤ) (bytes listed : List ℕ) (first last : Standing) → IsOn buffer [] [] first → (over → more) → StepsFromAny {A = Unit {0}} over (Err f) (bytes, listed) first last
    → FollowsTo more buffer f bytes listed
follows_from over more f buffer bytes listed first last h i s = over_weaker over more f buffer bytes listed i (s buffer [] [] h)

-- no more bytes come
pub follows_over : (over : Type 0) (f : Followed) (buffer : ℤ) (bytes listed : List ℕ) (first last : Standing) → IsOn buffer [] [] first → NeedsMore last.stream → over
    → f ≡ followed_of_flaw (stream_end last.stream) → StepsFromAny {A = Unit {0}} ⊥ (Ok tt) (bytes, listed) first last → FollowsTo over buffer f bytes listed
follows_over over f buffer bytes listed first last h w o e s =
    subst (λ (x : Followed). FollowsTo over buffer x bytes listed) (sym e) ((end_of over buffer bytes listed last (s buffer [] [] h) w).0 o)

-- one read more: before it all was listed
pub at_once : (buffer : ℤ) (pieces : List (List ℕ)) (piece listed out : List ℕ) (first last : Standing) → IsOn buffer [] [] first → NeedsMore last.stream
    → StepsFromAny {A = Unit {0}} ⊥ (Ok tt) (concat pieces, listed) first last → ListsAtOnce buffer (pieces ++ piece ∷ []) (listed ++ out)
at_once buffer pieces piece listed out first last h w s =
    inr (pieces, piece, listed, out, refl, refl, (end_of ⊤ buffer (concat pieces) listed last (s buffer [] [] h) w).1)

pub concat_push : (pieces : List (List ℕ)) (piece : List ℕ) → concat (pieces ++ piece ∷ []) ≡ concat pieces ++ piece
concat_push pieces piece = concat-append pieces (piece ∷ []) ∙ ap (λ (l : List ℕ). concat pieces ++ l) (append-nil piece)

-- steps over the pieces so far, and over one more
pub steps_push : (over : Type 0) (pieces : List (List ℕ)) (piece x y : List ℕ) (first second last : Standing) → StepsFromAny {A = Unit {0}} ⊥ (Ok tt) (concat pieces, x) first second → StepsFromAny {A = Unit {0}} over (Ok tt) (piece, y) second last
    → StepsFromAny {A = Unit {0}} over (Ok tt) (concat (pieces ++ piece ∷ []), x ++ y) first last
steps_push over pieces piece x y first second last p q =
    subst (λ (l : List ℕ). StepsFromAny {A = Unit {0}} over (Ok tt) (l, x ++ y) first last) (sym (concat_push pieces piece)) (steps_on ⊥ over (concat pieces) piece x y first second last p q)

pub steps_last : (over : Type 0) (f : Followed) (pieces : List (List ℕ)) (piece x y : List ℕ) (first second last : Standing) → StepsFromAny {A = Unit {0}} ⊥ (Ok tt) (concat pieces, x) first second
    → StepsFromAny {A = Unit {0}} over (Err f) (piece, y) second last → StepsFromAny {A = Unit {0}} over (Err f) (concat (pieces ++ piece ∷ []), x ++ y) first last
steps_last over f pieces piece x y first second last p q =
    subst (λ (l : List ℕ). StepsFromAny {A = Unit {0}} over (Err f) (l, x ++ y) first last) (sym (concat_push pieces piece)) (steps_stop ⊥ over f (concat pieces) piece x y first second last p q)

pub sum_push : (pieces : List (List ℕ)) (piece : List ℕ) → length (concat (pieces ++ piece ∷ [])) ≡ length (concat pieces) + length piece
sum_push pieces piece = ap (length {A = ℕ}) (concat_push pieces piece) ∙ length-append (concat pieces) piece

-- ---- the end of the bytes is no fault

pub not_read_fault : (end : Option Flaw) → followed_of_flaw end ≡ ReadFault → ⊥
not_read_fault None e = cc
not_read_fault (Some f) e = cc

pub not_output_fault : (end : Option Flaw) → followed_of_flaw end ≡ OutputFault → ⊥
not_output_fault None e = cc
not_output_fault (Some f) e = cc

pub not_server_fault : (end : Option Flaw) → followed_of_flaw end ≡ ServerFault → ⊥
not_server_fault None e = cc
not_server_fault (Some f) e = cc

-- ---- a piece, and the values that are whole by it

pub steps_turn : {B : Type 0} → (over : Type 0) (r : Result B Followed) (piece out : List ℕ) (first second last : Standing) → StepsFromAny {A = Unit {0}} over (Ok tt) (piece, []) first second → StepsFromAny ⊥ r ([], out) second last
    → StepsFromAny over r (piece, out) first last
steps_turn over r piece out first second last p q =
    subst (λ (l : List ℕ). StepsFromAny over r (l, out) first last) (append-nil piece)
    (steps_then over over r piece [] [] out first second last p (steps_weaker ⊥ over r ([], out) second last (λ e. absurd e) q))

-- ---- nothing was read

pub nothing_listed : (buffer : ℤ) → ListsSome buffer [] []
nothing_listed buffer = record {
  values = [];
  place = 0;
  rest = [];
  front = ([], refl, refl, refl);
  count = 0;
  lists = refl;
}

-- ---- no value is a fault of a read, or of the server

pub no_read_at : {A : Type 0} → (x : Result A Followed) (f : Followed) (k : Known) (r : Received) (out : List ℕ) → EndsAtValue f k r out → x ≡ Err f → x ≡ Err ReadFault → ⊥
no_read_at x f k r out h d e =
    let q : f ≡ ReadFault = cc in
    (subst (λ (y : Followed). EndsAtValue y k r out) q h).0

pub no_server_at : {A : Type 0} → (x : Result A Followed) (f : Followed) (k : Known) (r : Received) (out : List ℕ) → EndsAtValue f k r out → x ≡ Err f → x ≡ Err ServerFault → ⊥
no_server_at x f k r out h d e =
    let q : f ≡ ServerFault = cc in
    (subst (λ (y : Followed). EndsAtValue y k r out) q h).0
