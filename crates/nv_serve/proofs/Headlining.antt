-- What the one history shows of each connection of each lane.
use Rattle.std.proofs.Common.{◌≡◌, ◌≢◌, ◌⊎◌, inl, inr, ⊎_elim, ℕ, zero, suc, ◌*◌, ◌<◌, ◌≤◌, nat_lt, Bool, true, false, List, [], ◌∷◌, ◌++◌, length, map, slice_get, slice_index_or, Option, Some, None, IsSome, refl, ap, sym, ◌∙◌, subst, arith}
use Rattle.std.proofs.lemmas.Option.{none-some, same_Some}
use Rattle.std.proofs.lemmas.Bool.Decides.{nat_tests}
use mathlib.Core.List.{IsPrefix}
use mathlib.Core.Logic.{dite}
use native.Mathlib.Decide.{ℕ_discrete}
use Rattle.nv_turn.specs.Story.{Has, HasEachUpTo, entries_by}
use Rattle.nv_turn.specs.Passes.{PassState, TurnId, first_pass}
use Rattle.nv_turn.proofs.Entries.{has_one}
use Rattle.nv_turn.proofs.Prefixes.{prefix_self}
use Rattle.nv_io.specs.Faults.{Rose}
use Rattle.nv_io.specs.Known.{ForEachItem}
use Rattle.nv_io.specs.declared.lanes.Ended.{Ended}
use Rattle.nv_io.specs.declared.lanes.Ended.TheVariants.{Quit}
use Rattle.nv_history.specs.Events.{open_session, request_of, Entry, quit_at}
use Rattle.nv_history.specs.Sessions.{Session}
use Rattle.nv_history.specs.Worlds.{World, session_of}
use Rattle.nv_history.specs.Asking.{opened_in, asked, calls_of}
use Rattle.nv_history.specs.Laws.{HistoriesCount}
use Rattle.nv_core.specs.Contents.{plain_entries}
use Rattle.nv_core.specs.declared.entry.Entry.{Entry as WorldEntry}
use Rattle.nv_core.specs.declared.start.Start.{Start}
use Rattle.nv_core.specs.Starts.{world_of_run}
use Rattle.nv_halves.specs.Passes.{IsClosedBy}
use Rattle.nv_halves.specs.Laws.{own_close, SessionsAskInOrder, QuitsAreEnds}
use Rattle.nv_halves.proofs.Plains.{own_plain, plain_begins}
use Rattle.nv_session.specs.Openings.{opening_entry, IsWhyUnopened}
use Rattle.nv_session.specs.Connections.{ConnectionEnds, Traffic, traffic_of}
use Rattle.nv_serve.specs.Links.{LanesWords, Link, ServesInOrder, IsAtEnd, IsLastEnd, halves_of}
use Rattle.nv_serve.specs.Jobs.{lanes_of}
use Rattle.nv_serve.specs.Headline.{session_in, WasNoSession, WasSession, Headline, HasEnd, IsServed, AreServed, AreServedOrFailed, HasFault, ServerLeaves}
use Rattle.nv_serve.specs.declared.job.Job.{Job}
use Rattle.nv_serve.specs.declared.job.LaneEnd.{LaneEnd}
use Rattle.nv_serve.specs.declared.job.LaneEnd.TheVariants as stop
use Rattle.nv_serve.specs.inside.Sharing.{first_number, second_number, HasLaneCaller, IsLane}
use Rattle.nv_serve.specs.inside.Lanes.{session_of_link, one_of_link, other_of_link, IsLaneOfLinks, MetAsNone, MetAsSession, IsMet, IsLastOf, HasLast, EndsLane, ServesAll}
use Rattle.nv_core.specs.Gains.{caller_of}
use Rattle.nv_serve.specs.inside.Jobs.{PassesOf, AreReady, IsDealt, AreDealt, ServesJob, ServesJobs, HavePasses, StartsAsLane, IsJoined, AreJoined, is_failed, saw_spent, HasNoneEnded, HasOneEnded}
use Rattle.nv_serve.proofs.Members.{In, place, at_place}
use Rattle.nv_serve.proofs.Sharing.{in_own, opened_within, opened_at, apart, owner, takes_are, calls_are}
use Rattle.nv_serve.proofs.Chaining.{own_seen, lane_on}
use Rattle.nv_serve.proofs.Ending.{ended_stays}

-- ---- numbers of passes

-- a lane whose pass has a number
record NumberOf (n c : ℕ) : Type 0 where
  lane : ℕ
  below : lane < n
  number_is : (c ≡ first_number lane) ⊎ (c ≡ second_number lane)

number_of : (n c : ℕ) → ((c ≡ 0) ⊎ (2 * n < c)) ⊎ NumberOf n c
number_of zero c = dite (ℕ_discrete c 0) (λ e. inl (inl e)) (λ ne. inl (inr (omega (arith, ne))))
number_of (suc n) c =
    ⊎_elim
    (λ out. ⊎_elim (λ e. inl (inl e))
    (λ past. dite (ℕ_discrete c (first_number n)) (λ e. inr (record { lane = n; below = omega arith; number_is = inl e }))
    (λ ne. dite (ℕ_discrete c (second_number n)) (λ e. inr (record { lane = n; below = omega arith; number_is = inr e })) (λ other. inl (inr (omega (arith, past, ne, other)))))) out)
    (λ k. let lt = k.below in inr (record { lane = k.lane; below = omega (arith, lt); number_is = k.number_is })) (number_of n c)

-- ---- what a job came to

module _ {C L I S : Type 0} (t : LanesWords L I S) where
  before_is : (turn : TurnId) (start : Option Start) (i : ℕ) (old dealt run : Job C L) → IsDealt turn start i old dealt → (r : ServesJob t dealt run)
      → r.before ≡ (first_pass turn start (first_number i), first_pass turn start (second_number i))
  before_is turn start i old dealt run d r = same_Some r.before (first_pass turn start (first_number i), first_pass turn start (second_number i)) (sym r.had ∙ d.passes_are)

  has_first : (turn : TurnId) (start : Option Start) (i : ℕ) (old dealt run : Job C L) → IsDealt turn start i old dealt → (r : ServesJob t dealt run) → Has (first_number i) r.after.0.numbers
  has_first turn start i old dealt run d r =
      subst (λ (l : List ℕ). Has (first_number i) l) (sym (r.first.numbers ∙ ap (λ (b : PassesOf). b.0.numbers) (before_is turn start i old dealt run d r))) (has_one (first_number i))

  has_second : (turn : TurnId) (start : Option Start) (i : ℕ) (old dealt run : Job C L) → IsDealt turn start i old dealt → (r : ServesJob t dealt run) → Has (second_number i) r.after.1.numbers
  has_second turn start i old dealt run d r =
      subst (λ (l : List ℕ). Has (second_number i) l) (sym (r.second.numbers ∙ ap (λ (b : PassesOf). b.1.numbers) (before_is turn start i old dealt run d r))) (has_one (second_number i))

  -- the lane in what the last pass has seen
  lane_shown : (turn : TurnId) (start : Option Start) (i : ℕ) (old dealt run gone : Job C L) (last : PassState WorldEntry Start) → IsDealt turn start i old dealt → ServesJob t dealt run → IsJoined caller_of run gone last
      → (end : LaneEnd) × (run.end ≡ Some end) × ServesAll t start (first_number i) (second_number i) end old.lane gone.lane (plain_entries last.seen) (plain_entries last.seen)
  lane_shown turn start i old dealt run gone last d r j =
      let covers = j.covers r.after r.has in
      let one = has_first turn start i old dealt run d r in
      let two = has_second turn start i old dealt run d r in
      let numbers = subst (λ (b : PassesOf). ServesAll t b.0.start b.0.number b.1.number r.end dealt.lane run.lane (plain_entries r.after.0.seen) (plain_entries r.after.1.seen)) (before_is turn start i old dealt run d r) r.serves in
      let lanes = subst (λ (l : L). ServesAll t start (first_number i) (second_number i) r.end old.lane l (plain_entries r.after.0.seen) (plain_entries r.after.1.seen)) (sym j.lane_is)
      (subst (λ (l : L). ServesAll t start (first_number i) (second_number i) r.end l run.lane (plain_entries r.after.0.seen) (plain_entries r.after.1.seen)) d.lane_is numbers) in (
        r.end,
        r.end_is,
        lane_on t start (first_number i) (second_number i) r.end old.lane gone.lane (plain_entries r.after.0.seen) (plain_entries last.seen) (plain_entries r.after.1.seen) (plain_entries last.seen)
            (plain_begins r.after.0.seen last.seen covers.one.begins) (plain_begins r.after.1.seen last.seen covers.other.begins)
            (own_seen (first_number i) r.after.0 last (covers.one.own_entries (first_number i) one)) (own_seen (second_number i) r.after.1 last (covers.other.own_entries (second_number i) two)) lanes,
      )

  -- ---- all jobs

  pub all_ready : (turn : TurnId) (start : Option Start) (olds dealt : List (Job C L)) → length dealt ≡ length olds → AreDealt turn start olds dealt → AreReady turn dealt
  all_ready turn start olds dealt len d i e lt = record { start = start; passes_are = (d i e (omega (arith, lt, len))).passes_are }

  pub have_passes : (turn : TurnId) (start : Option Start) (olds dealt run : List (Job C L)) → length dealt ≡ length olds → length run ≡ length dealt → AreDealt turn start olds dealt → ServesJobs t dealt run → HavePasses turn run
  have_passes turn start olds dealt run len run_len d r i e lt =
      let lt_old : i < length olds = omega (arith, lt, len, run_len) in
      let lt_dealt : i < length dealt = omega (arith, lt, run_len) in
      let one = d i e lt_old in
      let served = r i e lt_dealt in
      let before = before_is turn start i (slice_index_or olds i e) (slice_index_or dealt i e) (slice_index_or run i e) one served in record {
        passes = served.after;
        passes_are = served.has;
        first = served.first.turn ∙ ap (λ (b : PassesOf). b.0.turn) before;
        second = served.second.turn ∙ ap (λ (b : PassesOf). b.1.turn) before;
      }

  has_each : (turn : TurnId) (start : Option Start) (olds dealt run lasts : List (Job C L)) (d : Job C L) (last : PassState WorldEntry Start) → length dealt ≡ length olds → length run ≡ length dealt → AreDealt turn start olds dealt
      → ServesJobs t dealt run → AreJoined caller_of run lasts last → HasEachUpTo (2 * length olds) last.numbers
  has_each turn start olds dealt run lasts d last len run_len deals serves joined c pos most =
      ⊎_elim (λ out. absurd (⊎_elim (λ e. omega (arith, e, pos)) (λ past. omega (arith, past, most)) out))
      (λ k. let lt = k.below in
      let lt_dealt : k.lane < length dealt = omega (arith, lt, len) in
      let lt_run : k.lane < length run = omega (arith, lt_dealt, run_len) in
      let one = deals k.lane d k.below in
      let served = serves k.lane d lt_dealt in
      let covers = (joined k.lane d lt_run).covers served.after served.has in
      ⊎_elim (λ e. covers.has c (inl (subst (λ (n : ℕ). Has n served.after.0.numbers) (sym e) (has_first turn start k.lane (slice_index_or olds k.lane d) (slice_index_or dealt k.lane d) (slice_index_or run k.lane d) one served))))
      (λ e. covers.has c (inr (subst (λ (n : ℕ). Has n served.after.1.numbers) (sym e) (has_second turn start k.lane (slice_index_or olds k.lane d) (slice_index_or dealt k.lane d) (slice_index_or run k.lane d) one served)))) k.number_is)
      (number_of (length olds) c)

  pub has_all : (turn : TurnId) (start : Option Start) (olds dealt run lasts : List (Job C L)) (last : PassState WorldEntry Start) → 0 < length olds → length dealt ≡ length olds → length run ≡ length dealt → AreDealt turn start olds dealt
      → ServesJobs t dealt run → AreJoined caller_of run lasts last → HasEachUpTo (2 * length olds) last.numbers
  has_all turn start [] dealt run lasts last some len run_len deals serves joined = absurd (omega arith)
  has_all turn start (d ∷ olds) dealt run lasts last some len run_len deals serves joined = has_each turn start (d ∷ olds) dealt run lasts d last len run_len deals serves joined

-- ---- who called

called_by : (n : ℕ) (last : PassState WorldEntry Start) → ((c : ℕ) → (c ≡ 0) ⊎ (2 * n < c) → entries_by caller_of c last.seen ≡ []) → (e : Entry) → In e (plain_entries last.seen) → HasLaneCaller n e
called_by n last callers e inside =
    ⊎_elim
    (λ out. absurd (subst (λ (l : List Entry). In e l) (own_plain e.caller last.seen ∙ ap plain_entries (callers e.caller out)) (in_own e.caller e (plain_entries last.seen) refl inside)))
    (λ k. record { lane = k.lane; below = k.below; caller_is = k.number_is }) (number_of n e.caller)

-- ---- small things

some_of : {A : Type 0} (o : Option A) → IsSome o → (x : A) × (o ≡ Some x)
some_of None h = absurd (cc (h))
some_of (Some x) h = (x, refl)

some_at : {A : Type 0} (xs : List A) (k : ℕ) → k < length xs → (x : A) × (slice_get xs k ≡ Some x)
some_at [] k lt = absurd (omega arith)
some_at (x ∷ xs) zero lt = (x, refl)
some_at (x ∷ xs) (suc k) lt = some_at xs k (omega arith)

item_at : {A : Type 0} (P : A → Type 0) (front behind : List A) (x : A) → ForEachItem P (front ++ x ∷ behind) → P x
item_at P [] behind x h = h.0
item_at P (y ∷ front) behind x h = item_at P front behind x h.1

-- the lane of a job at a place
lane_at : {C L : Type 0} (jobs : List (Job C L)) (i : ℕ) (d : Job C L) (lane : L) → slice_get (lanes_of jobs) i ≡ Some lane → (i < length jobs) × ((slice_index_or jobs i d).lane ≡ lane)
lane_at [] i d lane h = absurd (none-some lane h)
lane_at (j ∷ jobs) zero d lane h = (omega arith, same_Some j.lane lane h)
lane_at (j ∷ jobs) (suc i) d lane h = let k = lane_at jobs i d lane h in let lt = k.0 in (omega (arith, lt), k.1)

lane_there : {C L : Type 0} (jobs : List (Job C L)) (i : ℕ) (d : Job C L) → i < length jobs → slice_get (lanes_of jobs) i ≡ Some (slice_index_or jobs i d).lane
lane_there [] i d lt = absurd (omega arith)
lane_there (j ∷ jobs) zero d lt = refl
lane_there (j ∷ jobs) (suc i) d lt = lane_there jobs i d (omega arith)

lanes_length : {C L : Type 0} (jobs : List (Job C L)) → length (lanes_of jobs) ≡ length jobs
lanes_length [] = refl
lanes_length (j ∷ jobs) = ap suc (lanes_length jobs)

quit_cause : (start : Option Start) (s : ℕ) (history : List Entry) (world : World) (x : Traffic) (entry : ℕ) → ConnectionEnds (Quit entry) start s history world x → IsClosedBy world s (quit_at entry)
quit_cause start s history world x entry h = h.1.0

asks_of : (start : Start) (history : List Entry) (w : World) (s : ℕ) (x : Session) → SessionsAskInOrder → world_of_run (Some start) history ≡ Some w → session_of w s ≡ Some x
    → map (λ (e : Entry). e.event) (asked s history) ≡ open_session ∷ (map (request_of s) (calls_of s history) ++ own_close s x.closed)
unfolding SessionsAskInOrder
asks_of start history w s x law runs there = law start.outbox start.limits history w s x runs there

ends_of : (start : Start) (history : List Entry) (w : World) (s entry : ℕ) → QuitsAreEnds → world_of_run (Some start) history ≡ Some w → IsClosedBy w s (quit_at entry) → w.ended ≡ Some entry
unfolding QuitsAreEnds
ends_of start history w s entry law runs closed = law start.outbox start.limits history w s entry runs closed

count_of : (start : Start) (history : List Entry) (w : World) → HistoriesCount → world_of_run (Some start) history ≡ Some w → length w.sessions ≡ opened_in 0 history
unfolding HistoriesCount
count_of start history w law runs = (law start.outbox start.limits history w runs).sessions

-- a session that was opened is there
opened_there : (start : Start) (found history : List Entry) (w : World) (n s : ℕ) → HistoriesCount → world_of_run (Some start) history ≡ Some w → IsPrefix (found ++ opening_entry n ∷ []) history → s ≡ suc (opened_in 0 found)
    → (x : Session) × (session_of w s ≡ Some x)
opened_there start found history w n s law runs p is =
    let below = opened_within found history n p in
    let count = count_of start history w law runs in
    let x = some_at w.sessions (opened_in 0 found) (omega (arith, below, count)) in
    (x.0, ap (session_of w) is ∙ x.1)

not_true : true ≡ false → ⊥
not_true e = cc (e)

failed_is : (e : LaneEnd) → is_failed (Some e) ≡ true → e ≡ stop.Failed
failed_is stop.Done h = absurd (cc (h))
failed_is stop.Failed h = refl
failed_is stop.Quit h = absurd (cc (h))
failed_is stop.Spent h = absurd (cc (h))

-- how a lane ended is an end of a lane
at_end_of : {L I S : Type 0} (t : LanesWords L I S) (end : LaneEnd) (old new : L) (links : List (Link I S)) → EndsLane t end old new links → IsAtEnd t old new links
at_end_of t end old new links h = by_end end h
  where
    quits : (how : Ended) → IsLastOf stop.Quit how → IsLastEnd how
    quits how h = subst IsLastEnd (sym h.1) tt

    wants : (how : Ended) → IsLastOf stop.Spent how → IsLastEnd how
    wants how h = subst IsLastEnd (sym h) tt

    by_end : (end : LaneEnd) → EndsLane t end old new links → IsAtEnd t old new links
    by_end stop.Done h = inl h
    by_end stop.Failed h = inr (inl h)
    by_end stop.Quit h = inr (inr (h.0, h.1, h.2, quits h.1.over.how h.3))
    by_end stop.Spent h = inr (inr (h.0, h.1, h.2, wants h.1.over.how h.3))

-- ---- the headline

module _ {C L I S : Type 0} (t : LanesWords L I S) (start : Start) (kept : List Entry) (olds ran lasts : List (Job C L)) (d : Job C L) (len : length lasts ≡ length olds) (ran_len : length ran ≡ length olds)
    (each : (i : ℕ) → i < length olds → (end : LaneEnd) × ((slice_index_or ran i d).end ≡ Some end)
    × ServesAll t (Some start) (first_number i) (second_number i) end (slice_index_or olds i d).lane (slice_index_or lasts i d).lane kept kept)
    (called : (e : Entry) → In e kept → HasLaneCaller (length olds) e) (world : World) (runs : world_of_run (Some start) kept ≡ Some world)
    (asks : SessionsAskInOrder) (quits : QuitsAreEnds) (counts : HistoriesCount) where
  record Shown (i : ℕ) (links : List (Link I S)) : Type 0 where
    order : ServesInOrder t (slice_index_or olds i d).lane (slice_index_or lasts i d).lane links
    later : (t.lane (slice_index_or olds i d).lane).faults ≤ (t.lane (slice_index_or lasts i d).lane).faults
    end : LaneEnd
    end_is : (slice_index_or ran i d).end ≡ Some end
    ends : EndsLane t end (slice_index_or olds i d).lane (slice_index_or lasts i d).lane links
    lane : IsLaneOfLinks (first_number i) (second_number i) kept kept links
    each_met : ForEachItem (IsMet t (Some start) kept kept) links

  record Chosen (i : ℕ) : Type 0 where
    links : List (Link I S)
    shown : i < length olds → Shown i links

  is_below : (i n : ℕ) → nat_lt i n ≡ true → i < n
  is_below i n h = grind (arith, nat_tests)

  not_below : (i n : ℕ) → nat_lt i n ≡ false → i < n → ⊥
  not_below i n h lt = grind (arith, nat_tests)

  choose : (i : ℕ) → Chosen i
  choose i = by_test (nat_lt i (length olds)) refl
    where
      by_test : (b : Bool) → nat_lt i (length olds) ≡ b → Chosen i
      by_test true e =
          let h = each i (is_below i (length olds) e) in record {
            links = h.2.serves.links;
            shown = λ _. record { order = h.2.serves.order; later = h.2.serves.later; end = h.0; end_is = h.1; ends = h.2.ends; lane = h.2.serves.lane; each_met = h.2.serves.each };
          }
      by_test false e = record { links = []; shown = λ lt. absurd (not_below i (length olds) e lt) }

  abbrev links : ℕ → List (Link I S)
  links i = (choose i).links

  shown : (i : ℕ) → i < length olds → Shown i (links i)
  shown i lt = (choose i).shown lt

  lanes : (i : ℕ) → i < length olds → IsLane session_of_link one_of_link other_of_link (first_number i) (second_number i) kept kept (links i)
  lanes i lt = (shown i lt).lane

  no_session : (x : Link I S) → MetAsNone t (Some start) kept x → WasNoSession t start kept x
  no_session x h = record {
    session_is = h.session_is;
    read = h.read;
    sent = h.sent;
    seen = h.seen;
    begins = h.begins;
    why = h.why;
  }

  a_session : (i : ℕ) → i < length olds → (front behind : List (Link I S)) (x : Link I S) → links i ≡ front ++ x ∷ behind → MetAsSession t (Some start) kept kept x → WasSession t start kept world x
  a_session i lt front behind x at h =
      let takes = takes_are session_of_link one_of_link other_of_link (length olds) kept links lanes called i lt front behind x at h.some in
      let calls = calls_are session_of_link one_of_link other_of_link (length olds) kept links lanes called i lt front behind x at h.some in
      let ends = h.ends kept world runs (prefix_self kept) (prefix_self kept) takes calls in
      let opened = opened_at session_of_link one_of_link other_of_link (length olds) kept links lanes called i lt front behind x at (λ idle. h.some idle.session_is) in
      let there = opened_there start opened.found kept world (first_number i) x.over.session counts runs opened.place opened.session_is in record {
        some = h.some;
        session = there.0;
        there = there.1;
        asks = asks_of start kept world x.over.session there.0 asks runs there.1;
        bytes = h.bytes;
        read = h.read;
        ends = ends;
        read_fault = h.read_fault;
        write_fault = h.write_fault;
        quits = λ entry is. ends_of start kept world x.over.session entry quits runs
            (quit_cause (Some start) x.over.session kept world (traffic_of (halves_of t) h.bytes x.over.input x.output x.over.output) entry
            (subst (λ (how : Ended). ConnectionEnds how (Some start) x.over.session kept world (traffic_of (halves_of t) h.bytes x.over.input x.output x.over.output)) is ends));
      }

  each_link : (i k : ℕ) (x : Link I S) → i < length olds → slice_get (links i) k ≡ Some x → WasNoSession t start kept x ⊎ WasSession t start kept world x
  each_link i k x lt h =
      let p = place k x (links i) h in
      let met = item_at (IsMet t (Some start) kept kept) p.front p.behind x (subst (λ (l : List (Link I S)). ForEachItem (IsMet t (Some start) kept kept) l) p.parts (shown i lt).each_met) in
      ⊎_elim (λ none. inl (no_session x none)) (λ some. inr (a_session i lt p.front p.behind x p.parts some)) met

  apart_links : (i j k l : ℕ) (x y : Link I S) → i < length olds → j < length olds → slice_get (links i) k ≡ Some x → slice_get (links j) l ≡ Some y → x.over.session ≢ 0 → y.over.session ≡ x.over.session → (i ≡ j) × (k ≡ l)
  apart_links i j k l x y lt_i lt_j at_x at_y some same =
      let p = place k x (links i) at_x in
      let q = place l y (links j) at_y in
      let r = apart session_of_link one_of_link other_of_link (length olds) kept links lanes called i j lt_i lt_j p.front p.behind q.front q.behind x y p.parts q.parts some same in
      (r.0, sym p.length_is ∙ r.1 ∙ q.length_is)

  owned : (front behind : List Entry) (e : Entry) → kept ≡ front ++ e ∷ behind
      → (i : ℕ) × (k : ℕ) × (x : Link I S) × (i < length olds) × (slice_get (links i) k ≡ Some x) × (x.over.session ≡ session_in (opened_in 0 front) e.event)
  owned front behind e is =
      let o = owner session_of_link one_of_link other_of_link (length olds) kept links lanes called front behind e is in
      (o.lane, length o.front, o.link, o.below, at_place (links o.lane) o.front o.behind o.link o.parts, o.session_is)

  in_lanes : (P : L → L → Type 0) (i : ℕ) (old new : L) → slice_get (lanes_of olds) i ≡ Some old → slice_get (lanes_of lasts) i ≡ Some new → (i < length olds → P (slice_index_or olds i d).lane (slice_index_or lasts i d).lane) → P old new
  in_lanes P i old new at_old at_new h =
      let a = lane_at olds i d old at_old in
      let b = lane_at lasts i d new at_new in
      subst (λ (l : L). P l new) a.1 (subst (λ (l : L). P (slice_index_or olds i d).lane l) b.1 (h a.0))

  pub headline : Headline t start kept (lanes_of olds) (lanes_of lasts)
  headline = record {
    world = world;
    runs = runs;
    links = links;
    lanes = lanes_length lasts ∙ len ∙ sym (lanes_length olds);
    in_order = λ i old new at_old at_new. in_lanes (λ l m. ServesInOrder t l m (links i)) i old new at_old at_new (λ lt. (shown i lt).order);
    at_end = λ i old new at_old at_new. in_lanes (λ l m. IsAtEnd t l m (links i)) i old new at_old at_new (λ lt. let s = shown i lt in at_end_of t s.end (slice_index_or olds i d).lane (slice_index_or lasts i d).lane (links i) s.ends);
    later = λ i old new at_old at_new. in_lanes (λ l m. (t.lane l).faults ≤ (t.lane m).faults) i old new at_old at_new (λ lt. (shown i lt).later);
    each = λ i k x lt h. each_link i k x (fewer i lt) h;
    apart = λ i j k l x y lt_i lt_j at_x at_y some same. apart_links i j k l x y (fewer i lt_i) (fewer j lt_j) at_x at_y some same;
    owned = λ front behind e is. let o = owned front behind e is in (o.0, o.1, o.2, more o.0 o.3, o.4, o.5);
  }
    where
      fewer : (i : ℕ) → i < length (lanes_of olds) → i < length olds
      fewer i lt = subst (λ (n : ℕ). i < n) (lanes_length olds) lt

      more : (i : ℕ) → i < length olds → i < length (lanes_of olds)
      more i lt = subst (λ (n : ℕ). i < n) (sym (lanes_length olds)) lt

  -- the end of the world by which the last connection of a lane ended
  unopened_end : (how : Ended) (entry : ℕ) (seen : List Entry) → how ≡ Quit entry → IsPrefix seen kept → IsWhyUnopened how (Some start) seen → HasEnd t start kept
  unopened_end how entry seen is begins why =
      let w = subst (λ (h : Ended). IsWhyUnopened h (Some start) seen) is why in
      (world, entry, runs, ended_stays (Some start) seen kept w.0 world entry w.1 w.2 begins runs)

  ended_by : (x : Link I S) (entry : ℕ) → x.over.how ≡ Quit entry → WasNoSession t start kept x ⊎ WasSession t start kept world x → HasEnd t start kept
  ended_by x entry is (inl none) = unopened_end x.over.how entry none.seen is none.begins none.why
  ended_by x entry is (inr some) = (world, entry, runs, some.quits entry is)

  has_end : (i : ℕ) → i < length olds → HasLast t stop.Quit (links i) → HasEnd t start kept
  has_end i lt h = ended_by h.1 h.3.0 h.3.1 (each_link i (length h.0) h.1 lt (at_place (links i) h.0 [] h.1 h.2))

  -- how a lane ended, unless for want of memory
  lane_over : (i : ℕ) → i < length olds → (end : LaneEnd) → EndsLane t end (slice_index_or olds i d).lane (slice_index_or lasts i d).lane (links i) → (end ≡ stop.Spent → ⊥)
      → ((end ≡ stop.Failed) × Rose ((t.lane (slice_index_or olds i d).lane).faults) ((t.lane (slice_index_or lasts i d).lane).faults)) ⊎ IsServed t start kept (slice_index_or lasts i d).lane
  lane_over i lt stop.Done h other = inr (inl h)
  lane_over i lt stop.Failed h other = inl (refl, h)
  lane_over i lt stop.Quit h other = inr (inr (has_end i lt h))
  lane_over i lt stop.Spent h other = absurd (other refl)

  -- a lane that didn't end so
  not_ended : (so : Option LaneEnd → Bool) (other : LaneEnd) (i : ℕ) → so (Some other) ≡ true → HasNoneEnded so ran → i < length olds → (s : Shown i (links i)) → s.end ≡ other → ⊥
  not_ended so other i so_is none lt s is =
      not_true (sym so_is ∙ sym (ap (λ (e : LaneEnd). so (Some e)) is) ∙ sym (ap so s.end_is) ∙ none i d (omega (arith, lt, ran_len)))

  pub are_over : HasNoneEnded saw_spent ran → AreServedOrFailed t start kept (lanes_of olds) (lanes_of lasts)
  are_over none i old new at_old at_new =
      in_lanes (λ l m. Rose (t.lane l).faults (t.lane m).faults ⊎ IsServed t start kept m) i old new at_old at_new (λ lt. let s = shown i lt in ⊎_elim (λ f. inl f.1) (λ h. inr h) (lane_over i lt s.end s.ends (not_ended saw_spent stop.Spent i refl none lt s)))

  pub are_served : HasNoneEnded saw_spent ran → HasNoneEnded is_failed ran → AreServed t start kept (lanes_of lasts)
  are_served none well i new at_new =
      let b = lane_at lasts i d new at_new in
      let lt : i < length olds = (let below = b.0 in omega (arith, below, len)) in
      let s = shown i lt in
      subst (IsServed t start kept) b.1 (⊎_elim (λ f. absurd (not_ended is_failed stop.Failed i refl well lt s f.0)) (λ h. h) (lane_over i lt s.end s.ends (not_ended saw_spent stop.Spent i refl none lt s)))

  pub has_fault : HasOneEnded is_failed ran → HasFault t start kept (lanes_of olds) (lanes_of lasts)
  has_fault some =
      let i = some.0 in
      let below = some.1 in
      let lt : i < length olds = omega (arith, below, ran_len) in
      let s = shown i lt in
      let is : s.end ≡ stop.Failed = failed_is s.end (sym (ap is_failed s.end_is) ∙ some.2 d) in (
        i,
        (slice_index_or olds i d).lane,
        (slice_index_or lasts i d).lane,
        lane_there olds i d lt,
        lane_there lasts i d (omega (arith, lt, len)),
        subst (λ (e : LaneEnd). EndsLane t e (slice_index_or olds i d).lane (slice_index_or lasts i d).lane (links i)) is s.ends,
      )

-- ---- and all together

runs_as : (begun start : Start) (seen : List WorldEntry) → IsSome (world_of_run (Some begun) (plain_entries seen)) → begun ≡ start → (w : World) × (world_of_run (Some start) (plain_entries seen) ≡ Some w)
runs_as begun start seen some is =
    let w = some_of (world_of_run (Some begun) (plain_entries seen)) some in
    (w.0, ap (λ (s : Start). world_of_run (Some s) (plain_entries seen)) (sym is) ∙ w.1)

module _ {C L I S : Type 0} (t : LanesWords L I S) where
  shows_with : (turn : TurnId) (start : Start) (olds dealt run lasts : List (Job C L)) (d : Job C L) (last : PassState WorldEntry Start) (begun : Start) (spent failed : Bool) → 0 < length olds → length dealt ≡ length olds
      → length run ≡ length dealt → length lasts ≡ length run → AreDealt turn (Some start) olds dealt → ServesJobs t dealt run → AreJoined caller_of run lasts last → ((e : Job C L) → StartsAsLane (slice_index_or run 0 e) last)
      → ((c : ℕ) → (c ≡ 0) ⊎ (2 * length olds < c) → entries_by caller_of c last.seen ≡ []) → last.start ≡ Some begun → IsSome (world_of_run (Some begun) (plain_entries last.seen))
      → SessionsAskInOrder → QuitsAreEnds → HistoriesCount → (spent ≡ false → HasNoneEnded saw_spent run) → (failed ≡ false → HasNoneEnded is_failed run) → (failed ≡ true → HasOneEnded is_failed run)
      → (begun ≡ start) × ServerLeaves t start (plain_entries last.seen) spent failed (lanes_of olds) (lanes_of lasts)
  shows_with turn start olds dealt run lasts d last begun spent failed some len run_len last_len deals serves joined begins callers starts model asks quits counts no_spent no_failed has_failed =
      let first_dealt = deals 0 d some in
      let first_served = serves 0 d (omega (arith, some, len)) in
      let first_start = begins d first_served.after first_served.has ∙ first_served.first.start
      ∙ ap (λ (b : PassesOf). b.0.start) (before_is t turn (Some start) 0 (slice_index_or olds 0 d) (slice_index_or dealt 0 d) (slice_index_or run 0 d) first_dealt first_served) in
      let start_is : begun ≡ start = same_Some begun start (sym starts ∙ first_start) in
      let w = runs_as begun start last.seen model start_is in
      let all = last_len ∙ run_len ∙ len in
      let ran = run_len ∙ len in
      let each = λ (i : ℕ) (lt : i < length olds). lane_shown t turn (Some start) i (slice_index_or olds i d) (slice_index_or dealt i d) (slice_index_or run i d) (slice_index_or lasts i d) last
      (deals i d lt) (serves i d (omega (arith, lt, len))) (joined i d (omega (arith, lt, len, run_len))) in
      let called = called_by (length olds) last callers in (
        start_is,
        record {
          served = headline t start (plain_entries last.seen) olds run lasts d all ran each called w.0 w.1 asks quits counts;
          over = λ e. are_over t start (plain_entries last.seen) olds run lasts d all ran each called w.0 w.1 asks quits counts (no_spent e);
          well = λ e f. are_served t start (plain_entries last.seen) olds run lasts d all ran each called w.0 w.1 asks quits counts (no_spent e) (no_failed f);
          fault = λ f. has_fault t start (plain_entries last.seen) olds run lasts d all ran each called w.0 w.1 asks quits counts (has_failed f);
        },
      )

  pub shows : (turn : TurnId) (start : Start) (olds dealt run lasts : List (Job C L)) (last : PassState WorldEntry Start) (begun : Start) (spent failed : Bool) → 0 < length olds → length dealt ≡ length olds
      → length run ≡ length dealt → length lasts ≡ length run → AreDealt turn (Some start) olds dealt → ServesJobs t dealt run → AreJoined caller_of run lasts last → ((e : Job C L) → StartsAsLane (slice_index_or run 0 e) last)
      → ((c : ℕ) → (c ≡ 0) ⊎ (2 * length olds < c) → entries_by caller_of c last.seen ≡ []) → last.start ≡ Some begun → IsSome (world_of_run (Some begun) (plain_entries last.seen))
      → SessionsAskInOrder → QuitsAreEnds → HistoriesCount → (spent ≡ false → HasNoneEnded saw_spent run) → (failed ≡ false → HasNoneEnded is_failed run) → (failed ≡ true → HasOneEnded is_failed run)
      → (begun ≡ start) × ServerLeaves t start (plain_entries last.seen) spent failed (lanes_of olds) (lanes_of lasts)
  shows turn start [] dealt run lasts last begun spent failed some = absurd (omega arith)
  shows turn start (d ∷ olds) dealt run lasts last begun spent failed some = shows_with turn start (d ∷ olds) dealt run lasts d last begun spent failed some
