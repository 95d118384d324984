-- What a session asks, in order: its opening, its calls, and then its close.
use Rattle.std.proofs.Common.{◌≡◌, ◌≢◌, ℕ, zero, suc, ◌+◌, ◌<◌, ◌≤◌, List, [], ◌∷◌, ◌++◌, length, map, refl, ap, sym, ◌∙◌, subst, arith, append-nil, slice_get, Bool, true, false, Option, Some, None, ne_eqb}
use Rattle.std.specs.Prelude.{option_and_then, ◌==◌}
use Rattle.std.proofs.lemmas.Option.{none-some, same_Some, slice_get_within, slice_get_past}
use Rattle.std.proofs.lemmas.Bool.Decides.{nat_tests}
use Rattle.nv_rpc.specs.Calls.{Call}
use Rattle.nv_model.specs.declared.parts.Limits.{Limits}
use Rattle.nv_history.specs.Events.{Event, open_session, request_of, take_of, close_of, Entry, Cause, closed_at, overflowed_at, quit_at}
use Rattle.nv_history.specs.Sessions.{Session, fresh_session, session_quit_if}
use Rattle.nv_history.specs.Worlds.{World, fresh_world, session_of, step, world_made}
use Rattle.nv_history.specs.Runs.{run_from, run}
use Rattle.nv_history.specs.Asking.{is_asked_by, count_opened, opened_in, entry_if, asked_from, call_if, calls_in, calls_of}
use Rattle.nv_history.specs.Laws.{HistoriesCount}
use Rattle.nv_history.proofs.Places.{get_push}
use Rattle.nv_history.proofs.Counting.{histories_count}
use Rattle.nv_history.proofs.GoingRuns.{run-append}
use Rattle.nv_history.proofs.Makings.{Makes, step_makes}
use Rattle.nv_halves.specs.Passes.{IsClosedBy}
use Rattle.nv_halves.specs.Laws.{own_close, SessionsAskInOrder}
use Rattle.nv_halves.proofs.Staying.{closed_stays}
use Rattle.nv_halves.proofs.Closings.{made_next, at_last, entry_place, PlaceAfter, place_after, own_closes}

-- how many sessions a history has opened
counted : (capacity : ℕ) (limits : Limits) (front : List Entry) (w : World) → run capacity limits front ≡ Some w → length w.sessions ≡ opened_in 0 front
unfolding HistoriesCount
counted capacity limits front w runs = (histories_count capacity limits front w runs).sessions

opened-push : (before : ℕ) (front : List Entry) (e : Entry) → opened_in before (front ++ e ∷ []) ≡ count_opened (opened_in before front) e.event
opened-push before [] e = refl
opened-push before (x ∷ front) e = opened-push (count_opened before x.event) front e

one_run : (w u : World) (e : Entry) → world_made (step w e.event) ≡ Some u → run_from w (e ∷ []) ≡ Some u
one_run w u e made = ap (λ (o : Option World). option_and_then (λ v. run_from v []) o) made

next_front : (capacity : ℕ) (limits : Limits) (front : List Entry) (w u : World) (e : Entry) → run capacity limits front ≡ Some w → world_made (step w e.event) ≡ Some u → run capacity limits (front ++ e ∷ []) ≡ Some u
next_front capacity limits front w u e runs made =
    run-append (fresh_world capacity limits) front (e ∷ []) ∙ ap (λ (o : Option World). option_and_then (λ v. run_from v (e ∷ [])) o) runs ∙ one_run w u e made

events_of_entries : List Entry → List Event
events_of_entries es = map (λ (e : Entry). e.event) es

-- an entry that isn't asked by the session
unasked : (p before : ℕ) (e : Entry) (es : List Entry) → is_asked_by (suc p) before e.event ≡ false → asked_from (suc p) before (e ∷ es) ≡ asked_from (suc p) (count_opened before e.event) es
unasked p before e es h = ap (λ (b : Bool). entry_if b e (asked_from (suc p) (count_opened before e.event) es)) h

-- ---- a session that is closed asks nothing more

record AsksNone (p before : ℕ) (event : Event) : Type 0 where
  none : is_asked_by (suc p) before event ≡ false
  no_call : calls_in (suc p) event ≡ []

-- one of another session, or of one that isn't live
other_asks : (b : Bool) (p before t : ℕ) (call : Call) → (t == suc p) ≡ b → b ≡ false → AsksNone p before (request_of t call)
other_asks true p before t call is e = cc
other_asks false p before t call is e = record { none = is; no_call = ap (λ (b : Bool). call_if b call) is }

is_number : (t p : ℕ) → (t == suc p) ≡ true → t ≡ suc p
is_number t p h = grind (arith, nat_tests)

-- the session that is found by a number
found_by : (w : World) (t p : ℕ) (x y : Session) → t ≡ suc p → session_of w t ≡ Some y → slice_get w.sessions p ≡ Some x → y ≡ x
found_by w t p x y same there e = same_Some y x (sym there ∙ ap (session_of w) same ∙ e)

not_live : (x y : Session) (c : Cause) → y ≡ x → y.closed ≡ None → x.closed ≡ Some c → ⊥
not_live x y c same live closed = none-some c (sym live ∙ ap (λ (z : Session). z.closed) same ∙ closed)

closed_asks : (w u : World) (p before : ℕ) (x : Session) (c : Cause) (event : Event) → before ≡ length w.sessions → slice_get w.sessions p ≡ Some x → x.closed ≡ Some c → Makes w event u → AsksNone p before event
closed_asks w u p before x c open_session count there closed made =
    let few : p < length w.sessions = slice_get_within w.sessions p x there in
    record { none = ne_eqb (before + 1) (suc p) (λ e. omega arith); no_call = refl }
closed_asks w u p before x c (request_of t call) count there closed made = by_number (t == suc p) refl
  where
    by_number : (b : Bool) → (t == suc p) ≡ b → AsksNone p before (request_of t call)
    by_number true is = absurd (not_live x made.session c (found_by w t p x made.session (is_number t p is) made.there there) made.live closed)
    by_number false is = record { none = is; no_call = ap (λ (b : Bool). call_if b call) is }
closed_asks w u p before x c (take_of t) count there closed made = record { none = refl; no_call = refl }
closed_asks w u p before x c (close_of t) count there closed made = by_number (t == suc p) refl
  where
    by_number : (b : Bool) → (t == suc p) ≡ b → AsksNone p before (close_of t)
    by_number true is = absurd (not_live x made.session c (found_by w t p x made.session (is_number t p is) made.there there) made.live closed)
    by_number false is = record { none = is; no_call = refl }

record AsksNothing (p before : ℕ) (es : List Entry) : Type 0 where
  none : asked_from (suc p) before es ≡ []
  no_calls : calls_of (suc p) es ≡ []

none_past : (xs : List Session) (i : ℕ) → slice_get xs i ≡ None → length xs ≤ i
none_past [] i e = omega arith
none_past (x ∷ xs) zero e = absurd (none-some x (sym e))
none_past (x ∷ xs) (suc i) e = let h : length xs ≤ i = none_past xs i e in omega arith

push_last : (xs : List Session) (x : Session) → slice_get (xs ++ x ∷ []) (length xs) ≡ Some x
push_last [] x = refl
push_last (y ∷ xs) x = push_last xs x

module _ (capacity : ℕ) (limits : Limits) (p : ℕ) where
  closed_rest : (es front : List Entry) (w v : World) (x : Session) (c : Cause) → run capacity limits front ≡ Some w → slice_get w.sessions p ≡ Some x → x.closed ≡ Some c → run_from w es ≡ Some v
      → AsksNothing p (opened_in 0 front) es
  closed_rest [] front w v x c runs there closed e = record { none = refl; no_calls = refl }
  closed_rest (y ∷ es) front w v x c runs there closed e =
      let n = made_next (world_made (step w y.event)) es v e in
      let asks = closed_asks w n.0 p (opened_in 0 front) x c y.event (sym (counted capacity limits front w runs)) there closed (step_makes w n.0 y.event n.1) in
      let stays = closed_stays w n.0 (suc p) c (y ∷ []) (one_run w n.0 y n.1) (x, there, closed) in
      let rest = closed_rest es (front ++ y ∷ []) n.0 v stays.0 c (next_front capacity limits front w n.0 y runs n.1) stays.1 stays.2 n.2 in
      record {
        none = unasked p (opened_in 0 front) y es asks.none ∙ ap (λ (k : ℕ). asked_from (suc p) k es) (sym (opened-push 0 front y)) ∙ rest.none;
        no_calls = ap (λ (l : List Call). l ++ calls_of (suc p) es) asks.no_call ∙ rest.no_calls;
      }

  -- ---- a session that is live

  -- the events that a session asks, by its calls and what closed it
  abbrev pub asks_then_closes : List Call → Option Cause → List Event
  asks_then_closes calls cause = map (request_of (suc p)) calls ++ own_close (suc p) cause

  other_close : (c : Cause) (event : Event) → ((entry : ℕ) → c ≡ closed_at entry → event ≡ close_of (suc p)) → (event ≡ close_of (suc p) → ⊥) → own_close (suc p) (Some c) ≡ []
  other_close (closed_at entry) event h other = absurd (other (h entry refl))
  other_close (overflowed_at entry) event h other = refl
  other_close (quit_at entry) event h other = refl

  live_rest : (es front : List Entry) (w v : World) (x y : Session) → run capacity limits front ≡ Some w → slice_get w.sessions p ≡ Some x → x.closed ≡ None → run_from w es ≡ Some v
      → slice_get v.sessions p ≡ Some y → map (λ (e : Entry). e.event) (asked_from (suc p) (opened_in 0 front) es) ≡ asks_then_closes (calls_of (suc p) es) y.closed
  live_rest [] front w v x y runs there live e last =
      let same : x ≡ y = same_Some x y (sym there ∙ ap (λ (o : World). slice_get o.sessions p) (same_Some w v e) ∙ last) in
      sym (ap (own_close (suc p)) (ap (λ (z : Session). z.closed) (sym same) ∙ live))
  live_rest (z ∷ es) front w v x y runs there live e last =
      let n = made_next (world_made (step w z.event)) es v e in
      let made = step_makes w n.0 z.event n.1 in
      let after = place_after w n.0 z.event p x there made in
      by_cause n.0 n.1 n.2 made after after.later.closed refl
      (λ k. ap (λ (j : ℕ). map (λ (f : Entry). f.event) (asked_from (suc p) j es)) (sym (opened-push 0 front z))
      ∙ live_rest es (front ++ z ∷ []) n.0 v after.later y (next_front capacity limits front w n.0 z runs n.1) after.there k n.2 last)
    where
      before : ℕ
      before = opened_in 0 front

      rest_of : Event → List Event
      rest_of event = map (λ (f : Entry). f.event) (asked_from (suc p) (count_opened (opened_in 0 front) event) es)

      -- the entry comes first, or isn't the session's
      first : (event : Event) (n : ℕ) → Bool → List Event
      first event n b = map (λ (f : Entry). f.event) (entry_if b (record { caller = n; event = event }) (asked_from (suc p) (count_opened (opened_in 0 front) event) es))

      none_left : (u : World) → world_made (step w z.event) ≡ Some u → run_from u es ≡ Some v → (k : Session) (c : Cause) → slice_get u.sessions p ≡ Some k → k.closed ≡ Some c → AsksNothing p (count_opened (opened_in 0 front) z.event) es
      none_left u made more k c at closed =
          subst (λ (j : ℕ). AsksNothing p j es) (opened-push 0 front z)
          (closed_rest es (front ++ z ∷ []) u v k c (next_front capacity limits front w u z runs made) at closed more)

      stays_closed : (u : World) → run_from u es ≡ Some v → (k : Session) (c : Cause) → slice_get u.sessions p ≡ Some k → k.closed ≡ Some c → y.closed ≡ Some c
      stays_closed u more k c at closed =
          let s = closed_stays u v (suc p) c es more (k, at, closed) in ap (λ (o : Session). o.closed) (same_Some y s.0 (sym last ∙ s.1)) ∙ s.2

      -- the session goes on
      goes : (event : Event) (n : ℕ) (u : World) → Makes w event u → (after : PlaceAfter event p x u) → after.later.closed ≡ None
          → map (λ (f : Entry). f.event) (asked_from (suc p) (count_opened (opened_in 0 front) event) es) ≡ asks_then_closes (calls_of (suc p) es) y.closed
          → map (λ (f : Entry). f.event) (asked_from (suc p) (opened_in 0 front) (record { caller = n; event = event } ∷ es)) ≡ asks_then_closes (calls_in (suc p) event ++ calls_of (suc p) es) y.closed
      goes open_session n u made after k rest =
          let few : p < length w.sessions = slice_get_within w.sessions p x there in
          let count : length w.sessions ≡ opened_in 0 front = counted capacity limits front w runs in
          let apart : (opened_in 0 front + 1 == suc p) ≡ false = ne_eqb (opened_in 0 front + 1) (suc p) (λ e. omega arith) in
          ap (λ (b : Bool). map (λ (f : Entry). f.event) (entry_if b (record { caller = n; event = open_session }) (asked_from (suc p) (opened_in 0 front + 1) es))) apart ∙ rest
      goes (request_of t call) n u made after k rest = by_number (t == suc p) refl
        where
          by_number : (b : Bool) → (t == suc p) ≡ b
              → map (λ (f : Entry). f.event) (entry_if b (record { caller = n; event = request_of t call }) (asked_from (suc p) (opened_in 0 front) es))
              ≡ asks_then_closes (call_if b call ++ calls_of (suc p) es) y.closed
          by_number true is = ap (λ (j : ℕ). request_of j call ∷ map (λ (f : Entry). f.event) (asked_from (suc p) (opened_in 0 front) es)) (is_number t p is) ∙ ap (λ (l : List Event). request_of (suc p) call ∷ l) rest
          by_number false is = rest
      goes (take_of t) n u made after k rest = rest
      goes (close_of t) n u made after k rest = by_number (t == suc p) refl
        where
          by_number : (b : Bool) → (t == suc p) ≡ b
              → map (λ (f : Entry). f.event) (entry_if b (record { caller = n; event = close_of t }) (asked_from (suc p) (opened_in 0 front) es)) ≡ asks_then_closes (calls_of (suc p) es) y.closed
          by_number true is =
              absurd (none-some (closed_at w.entries) (sym k ∙ own_closes w u p (subst (λ (j : ℕ). Makes w (close_of j) u) (is_number t p is) made) after.later after.there))
          by_number false is = rest

      -- the session is closed by this entry
      stops : (event : Event) (n : ℕ) (u : World) → Makes w event u → (after : PlaceAfter event p x u) (c : Cause) → after.later.closed ≡ Some c → AsksNothing p (count_opened (opened_in 0 front) event) es
          → y.closed ≡ Some c
          → map (λ (f : Entry). f.event) (asked_from (suc p) (opened_in 0 front) (record { caller = n; event = event } ∷ es)) ≡ asks_then_closes (calls_in (suc p) event ++ calls_of (suc p) es) y.closed
      stops event n u made after c k nothing closed =
          by_event event made after k nothing
        where
          last_close : (event : Event) → (after : PlaceAfter event p x u) → after.later.closed ≡ Some c → (event ≡ close_of (suc p) → ⊥) → own_close (suc p) y.closed ≡ []
          last_close event after k other =
              ap (own_close (suc p)) closed ∙ other_close c event (λ entry is. after.own entry live (k ∙ ap (λ (d : Cause). Some d) is)) other

          none_asked : (before : ℕ) → AsksNothing p before es → map (λ (f : Entry). f.event) (asked_from (suc p) before es) ≡ []
          none_asked before h = ap (λ (l : List Entry). map (λ (f : Entry). f.event) l) h.none

          only_close : (before : ℕ) → AsksNothing p before es → asks_then_closes (calls_of (suc p) es) y.closed ≡ own_close (suc p) y.closed
          only_close before h = ap (λ (l : List Call). asks_then_closes l y.closed) h.no_calls

          by_event : (event : Event) → Makes w event u → (after : PlaceAfter event p x u) → after.later.closed ≡ Some c → AsksNothing p (count_opened (opened_in 0 front) event) es
              → map (λ (f : Entry). f.event) (asked_from (suc p) (opened_in 0 front) (record { caller = n; event = event } ∷ es)) ≡ asks_then_closes (calls_in (suc p) event ++ calls_of (suc p) es) y.closed
          by_event open_session made after k nothing =
              let few : p < length w.sessions = slice_get_within w.sessions p x there in
              let count : length w.sessions ≡ opened_in 0 front = counted capacity limits front w runs in
              let apart : (opened_in 0 front + 1 == suc p) ≡ false = ne_eqb (opened_in 0 front + 1) (suc p) (λ e. omega arith) in
              ap (λ (b : Bool). map (λ (f : Entry). f.event) (entry_if b (record { caller = n; event = open_session }) (asked_from (suc p) (opened_in 0 front + 1) es))) apart
              ∙ none_asked (opened_in 0 front + 1) nothing ∙ sym (only_close (opened_in 0 front + 1) nothing ∙ last_close open_session after k (λ e. cc))
          by_event (take_of t) made after k nothing =
              none_asked (opened_in 0 front) nothing ∙ sym (only_close (opened_in 0 front) nothing ∙ last_close (take_of t) after k (λ e. cc))
          by_event (request_of t call) made after k nothing = by_number (t == suc p) refl
            where
              by_number : (b : Bool) → (t == suc p) ≡ b
                  → map (λ (f : Entry). f.event) (entry_if b (record { caller = n; event = request_of t call }) (asked_from (suc p) (opened_in 0 front) es))
                  ≡ asks_then_closes (call_if b call ++ calls_of (suc p) es) y.closed
              by_number true is =
                  ap (λ (j : ℕ). request_of j call ∷ map (λ (f : Entry). f.event) (asked_from (suc p) (opened_in 0 front) es)) (is_number t p is)
                  ∙ ap (λ (l : List Event). request_of (suc p) call ∷ l)
                  (none_asked (opened_in 0 front) nothing ∙ sym (only_close (opened_in 0 front) nothing ∙ last_close (request_of t call) after k (λ e. cc)))
              by_number false is = none_asked (opened_in 0 front) nothing ∙ sym (only_close (opened_in 0 front) nothing ∙ last_close (request_of t call) after k (λ e. cc))
          by_event (close_of t) made after k nothing = by_number (t == suc p) refl
            where
              by_number : (b : Bool) → (t == suc p) ≡ b
                  → map (λ (f : Entry). f.event) (entry_if b (record { caller = n; event = close_of t }) (asked_from (suc p) (opened_in 0 front) es)) ≡ asks_then_closes (calls_of (suc p) es) y.closed
              by_number true is =
                  let own = own_closes w u p (subst (λ (j : ℕ). Makes w (close_of j) u) (is_number t p is) made) after.later after.there in
                  let cause : y.closed ≡ Some (closed_at w.entries) = closed ∙ sym k ∙ own in
                  ap (λ (j : ℕ). close_of j ∷ map (λ (f : Entry). f.event) (asked_from (suc p) (opened_in 0 front) es)) (is_number t p is)
                  ∙ ap (λ (l : List Event). close_of (suc p) ∷ l) (none_asked (opened_in 0 front) nothing)
                  ∙ sym (only_close (opened_in 0 front) nothing ∙ ap (own_close (suc p)) cause)
              by_number false is =
                  let apart : close_of t ≡ close_of (suc p) → ⊥ = λ (e : close_of t ≡ close_of (suc p)). let same : t ≡ suc p = cc (e) in grind (arith, nat_tests) in
                  none_asked (opened_in 0 front) nothing ∙ sym (only_close (opened_in 0 front) nothing ∙ last_close (close_of t) after k apart)

      by_cause : (u : World) → world_made (step w z.event) ≡ Some u → run_from u es ≡ Some v → Makes w z.event u → (after : PlaceAfter z.event p x u) → (c : Option Cause) → after.later.closed ≡ c
          → (after.later.closed ≡ None → map (λ (f : Entry). f.event) (asked_from (suc p) (count_opened (opened_in 0 front) z.event) es) ≡ asks_then_closes (calls_of (suc p) es) y.closed)
          → map (λ (f : Entry). f.event) (asked_from (suc p) (opened_in 0 front) (z ∷ es)) ≡ asks_then_closes (calls_of (suc p) (z ∷ es)) y.closed
      by_cause u enters more made after None is rest = goes z.event z.caller u made after is (rest is)
      by_cause u enters more made after (Some c) is rest =
          stops z.event z.caller u made after c is (none_left u enters more after.later c after.there is) (stays_closed u more after.later c after.there is)

  -- ---- a session that isn't there yet

  absent_asks : (w u : World) (before : ℕ) (t : ℕ) → slice_get w.sessions p ≡ None → (x : Session) → session_of w t ≡ Some x → (t == suc p) ≡ false
  absent_asks w u before t none x there = by_number (t == suc p) refl
    where
      by_number : (b : Bool) → (t == suc p) ≡ b → (t == suc p) ≡ false
      by_number true is = absurd (none-some x (sym none ∙ ap (session_of w) (sym (is_number t p is)) ∙ there))
      by_number false is = is

  -- the first entries of a session that was opened just now
  opened_rest : (es front : List Entry) (u v : World) (y : Session) (at : ℕ) (b : Bool) → run capacity limits front ≡ Some u → slice_get u.sessions p ≡ Some (session_quit_if b at fresh_session)
      → run_from u es ≡ Some v → slice_get v.sessions p ≡ Some y → map (λ (e : Entry). e.event) (asked_from (suc p) (opened_in 0 front) es) ≡ asks_then_closes (calls_of (suc p) es) y.closed
  opened_rest es front u v y at false runs there more last = live_rest es front u v fresh_session y runs there refl more last
  opened_rest es front u v y at true runs there more last =
      let nothing = closed_rest es front u v (session_quit_if true at fresh_session) (quit_at at) runs there refl more in
      let stays = closed_stays u v (suc p) (quit_at at) es more (session_quit_if true at fresh_session, there, refl) in
      let closed : y.closed ≡ Some (quit_at at) = ap (λ (o : Session). o.closed) (same_Some y stays.0 (sym last ∙ stays.1)) ∙ stays.2 in
      ap (λ (l : List Entry). map (λ (f : Entry). f.event) l) nothing.none
      ∙ sym (ap (λ (l : List Call). asks_then_closes l y.closed) nothing.no_calls ∙ ap (own_close (suc p)) closed)

  absent_rest : (es front : List Entry) (w v : World) (y : Session) → run capacity limits front ≡ Some w → slice_get w.sessions p ≡ None → run_from w es ≡ Some v → slice_get v.sessions p ≡ Some y
      → map (λ (e : Entry). e.event) (asked_from (suc p) (opened_in 0 front) es) ≡ open_session ∷ asks_then_closes (calls_of (suc p) es) y.closed
  absent_rest [] front w v y runs none e last = absurd (none-some y (sym none ∙ ap (λ (o : World). slice_get o.sessions p) (same_Some w v e) ∙ last))
  absent_rest (z ∷ es) front w v y runs none e last =
      let n = made_next (world_made (step w z.event)) es v e in
      by_event n.0 z.event z.caller (step_makes w n.0 z.event n.1)
      (counted capacity limits (front ++ z ∷ []) n.0 (next_front capacity limits front w n.0 z runs n.1) ∙ opened-push 0 front z)
      (λ there. ap (λ (j : ℕ). map (λ (f : Entry). f.event) (asked_from (suc p) j es)) (sym (opened-push 0 front z))
      ∙ absent_rest es (front ++ z ∷ []) n.0 v y (next_front capacity limits front w n.0 z runs n.1) there n.2 last)
      (λ at b there. ap (λ (j : ℕ). map (λ (f : Entry). f.event) (asked_from (suc p) j es)) (sym (opened-push 0 front z))
      ∙ opened_rest es (front ++ z ∷ []) n.0 v y at b (next_front capacity limits front w n.0 z runs n.1) there n.2 last)
    where
      few : length w.sessions ≤ p
      few = none_past w.sessions p none

      count : length w.sessions ≡ opened_in 0 front
      count = counted capacity limits front w runs

      by_event : (u : World) (event : Event) (n : ℕ) → Makes w event u → length u.sessions ≡ count_opened (opened_in 0 front) event
          → (slice_get u.sessions p ≡ None → map (λ (f : Entry). f.event) (asked_from (suc p) (count_opened (opened_in 0 front) event) es) ≡ open_session ∷ asks_then_closes (calls_of (suc p) es) y.closed)
          → ((at : ℕ) (b : Bool) → slice_get u.sessions p ≡ Some (session_quit_if b at fresh_session)
          → map (λ (f : Entry). f.event) (asked_from (suc p) (count_opened (opened_in 0 front) event) es) ≡ asks_then_closes (calls_of (suc p) es) y.closed)
          → map (λ (f : Entry). f.event) (asked_from (suc p) (opened_in 0 front) (record { caller = n; event = event } ∷ es))
          ≡ open_session ∷ asks_then_closes (calls_in (suc p) event ++ calls_of (suc p) es) y.closed
      by_event u open_session n made later absent opened = by_number (opened_in 0 front + 1 == suc p) refl
        where
          by_number : (b : Bool) → (opened_in 0 front + 1 == suc p) ≡ b
              → map (λ (f : Entry). f.event) (entry_if b (record { caller = n; event = open_session }) (asked_from (suc p) (opened_in 0 front + 1) es))
              ≡ open_session ∷ asks_then_closes (calls_of (suc p) es) y.closed
          by_number true is =
              let here : length w.sessions ≡ p = grind (arith, nat_tests, count) in
              let pushed : slice_get (w.sessions ++ fresh_session ∷ []) p ≡ Some fresh_session = ap (slice_get (w.sessions ++ fresh_session ∷ [])) (sym here) ∙ push_last w.sessions fresh_session in
              ap (λ (l : List Event). open_session ∷ l)
              (opened w.entries (w.entries + 1 == w.limits.entries) (entry_place (record w { sessions = w.sessions ++ fresh_session ∷ [] }) u p fresh_session pushed made))
          by_number false is =
              let apart : opened_in 0 front + 1 ≢ suc p = λ (f : opened_in 0 front + 1 ≡ suc p). grind (arith, nat_tests) in
              absent (slice_get_past u.sessions p (omega (arith, few, count, later, apart)))
      by_event u (request_of t call) n made later absent opened =
          let other = absent_asks w u 0 t none made.session made.there in
          ap (λ (b : Bool). map (λ (f : Entry). f.event) (entry_if b (record { caller = n; event = request_of t call }) (asked_from (suc p) (opened_in 0 front) es))) other
          ∙ absent (slice_get_past u.sessions p (omega (arith, few, count, later)))
          ∙ ap (λ (b : Bool). open_session ∷ asks_then_closes (call_if b call ++ calls_of (suc p) es) y.closed) (sym other)
      by_event u (take_of t) n made later absent opened = absent (slice_get_past u.sessions p (omega (arith, few, count, later)))
      by_event u (close_of t) n made later absent opened =
          let other = absent_asks w u 0 t none made.session made.there in
          ap (λ (b : Bool). map (λ (f : Entry). f.event) (entry_if b (record { caller = n; event = close_of t }) (asked_from (suc p) (opened_in 0 front) es))) other
          ∙ absent (slice_get_past u.sessions p (omega (arith, few, count, later)))

asks_in_order : (capacity : ℕ) (limits : Limits) (history : List Entry) (w : World) (s : ℕ) (x : Session) → run capacity limits history ≡ Some w → session_of w s ≡ Some x
    → map (λ (e : Entry). e.event) (asked_from s 0 history) ≡ open_session ∷ (map (request_of s) (calls_of s history) ++ own_close s x.closed)
asks_in_order capacity limits history w zero x runs there = absurd (none-some x there)
asks_in_order capacity limits history w (suc p) x runs there = absent_rest capacity limits p history [] (fresh_world capacity limits) w x refl refl runs there

pub sessions_ask_in_order : SessionsAskInOrder
unfolding SessionsAskInOrder
sessions_ask_in_order capacity limits history w s x runs there = asks_in_order capacity limits history w s x runs there
