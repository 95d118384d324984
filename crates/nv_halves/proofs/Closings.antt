-- How sessions are closed along a history: by their own closes, by overflows, and by the end of the
-- world.
use Rattle.std.proofs.Common.{◌≡◌, ◌≢◌, ◌⊎◌, inl, inr, ℕ, zero, suc, ℤ, ◌+◌, List, [], ◌∷◌, ◌++◌, length, map, refl, ap, sym, ◌∙◌, subst, arith, slice_get, slice_set, Bool, true, false, Option, Some, None}
use Rattle.std.specs.Prelude.{option_map, option_and_then, ◌==◌}
use Rattle.std.proofs.lemmas.Option.{none-some, same_Some, slice_get-map}
use Rattle.std.proofs.lemmas.Bool.Decides.{nat_tests}
use Rattle.nv_rpc.specs.Calls.{Call}
use Rattle.nv_rpc.specs.Messages.{Sent, detach_event}
use Rattle.nv_model.specs.Answers.{Fact, attached, detached, edited, deleted, quit}
use Rattle.nv_history.specs.Events.{Event, open_session, request_of, take_of, close_of, Entry, Cause, closed_at, overflowed_at, quit_at}
use Rattle.nv_history.specs.Sessions.{Session, fresh_session, follows, with_following, without_following, session_closed_by, session_emptied, shown_after, session_with_message, session_told, session_told_if, session_joined, session_parted, session_parted_if, open_session_hears, unless_closed, session_hears, session_hears_all, session_replied, session_quit, session_quit_if, session_after_call, first_message, splice_message, reply_message, has_quit}
use Rattle.nv_history.specs.Worlds.{World, fresh_world, session_of, with_session_at, first_end, world_ended_if, sessions_losing_uis, world_without_uis, world_at_end, after_entry, after_settled_entry, opening_outcome, outcome_of_frame, world_after_call, is_scene_due, step, world_made}
use Rattle.nv_history.specs.Runs.{run_from, run}
use Rattle.nv_history.proofs.Places.{set_here, set_there, get_push, get_after_call}
use Rattle.nv_history.proofs.Staging.{world_then, at_end_sessions}
use Rattle.nv_history.proofs.Makings.{Makes, step_makes}
use Rattle.nv_halves.specs.Passes.{IsClosedBy}
use Rattle.nv_halves.specs.Laws.{QuitsAreEnds}

-- ---- one session that hears a call

-- a session stays as open or closed as it was, or an overflow closes it
abbrev pub Overflows : Session → Session → Type 0
Overflows x y = (y.closed ≡ x.closed) ⊎ ((x.closed ≡ None) × (entry : ℕ) × (y.closed ≡ Some (overflowed_at entry)))

overflows_then : (x y z : Session) → Overflows x y → Overflows y z → Overflows x z
overflows_then x y z (inl a) (inl b) = inl (b ∙ a)
overflows_then x y z (inl a) (inr b) = inr (sym a ∙ b.0, b.1, b.2)
overflows_then x y z (inr a) (inl b) = inr (a.0, a.1, b ∙ a.2)
overflows_then x y z (inr a) (inr b) = absurd (none-some (overflowed_at a.1) (sym b.0 ∙ a.2))

by_message : (b : Bool) (at : ℕ) (m : Sent) (x y : Session) → x.closed ≡ None → y.closed ≡ None → Overflows x (session_with_message b at m y)
by_message true at m x y e f = inr (e, at, refl)
by_message false at m x y e f = inl (f ∙ sym e)

by_told : (at capacity : ℕ) (m : Sent) (x y : Session) → x.closed ≡ None → y.closed ≡ None → Overflows x (session_told at capacity m y)
by_told at capacity m x y e f = by_message (length y.waiting == capacity) at m x y e f

by_joined : (own there : Bool) (at capacity : ℕ) (n : ℤ) (m : Sent) (x : Session) → x.closed ≡ None → Overflows x (session_joined own there at capacity n m x)
by_joined true false at capacity n m x e = by_told at capacity m x (with_following n x) e e
by_joined true true at capacity n m x e = inl refl
by_joined false there at capacity n m x e = inl refl

by_parted : (there : Bool) (at capacity : ℕ) (n : ℤ) (x : Session) → x.closed ≡ None → Overflows x (session_parted there at capacity n x)
by_parted true at capacity n x e = by_told at capacity (detach_event n) x (without_following n x) e e
by_parted false at capacity n x e = inl refl

by_parted_if : (own there : Bool) (at capacity : ℕ) (n : ℤ) (x : Session) → x.closed ≡ None → Overflows x (session_parted_if own there at capacity n x)
by_parted_if true there at capacity n x e = by_parted there at capacity n x e
by_parted_if false there at capacity n x e = inl refl

by_told_if : (b : Bool) (at capacity : ℕ) (m : Sent) (x : Session) → x.closed ≡ None → Overflows x (session_told_if b at capacity m x)
by_told_if true at capacity m x e = by_told at capacity m x x e e
by_told_if false at capacity m x e = inl refl

by_fact : (at capacity : ℕ) (own : Bool) (fact : Fact) (x : Session) → x.closed ≡ None → Overflows x (open_session_hears at capacity own fact x)
by_fact at capacity own (attached n tick whole) x e = by_joined own (follows n x) at capacity n (first_message n tick whole) x e
by_fact at capacity own (detached n) x e = by_parted_if own (follows n x) at capacity n x e
by_fact at capacity own (edited n told) x e = by_told_if (follows n x) at capacity (splice_message n told) x e
by_fact at capacity own (deleted n) x e = by_parted (follows n x) at capacity n x e
by_fact at capacity own quit x e = inl refl

unless : (c : Option Cause) (x y : Session) → x.closed ≡ c → (x.closed ≡ None → Overflows x y) → Overflows x (unless_closed c y x)
unless None x y e h = h e
unless (Some cause) x y e h = inl refl

by_facts : (at capacity : ℕ) (own : Bool) (facts : List Fact) (x : Session) → Overflows x (session_hears_all at capacity own facts x)
by_facts at capacity own [] x = inl refl
by_facts at capacity own (fact ∷ facts) x =
    overflows_then x (session_hears at capacity own fact x) (session_hears_all at capacity own facts (session_hears at capacity own fact x))
    (unless x.closed x (open_session_hears at capacity own fact x) refl (λ e. by_fact at capacity own fact x e))
    (by_facts at capacity own facts (session_hears at capacity own fact x))

by_reply : (own : Bool) (at capacity : ℕ) (answer : Option Sent) (x : Session) → Overflows x (session_replied own at capacity answer x)
by_reply true at capacity (Some m) x = unless x.closed x (session_told at capacity m x) refl (λ e. by_told at capacity m x x e e)
by_reply true at capacity None x = inl refl
by_reply false at capacity answer x = inl refl

-- a session that heard a call, before the end of the world that the call may bring
abbrev pub session_heard : ℕ → ℕ → Bool → List Fact → Option Sent → Session → Session
session_heard at capacity own facts answer x = session_replied own at capacity answer (session_hears_all at capacity own facts x)

by_call : (at capacity : ℕ) (own : Bool) (facts : List Fact) (answer : Option Sent) (x : Session) → Overflows x (session_heard at capacity own facts answer x)
by_call at capacity own facts answer x =
    overflows_then x (session_hears_all at capacity own facts x) (session_heard at capacity own facts answer x)
    (by_facts at capacity own facts x) (by_reply own at capacity answer (session_hears_all at capacity own facts x))

-- ---- a cause, and the end of the world

-- where a session isn't closed the world hasn't ended, and what the end closed names the entry that
-- ended it
abbrev pub Fits : Option Cause → Option ℕ → Type 0
Fits None ended = ended ≡ None
Fits (Some (closed_at entry)) ended = Unit {0}
Fits (Some (overflowed_at entry)) ended = Unit {0}
Fits (Some (quit_at entry)) ended = ended ≡ Some entry

fits_overflow : (x y : Session) (ended : Option ℕ) → Overflows x y → Fits x.closed ended → Fits y.closed ended
fits_overflow x y ended (inl e) h = subst (λ (c : Option Cause). Fits c ended) (sym e) h
fits_overflow x y ended (inr e) h = subst (λ (c : Option Cause). Fits c ended) (sym e.2) tt

no_end : (at : ℕ) (ended : Option ℕ) → first_end false at ended ≡ ended
no_end at None = refl
no_end at (Some entry) = refl

fits_quit : (b : Bool) (at : ℕ) (x : Session) (ended : Option ℕ) → Fits x.closed ended → Fits (session_quit_if b at x).closed (first_end b at ended)
fits_quit false at x ended h = subst (λ (o : Option ℕ). Fits x.closed o) (sym (no_end at ended)) h
fits_quit true at x ended h = by_cause x.closed refl h
  where
    by_cause : (c : Option Cause) → x.closed ≡ c → Fits c ended → Fits (unless_closed c (session_closed_by (quit_at at) x) x).closed (first_end true at ended)
    by_cause None is k = ap (first_end true at) k
    by_cause (Some (closed_at entry)) is k = subst (λ (o : Option Cause). Fits o (first_end true at ended)) (sym is) tt
    by_cause (Some (overflowed_at entry)) is k = subst (λ (o : Option Cause). Fits o (first_end true at ended)) (sym is) tt
    by_cause (Some (quit_at entry)) is k = subst (λ (o : Option Cause). Fits o (first_end true at ended)) (sym is) (ap (first_end true at) k)

-- ---- all sessions of a world

abbrev pub AllFit : World → Type 0
AllFit w = (i : ℕ) (x : Session) → slice_get w.sessions i ≡ Some x → Fits x.closed w.ended

mapped : (f : Session → Session) (o : Option Session) (z : Session) → option_map f o ≡ Some z → (x : Session) × (o ≡ Some x) × (f x ≡ z)
mapped f None z e = absurd (none-some z e)
mapped f (Some x) z e = (x, refl, same_Some (f x) z e)

ended_fit : (w : World) (b : Bool) → AllFit w → AllFit (world_ended_if b w)
ended_fit w false h i x e = h i x e
ended_fit w true h i z e =
    let m = mapped (session_quit w.entries) (slice_get w.sessions i) z (sym (slice_get-map (session_quit w.entries) w.sessions i) ∙ e) in
    subst (λ (y : Session). Fits y.closed (first_end true w.entries w.ended)) m.2 (fits_quit true w.entries m.0 w.ended (h i m.0 m.1))

without_ended : (is_seen : Bool) (ss : List ℕ) (w : World) → (world_without_uis is_seen ss w).ended ≡ w.ended
without_ended true [] w = refl
without_ended false [] w = refl
without_ended is_seen (s ∷ ss) w = refl

end_fit : (is_seen : Bool) (w : World) → AllFit w → AllFit (world_at_end is_seen w)
end_fit is_seen w h i x e =
    subst (λ (o : Option ℕ). Fits x.closed o) (sym (without_ended is_seen (sessions_losing_uis (world_then w)) (world_then w)))
    (ended_fit w (w.entries + 1 == w.limits.entries) h i x (ap (λ (xs : List Session). slice_get xs i) (sym (at_end_sessions is_seen w)) ∙ e))

entry_fit : (w u : World) → AllFit w → u ≡ after_entry w → AllFit u
entry_fit w u h e = subst AllFit (sym e) (end_fit false w h)

settled_entry_fit : (is_seen : Bool) (w u : World) → AllFit w → u ≡ after_settled_entry is_seen w → AllFit u
settled_entry_fit is_seen w u h e = subst AllFit (sym e) (end_fit is_seen w h)

-- one session more
pushed_fit : (w : World) → w.ended ≡ None → AllFit w → AllFit (record w { sessions = w.sessions ++ fresh_session ∷ [] })
pushed_fit w live h i x e =
    get_push (λ (o : Option Session). o ≡ Some x → Fits x.closed w.ended) w.sessions fresh_session i
    (λ none f. subst (λ (y : Session). Fits y.closed w.ended) (same_Some fresh_session x f) live) (h i x) e

-- another session in a place
set_apart : (b : Bool) (xs : List Session) (p i : ℕ) (x y z : Session) → (p == i) ≡ b → slice_get xs p ≡ Some x → slice_get (slice_set xs p y) i ≡ Some z → (y ≡ z) ⊎ (slice_get xs i ≡ Some z)
set_apart true xs p i x y z same there e =
    let here : p ≡ i = grind (arith, nat_tests) in
    inl (same_Some y z (sym (set_here xs p x y there) ∙ ap (λ (j : ℕ). slice_get (slice_set xs p y) j) here ∙ e))
set_apart false xs p i x y z same there e =
    let apart : p ≢ i = λ (f : p ≡ i). grind (arith, nat_tests) in
    inr (sym (set_there xs p i y apart) ∙ e)

set_fit : (w : World) (s : ℕ) (x y : Session) → session_of w s ≡ Some x → ((ended : Option ℕ) → Fits x.closed ended → Fits y.closed ended) → AllFit w → AllFit (with_session_at w s y)
set_fit w zero x y there keeps h = absurd (none-some x there)
set_fit w (suc p) x y there keeps h = λ i z e. by_place i z (set_apart (p == i) w.sessions p i x y z refl there e)
  where
    by_place : (i : ℕ) (z : Session) → (y ≡ z) ⊎ (slice_get w.sessions i ≡ Some z) → Fits z.closed w.ended
    by_place i z (inl same) = subst (λ (u : Session). Fits u.closed w.ended) same (keeps w.ended (h p x there))
    by_place i z (inr other) = h i z other

-- a call
called_fit : (w : World) (s : ℕ) (call : Call) → AllFit w → AllFit (world_after_call w s call (outcome_of_frame w.editor s call))
called_fit w s call h i z e =
    let o = outcome_of_frame w.editor s call in
    let own : Bool = (1 + i) == s in
    let m = mapped (session_after_call w.entries w.capacity own o.facts (reply_message call o.result)) (slice_get w.sessions i) z
    (sym (get_after_call w.entries w.capacity s 1 o.facts (reply_message call o.result) w.sessions i) ∙ e) in
    let heard : Session = session_heard w.entries w.capacity own o.facts (reply_message call o.result) m.0 in
    subst (λ (y : Session). Fits y.closed (first_end (has_quit o.facts) w.entries w.ended)) m.2
    (fits_quit (has_quit o.facts) w.entries heard w.ended
    (fits_overflow m.0 heard w.ended (by_call w.entries w.capacity own o.facts (reply_message call o.result) m.0) (h i m.0 m.1)))

opened_fit : (o : Option ℕ) (w u : World) → w.ended ≡ o → AllFit w → world_made (opening_outcome o w) ≡ Some u → AllFit u
opened_fit (Some entry) w u is h e = absurd (none-some u e)
opened_fit None w u is h e =
    entry_fit (record w { sessions = w.sessions ++ fresh_session ∷ [] }) u (pushed_fit w is h)
    (sym (same_Some (after_entry (record w { sessions = w.sessions ++ fresh_session ∷ [] })) u e))

makes_fit : (w u : World) (event : Event) → AllFit w → world_made (step w event) ≡ Some u → Makes w event u → AllFit u
makes_fit w u open_session h e made = opened_fit w.ended w u refl h e
makes_fit w u (request_of s call) h e made =
    settled_entry_fit (outcome_of_frame w.editor s call).is_seen (world_after_call w s call (outcome_of_frame w.editor s call)) u (called_fit w s call h) made.made
makes_fit w u (take_of s) h e made =
    entry_fit (with_session_at w s (session_emptied (shown_after (is_scene_due w s made.session) w.stamp made.session.shown) made.session)) u
    (set_fit w s made.session (session_emptied (shown_after (is_scene_due w s made.session) w.stamp made.session.shown) made.session) made.there (λ ended k. k) h) made.made
makes_fit w u (close_of s) h e made =
    settled_entry_fit false (with_session_at w s (session_closed_by (closed_at w.entries) made.session)) u
    (set_fit w s made.session (session_closed_by (closed_at w.entries) made.session) made.there (λ ended k. tt) h) made.made

-- ---- along a run

-- the world that the first entry makes
pub made_next : (o : Option World) (es : List Entry) (v : World) → option_and_then (λ u. run_from u es) o ≡ Some v → (u : World) × (o ≡ Some u) × (run_from u es ≡ Some v)
made_next None es v e = absurd (none-some v e)
made_next (Some u) es v e = (u, refl, e)

run_fit : (w v : World) (es : List Entry) → AllFit w → run_from w es ≡ Some v → AllFit v
run_fit w v [] h e = subst AllFit (same_Some w v e) h
run_fit w v (x ∷ es) h e =
    let n = made_next (world_made (step w x.event)) es v e in
    run_fit n.0 v es (makes_fit w n.0 x.event h n.1 (step_makes w n.0 x.event n.1)) n.2

quit_fit : (w : World) (s entry : ℕ) → AllFit w → IsClosedBy w s (quit_at entry) → w.ended ≡ Some entry
quit_fit w zero entry h c = absurd (none-some c.0 c.1)
quit_fit w (suc p) entry h c = subst (λ (o : Option Cause). Fits o w.ended) c.2 (h p c.0 c.1)

pub quits_are_ends : QuitsAreEnds
unfolding QuitsAreEnds
quits_are_ends capacity limits history w s entry runs closed =
    quit_fit w s entry (run_fit (fresh_world capacity limits) w history (λ i x e. absurd (none-some x e)) runs) closed

-- ---- a session by its place, along a step

-- it isn't closed by its own close
abbrev pub IsNoOwn : Session → Session → Type 0
IsNoOwn x z = (entry : ℕ) → x.closed ≡ None → z.closed ≡ Some (closed_at entry) → ⊥

same_no_own : (x z : Session) → z.closed ≡ x.closed → IsNoOwn x z
same_no_own x z e entry live closed = none-some (closed_at entry) (sym live ∙ sym e ∙ closed)

overflow_no_own : (x z : Session) → Overflows x z → IsNoOwn x z
overflow_no_own x z (inl e) = same_no_own x z e
overflow_no_own x z (inr e) = λ entry live closed. let k : overflowed_at e.1 ≡ closed_at entry = same_Some (overflowed_at e.1) (closed_at entry) (sym e.2 ∙ closed) in cc

quit_no_own : (b : Bool) (at : ℕ) (x y : Session) → IsNoOwn x y → IsNoOwn x (session_quit_if b at y)
quit_no_own false at x y h = h
quit_no_own true at x y h = λ entry live closed. by_cause entry live y.closed refl closed
  where
    by_cause : (entry : ℕ) → x.closed ≡ None → (c : Option Cause) → y.closed ≡ c → (unless_closed c (session_closed_by (quit_at at) y) y).closed ≡ Some (closed_at entry) → ⊥
    by_cause entry live None is k = let e : quit_at at ≡ closed_at entry = same_Some (quit_at at) (closed_at entry) k in cc
    by_cause entry live (Some c) is k = h entry live k

ended_place : (w : World) (b : Bool) (i : ℕ) (y : Session) → slice_get w.sessions i ≡ Some y → slice_get (world_ended_if b w).sessions i ≡ Some (session_quit_if b w.entries y)
ended_place w true i y e = slice_get-map (session_quit w.entries) w.sessions i ∙ ap (λ (o : Option Session). option_map (session_quit w.entries) o) e
ended_place w false i y e = e

-- a session at the end of an entry
abbrev pub at_last : World → Session → Session
at_last w y = session_quit_if (w.entries + 1 == w.limits.entries) w.entries y

end_place : (is_seen : Bool) (w : World) (i : ℕ) (y : Session) → slice_get w.sessions i ≡ Some y → slice_get (world_at_end is_seen w).sessions i ≡ Some (at_last w y)
end_place is_seen w i y e = ap (λ (xs : List Session). slice_get xs i) (at_end_sessions is_seen w) ∙ ended_place w (w.entries + 1 == w.limits.entries) i y e

pub entry_place : (w u : World) (i : ℕ) (y : Session) → slice_get w.sessions i ≡ Some y → u ≡ after_entry w → slice_get u.sessions i ≡ Some (at_last w y)
entry_place w u i y e is = ap (λ (v : World). slice_get v.sessions i) is ∙ end_place false w i y e

settled_place : (is_seen : Bool) (w u : World) (i : ℕ) (y : Session) → slice_get w.sessions i ≡ Some y → u ≡ after_settled_entry is_seen w → slice_get u.sessions i ≡ Some (at_last w y)
settled_place is_seen w u i y e is = ap (λ (v : World). slice_get v.sessions i) is ∙ end_place is_seen w i y e

-- what a step makes of the session of a place: only its own close closes it by that
pub record PlaceAfter (event : Event) (p : ℕ) (x : Session) (u : World) : Type 0 where
  pub later : Session
  pub there : slice_get u.sessions p ≡ Some later
  pub own : (entry : ℕ) → x.closed ≡ None → later.closed ≡ Some (closed_at entry) → event ≡ close_of (suc p)

pushed_place : (xs : List Session) (p : ℕ) (x : Session) → slice_get xs p ≡ Some x → slice_get (xs ++ fresh_session ∷ []) p ≡ Some x
pushed_place xs p x e = get_push (λ (o : Option Session). o ≡ Some x) xs fresh_session p (λ none. absurd (none-some x (sym none ∙ e))) e

-- another session in the place of one, or in another place
set_place : (b : Bool) (xs : List Session) (q p : ℕ) (x y z : Session) → (q == p) ≡ b → slice_get xs q ≡ Some y → slice_get xs p ≡ Some x
    → (k : Session) × (slice_get (slice_set xs q z) p ≡ Some k) × ((k ≡ x) ⊎ ((q ≡ p) × (k ≡ z)))
set_place true xs q p x y z same there e =
    let here : q ≡ p = grind (arith, nat_tests) in
    (z, ap (λ (j : ℕ). slice_get (slice_set xs q z) j) (sym here) ∙ set_here xs q y z there, inr (here, refl))
set_place false xs q p x y z same there e =
    let apart : q ≢ p = λ (f : q ≡ p). grind (arith, nat_tests) in (x, set_there xs q p z apart ∙ e, inl refl)

taken_place : (w u : World) (s p : ℕ) (x y z : Session) → session_of w s ≡ Some y → slice_get w.sessions p ≡ Some x → z.closed ≡ y.closed → u ≡ after_entry (with_session_at w s z) → PlaceAfter (take_of s) p x u
taken_place w u zero p x y z there e same is = absurd (none-some y there)
taken_place w u (suc q) p x y z there e same is =
    let k = set_place (q == p) w.sessions q p x y z refl there e in
    record {
      later = at_last (with_session_at w (suc q) z) k.0;
      there = entry_place (with_session_at w (suc q) z) u p k.0 k.1 is;
      own = λ entry live closed. absurd (quit_no_own (w.entries + 1 == w.limits.entries) w.entries x k.0 (same_no_own x k.0 (closed_same k.0 k.2)) entry live closed);
    }
  where
    closed_same : (k : Session) → (k ≡ x) ⊎ ((q ≡ p) × (k ≡ z)) → k.closed ≡ x.closed
    closed_same k (inl h) = ap (λ (v : Session). v.closed) h
    closed_same k (inr h) =
        let found : y ≡ x = same_Some y x (sym there ∙ ap (λ (j : ℕ). slice_get w.sessions j) h.0 ∙ e) in
        ap (λ (v : Session). v.closed) h.1 ∙ same ∙ ap (λ (v : Session). v.closed) found

closed_place : (w u : World) (s p : ℕ) (x y : Session) → session_of w s ≡ Some y → slice_get w.sessions p ≡ Some x
    → u ≡ after_settled_entry false (with_session_at w s (session_closed_by (closed_at w.entries) y)) → PlaceAfter (close_of s) p x u
closed_place w u zero p x y there e is = absurd (none-some y there)
closed_place w u (suc q) p x y there e is =
    let z : Session = session_closed_by (closed_at w.entries) y in
    let k = set_place (q == p) w.sessions q p x y (session_closed_by (closed_at w.entries) y) refl there e in
    record {
      later = at_last (with_session_at w (suc q) (session_closed_by (closed_at w.entries) y)) k.0;
      there = settled_place false (with_session_at w (suc q) (session_closed_by (closed_at w.entries) y)) u p k.0 k.1 is;
      own = λ entry live closed. by_place k.0 k.2 entry live closed;
    }
  where
    by_place : (k : Session) → (k ≡ x) ⊎ ((q ≡ p) × (k ≡ session_closed_by (closed_at w.entries) y)) → (entry : ℕ) → x.closed ≡ None
        → (at_last (with_session_at w (suc q) (session_closed_by (closed_at w.entries) y)) k).closed ≡ Some (closed_at entry) → close_of (suc q) ≡ close_of (suc p)
    by_place k (inl h) entry live closed =
        absurd (quit_no_own (w.entries + 1 == w.limits.entries) w.entries x k (same_no_own x k (ap (λ (v : Session). v.closed) h)) entry live closed)
    by_place k (inr h) entry live closed = ap (λ (j : ℕ). close_of (suc j)) h.0

pub place_after : (w u : World) (event : Event) (p : ℕ) (x : Session) → slice_get w.sessions p ≡ Some x → Makes w event u → PlaceAfter event p x u
place_after w u open_session p x e made = record {
  later = at_last (record w { sessions = w.sessions ++ fresh_session ∷ [] }) x;
  there = entry_place (record w { sessions = w.sessions ++ fresh_session ∷ [] }) u p x (pushed_place w.sessions p x e) made;
  own = λ entry live closed. absurd (quit_no_own (w.entries + 1 == w.limits.entries) w.entries x x (same_no_own x x refl) entry live closed);
}
place_after w u (request_of s call) p x e made =
    let o = outcome_of_frame w.editor s call in
    let y : Session = session_after_call w.entries w.capacity ((1 + p) == s) o.facts (reply_message call o.result) x in
    record {
      later = at_last (world_after_call w s call (outcome_of_frame w.editor s call)) (session_after_call w.entries w.capacity ((1 + p) == s) (outcome_of_frame w.editor s call).facts (reply_message call (outcome_of_frame w.editor s call).result) x);
      there = settled_place o.is_seen (world_after_call w s call o) u p (session_after_call w.entries w.capacity ((1 + p) == s) o.facts (reply_message call o.result) x)
          (get_after_call w.entries w.capacity s 1 o.facts (reply_message call o.result) w.sessions p
          ∙ ap (λ (z : Option Session). option_map (session_after_call w.entries w.capacity ((1 + p) == s) o.facts (reply_message call o.result)) z) e) made.made;
      own = λ entry live closed. absurd
          (quit_no_own (w.entries + 1 == w.limits.entries) w.entries x (session_after_call w.entries w.capacity ((1 + p) == s) o.facts (reply_message call o.result) x)
          (quit_no_own (has_quit o.facts) w.entries x (session_heard w.entries w.capacity ((1 + p) == s) o.facts (reply_message call o.result) x)
          (overflow_no_own x (session_heard w.entries w.capacity ((1 + p) == s) o.facts (reply_message call o.result) x)
          (by_call w.entries w.capacity ((1 + p) == s) o.facts (reply_message call o.result) x))) entry live closed);
    }
place_after w u (take_of s) p x e made =
    taken_place w u s p x made.session (session_emptied (shown_after (is_scene_due w s made.session) w.stamp made.session.shown) made.session) made.there e refl made.made
place_after w u (close_of s) p x e made = closed_place w u s p x made.session made.there e made.made

quit_closed : (b : Bool) (at : ℕ) (y : Session) (c : Cause) → y.closed ≡ Some c → (session_quit_if b at y).closed ≡ Some c
quit_closed false at y c e = e
quit_closed true at y c e = by_cause y.closed refl
  where
    by_cause : (o : Option Cause) → y.closed ≡ o → (unless_closed o (session_closed_by (quit_at at) y) y).closed ≡ Some c
    by_cause None is = absurd (none-some c (sym is ∙ e))
    by_cause (Some d) is = e

-- its own close closes a session by that
pub own_closes : (w u : World) (p : ℕ) → Makes w (close_of (suc p)) u → (z : Session) → slice_get u.sessions p ≡ Some z → z.closed ≡ Some (closed_at w.entries)
own_closes w u p made z there =
    let y : Session = session_closed_by (closed_at w.entries) made.session in
    let found = settled_place false (with_session_at w (suc p) (session_closed_by (closed_at w.entries) made.session)) u p (session_closed_by (closed_at w.entries) made.session)
    (set_here w.sessions p made.session (session_closed_by (closed_at w.entries) made.session) made.there) made.made in
    let same = same_Some (at_last (with_session_at w (suc p) (session_closed_by (closed_at w.entries) made.session)) (session_closed_by (closed_at w.entries) made.session)) z (sym found ∙ there) in
    ap (λ (v : Session). v.closed) (sym same)
    ∙ quit_closed (w.entries + 1 == w.limits.entries) w.entries (session_closed_by (closed_at w.entries) made.session) (closed_at w.entries) refl
