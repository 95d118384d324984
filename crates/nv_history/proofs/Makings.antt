-- The world that each event makes.
use Rattle.std.proofs.Common.{◌≡◌, ℕ, List, [], ◌∷◌, ◌++◌, refl, sym, subst, Bool, true, false, Option, Some, None}
use Rattle.std.specs.Prelude.{option_and_then}
use Rattle.std.proofs.lemmas.Option.{none-some, same_Some}
use Rattle.nv_rpc.specs.Calls.{Call}
use Rattle.nv_history.specs.Events.{Event, open_session, request_of, take_of, close_of, Entry, Cause, closed_at}
use Rattle.nv_history.specs.Sessions.{Session, fresh_session, session_closed_by, shown_after, session_emptied}
use Rattle.nv_history.specs.Worlds.{World, session_of, with_session_at, after_entry, after_settled_entry, opening_outcome, outcome_of_frame, world_after_call, held_outcome, live_request_outcome, request_outcome, is_scene_due, is_nothing_due, empty_take_outcome, some_take_outcome, take_outcome, live_close_outcome, close_outcome, step, world_made}
use Rattle.nv_history.specs.Runs.{run_from}

-- a session is there, isn't closed, and makes a call; takes; is closed
pub record IsCalled (w : World) (s : ℕ) (call : Call) (v : World) : Type 0 where
  pub session : Session
  pub there : session_of w s ≡ Some session
  pub live : session.closed ≡ None
  pub made : v ≡ after_settled_entry (outcome_of_frame w.editor s call).is_seen (world_after_call w s call (outcome_of_frame w.editor s call))

pub record IsTakenFrom (w : World) (s : ℕ) (v : World) : Type 0 where
  pub session : Session
  pub there : session_of w s ≡ Some session
  pub some : is_nothing_due session.waiting (is_scene_due w s session) ≡ false
  pub made : v ≡ after_entry (with_session_at w s (session_emptied (shown_after (is_scene_due w s session) w.stamp session.shown) session))

pub record IsClosedNow (w : World) (s : ℕ) (v : World) : Type 0 where
  pub session : Session
  pub there : session_of w s ≡ Some session
  pub live : session.closed ≡ None
  pub made : v ≡ after_settled_entry false (with_session_at w s (session_closed_by (closed_at w.entries) session))

abbrev pub Makes : World → Event → World → Type 0
Makes w open_session v = v ≡ after_entry (record w { sessions = w.sessions ++ fresh_session ∷ [] })
Makes w (request_of s call) v = IsCalled w s call v
Makes w (take_of s) v = IsTakenFrom w s v
Makes w (close_of s) v = IsClosedNow w s v

opening_makes : (e : Option ℕ) (w v : World) → world_made (opening_outcome e w) ≡ Some v → v ≡ after_entry (record w { sessions = w.sessions ++ fresh_session ∷ [] })
opening_makes (Some e) w v f = absurd (none-some v f)
opening_makes None w v f = sym (same_Some (after_entry (record w { sessions = w.sessions ++ fresh_session ∷ [] })) v f)

held_makes : (b : Bool) (w v : World) (s : ℕ) (x : Session) (call : Call) → session_of w s ≡ Some x → x.closed ≡ None → world_made (held_outcome b w s x call) ≡ Some v → IsCalled w s call v
held_makes true w v s x call there live f = absurd (none-some v f)
held_makes false w v s x call there live f = record {
  session = x;
  there = there;
  live = live;
  made = sym (same_Some (after_settled_entry (outcome_of_frame w.editor s call).is_seen (world_after_call w s call (outcome_of_frame w.editor s call))) v f);
}

live_makes : (c : Option Cause) (w v : World) (s : ℕ) (x : Session) (call : Call) → session_of w s ≡ Some x → x.closed ≡ c → world_made (live_request_outcome c w s x call) ≡ Some v → IsCalled w s call v
live_makes (Some c) w v s x call there live f = absurd (none-some v f)
live_makes None w v s x call there live f = held_makes _ w v s x call there live f

request_makes : (o : Option Session) (w v : World) (s : ℕ) (call : Call) → session_of w s ≡ o → world_made (request_outcome o w s call) ≡ Some v → IsCalled w s call v
request_makes None w v s call there f = absurd (none-some v f)
request_makes (Some x) w v s call there f = live_makes x.closed w v s x call there refl f

taken_makes : (none : Bool) (w v : World) (s : ℕ) (x : Session) → session_of w s ≡ Some x → is_nothing_due x.waiting (is_scene_due w s x) ≡ none
    → world_made (some_take_outcome none (is_scene_due w s x) w s x) ≡ Some v → IsTakenFrom w s v
taken_makes true w v s x there e f = by_cause x.closed f
  where
    by_cause : (c : Option Cause) → world_made (empty_take_outcome c) ≡ Some v → IsTakenFrom w s v
    by_cause None g = absurd (none-some v g)
    by_cause (Some c) g = absurd (none-some v g)
taken_makes false w v s x there e f = record {
  session = x;
  there = there;
  some = e;
  made = sym (same_Some (after_entry (with_session_at w s (session_emptied (shown_after (is_scene_due w s x) w.stamp x.shown) x))) v f);
}

take_makes : (o : Option Session) (w v : World) (s : ℕ) → session_of w s ≡ o → world_made (take_outcome o w s) ≡ Some v → IsTakenFrom w s v
take_makes None w v s there f = absurd (none-some v f)
take_makes (Some x) w v s there f = taken_makes (is_nothing_due x.waiting (is_scene_due w s x)) w v s x there refl f

closing_makes : (c : Option Cause) (w v : World) (s : ℕ) (x : Session) → session_of w s ≡ Some x → x.closed ≡ c → world_made (live_close_outcome c w s x) ≡ Some v → IsClosedNow w s v
closing_makes (Some c) w v s x there live f = absurd (none-some v f)
closing_makes None w v s x there live f = record {
  session = x;
  there = there;
  live = live;
  made = sym (same_Some (after_settled_entry false (with_session_at w s (session_closed_by (closed_at w.entries) x))) v f);
}

close_makes : (o : Option Session) (w v : World) (s : ℕ) → session_of w s ≡ o → world_made (close_outcome o w s) ≡ Some v → IsClosedNow w s v
close_makes None w v s there f = absurd (none-some v f)
close_makes (Some x) w v s there f = closing_makes x.closed w v s x there refl f

-- what an event makes, where it enters
pub step_makes : (w v : World) (event : Event) → world_made (step w event) ≡ Some v → Makes w event v
step_makes w v open_session f = opening_makes w.ended w v f
step_makes w v (request_of s call) f = request_makes (session_of w s) w v s call refl f
step_makes w v (take_of s) f = take_makes (session_of w s) w v s refl f
step_makes w v (close_of s) f = close_makes (session_of w s) w v s refl f

-- ---- a property of worlds that each step keeps
module _ (P : World → Type 0) (keeps : (w v : World) (event : Event) → P w → Makes w event v → P v) where
  run_next : (w v : World) (es : List Entry) (o : Option World) → ((u : World) → o ≡ Some u → P u) → ((u : World) → P u → run_from u es ≡ Some v → P v)
      → option_and_then (λ u. run_from u es) o ≡ Some v → P v
  run_next w v es None first rest e = absurd (none-some v e)
  run_next w v es (Some u) first rest e = rest u (first u refl) e

  pub run_keeps : (w v : World) (es : List Entry) → P w → run_from w es ≡ Some v → P v
  run_keeps w v [] h e = subst (λ (u : World). P u) (same_Some w v e) h
  run_keeps w v (x ∷ es) h e =
      run_next w v es (world_made (step w x.event)) (λ u f. keeps w u x.event h (step_makes w u x.event f)) (λ u k f. run_keeps u v es k f) e
