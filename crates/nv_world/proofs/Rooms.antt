-- Memory for the entries of closes: the sessions that aren't closed, counted.
use Rattle.std.proofs.Common.{◌≡◌, ℕ, zero, suc, ◌+◌, ◌≤◌, List, [], ◌∷◌, ◌++◌, length, map, set, slice_get, refl, sym, ap, ◌∙◌, Bool, true, false, Option, Some, None, arith, length-append, length-set}
use Rattle.std.specs.Prelude.{◌==◌}
use Rattle.nv_rpc.specs.Messages.{Sent}
use Rattle.nv_model.specs.Answers.{Fact}
use Rattle.nv_history.specs.Events.{Event, open_session, request_of, take_of, close_of, Cause, Effect, closed_at, quit_at}
use Rattle.nv_history.specs.Sessions.{Session, fresh_session, reply_message, session_closed_by, session_emptied, session_quit, sessions_after_call, shown_after, unless_closed}
use Rattle.nv_history.specs.Worlds.{World, Outcome, becomes, is_scene_due, outcome_of_frame, session_of, sessions_losing_uis, step, with_session_at, world_after_call, world_at_end, world_ended_if, world_made}
use Rattle.nv_history.specs.Asking.{count_opened}
use Rattle.nv_history.proofs.Makings.{Makes, IsClosedNow, step_makes}
use Rattle.nv_world.specs.inside.States.{count_live, one_if_live}
use Rattle.nv_world.proofs.Endings.{without_sessions}

-- ---- how many sessions there are

pub count_within : (ys : List Session) → count_live ys ≤ length ys
count_within [] = omega arith
count_within (y ∷ ys) = step y.closed (count_within ys)
  where
    step : (o : Option Cause) → count_live ys ≤ length ys → one_if_live o + count_live ys ≤ suc (length ys)
    step None h = omega arith
    step (Some cause) h = omega arith

length-each : (f : Session → Session) (ys : List Session) → length (map f ys) ≡ length ys
length-each f [] = refl
length-each f (y ∷ ys) = ap (λ (n : ℕ). suc n) (length-each f ys)

length-told : (at capacity caller k : ℕ) (facts : List Fact) (answer : Option Sent) (ys : List Session)
    → length (sessions_after_call at capacity caller k facts answer ys) ≡ length ys
length-told at capacity caller k facts answer [] = refl
length-told at capacity caller k facts answer (y ∷ ys) = ap (λ (n : ℕ). suc n) (length-told at capacity caller (k + 1) facts answer ys)

-- an entry that ends the editor, or doesn't
ended_length : (b : Bool) (u : World) → length (world_ended_if b u).sessions ≡ length u.sessions
ended_length true u = length-each (session_quit u.entries) u.sessions
ended_length false u = refl

abbrev ended : World → World
ended u = world_ended_if (u.entries + 1 == u.limits.entries) u

at_end_sessions : (is_seen : Bool) (u : World) → (world_at_end is_seen u).sessions ≡ (ended u).sessions
at_end_sessions is_seen u = without_sessions is_seen (sessions_losing_uis (ended u)) (ended u)

at_end_length : (is_seen : Bool) (u : World) → length (world_at_end is_seen u).sessions ≡ length u.sessions
at_end_length is_seen u =
    ap (λ (l : List Session). length l) (at_end_sessions is_seen u) ∙ ended_length (u.entries + 1 == u.limits.entries) u

set_length : (w : World) (s : ℕ) (z : Session) → length (with_session_at w s z).sessions ≡ length w.sessions
set_length w zero z = refl
set_length w (suc place) z = length-set w.sessions place z

made_length : (w v : World) (event : Event) → Makes w event v → length v.sessions ≡ count_opened (length w.sessions) event
made_length w v open_session made =
    ap (λ (x : World). length x.sessions) made
    ∙ at_end_length false (record w { sessions = w.sessions ++ fresh_session ∷ [] })
    ∙ length-append w.sessions (fresh_session ∷ [])
made_length w v (request_of s call) made =
    ap (λ (x : World). length x.sessions) made.made
    ∙ at_end_length (outcome_of_frame w.editor s call).is_seen (world_after_call w s call (outcome_of_frame w.editor s call))
    ∙ length-told w.entries w.capacity s 1 (outcome_of_frame w.editor s call).facts (reply_message call (outcome_of_frame w.editor s call).result) w.sessions
made_length w v (take_of s) made =
    let z : Session = session_emptied (shown_after (is_scene_due w s made.session) w.stamp made.session.shown) made.session in
    ap (λ (x : World). length x.sessions) made.made ∙ at_end_length false (with_session_at w s z) ∙ set_length w s z
made_length w v (close_of s) made =
    let z : Session = session_closed_by (closed_at w.entries) made.session in
    ap (λ (x : World). length x.sessions) made.made ∙ at_end_length false (with_session_at w s z) ∙ set_length w s z

-- ---- how many of them aren't closed

quit_count : (at : ℕ) (ys : List Session) → count_live (map (session_quit at) ys) ≡ 0
quit_count at [] = refl
quit_count at (y ∷ ys) =
    let none : one_if_live (session_quit at y).closed ≡ 0 = by y.closed refl in
    omega (arith, none, quit_count at ys)
  where
    by : (o : Option Cause) → y.closed ≡ o → one_if_live (unless_closed o (session_closed_by (quit_at at) y) y).closed ≡ 0
    by None e = refl
    by (Some cause) e = ap one_if_live e

ended_count : (b : Bool) (u : World) → count_live (world_ended_if b u).sessions ≤ count_live u.sessions
ended_count true u = omega (arith, quit_count u.entries u.sessions)
ended_count false u = omega arith

set_count : (ys : List Session) (p : ℕ) (y z : Session) (cause : Cause) → slice_get ys p ≡ Some y → y.closed ≡ None → z.closed ≡ Some cause
    → count_live (set ys p z) + 1 ≡ count_live ys
set_count [] p y z cause there live shut = absurd cc
set_count (x ∷ xs) zero y z cause there live shut =
    let same : x ≡ y = cc in
    let a : one_if_live z.closed ≡ 0 = ap one_if_live shut in
    let b : one_if_live x.closed ≡ 1 = ap (λ (u : Session). one_if_live u.closed) same ∙ ap one_if_live live in
    omega (arith, a, b)
set_count (x ∷ xs) (suc p) y z cause there live shut = omega (arith, set_count xs p y z cause there live shut)

closed_count : (w v : World) (s : ℕ) → IsClosedNow w s v → count_live v.sessions + 1 ≤ count_live w.sessions
closed_count w v zero made = absurd (let e = made.there in cc)
closed_count w v (suc place) made =
    let z : Session = session_closed_by (closed_at w.entries) made.session in
    let u : World = with_session_at w (suc place) z in
    let is : count_live v.sessions ≡ count_live (ended u).sessions =
    ap (λ (x : World). count_live x.sessions) made.made ∙ ap count_live (at_end_sessions false u) in
    omega (
      arith,
      is,
      ended_count (u.entries + 1 == u.limits.entries) u,
      set_count w.sessions place made.session z (closed_at w.entries) made.there made.live refl,
    )

-- ---- entries

made_of : (w v : World) (event : Event) (effect : Effect) → step w event ≡ becomes v effect → Makes w event v
made_of w v event effect is = step_makes w v event (ap world_made is)

-- behind an entry no more sessions can be live than there are
pub live_behind : (w v : World) (event : Event) (effect : Effect) → step w event ≡ becomes v effect
    → count_live v.sessions ≤ count_opened (length w.sessions) event
live_behind w v event effect is = omega (arith, count_within v.sessions, made_length w v event (made_of w v event effect is))

-- behind a close there is one less
pub live_behind_close : (w v : World) (s : ℕ) (effect : Effect) → step w (close_of s) ≡ becomes v effect
    → count_live v.sessions + 1 ≤ count_live w.sessions
live_behind_close w v s effect is = closed_count w v s (made_of w v (close_of s) effect is)
