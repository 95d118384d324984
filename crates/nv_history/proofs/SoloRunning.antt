-- One session alone: its history runs.
use Rattle.std.proofs.Common.{◌≡◌, ℕ, ◌+◌, ◌*◌, ◌<◌, slice_get, List, [], ◌∷◌, ◌++◌, length, refl, ap, sym, ◌∙◌, subst, append_assoc, append-nil, arith, Bool, true, false, Option, Some, None}
use Rattle.std.specs.Prelude.{option_map, option_and_then, ◌==◌, nat_le, not, is_some}
use Rattle.std.proofs.lemmas.Option.{none-some, same_Some, slice_get-map}
use Rattle.std.proofs.lemmas.Bool.Decides.{nat_tests}
use Rattle.nv_rpc.specs.Calls.{Call}
use Rattle.nv_rpc.specs.Messages.{Sent}
use Rattle.nv_dispatch.specs.Calls.{CallOutcome}
use Rattle.nv_history.specs.Events.{Event, open_session, request_of, take_of, close_of, Entry, Cause, closed_at, quit_at, done, closes}
use Rattle.nv_history.specs.Sessions.{Session, fresh_session, session_closed_by, shown_after, session_emptied, unless_closed, session_quit, session_after_call, reply_message}
use Rattle.nv_history.specs.Worlds.{World, fresh_world, Outcome, becomes, session_of, with_session_at, is_live, world_ended_if, after_entry, after_settled_entry, outcome_of_frame, world_after_call, held_outcome, live_request_outcome, request_outcome, is_scene_due, is_nothing_due, empty_take_outcome, some_take_outcome, session_take_outcome, take_outcome, live_close_outcome, close_outcome, step, world_made}
use Rattle.nv_history.specs.Runs.{run_from}
use Rattle.nv_history.specs.Asking.{calls_in, calls_of}
use Rattle.nv_history.specs.Solo.{entry_alone, entries_if, solo_rest, solo_with_take, solo_with_request, solo_with_close, solo_from}
use Rattle.nv_history.specs.Laws.{RunsWhole, SoloRuns}
use Rattle.nv_history.proofs.Places.{set_here, get_after_call}
use Rattle.nv_history.proofs.Staging.{at_end_sessions, at_end_room, world_then}
use Rattle.nv_history.proofs.GoingOn.{IsOther, HearsOn, hears_quit, hears_call}

-- ---- session 1 after an entry
-- a session after the end of an entry
record EntryLeaves (x : Session) (w : World) : Type 0 where
  session : Session
  there : session_of w 1 ≡ Some session
  hears : HearsOn x session
  waits : session.waiting ≡ x.waiting

unless_waits : (c : Option Cause) (x y : Session) → y.waiting ≡ x.waiting → (unless_closed c y x).waiting ≡ x.waiting
unless_waits None x y e = e
unless_waits (Some c) x y e = refl

quit_waits : (at : ℕ) (x : Session) → (session_quit at x).waiting ≡ x.waiting
quit_waits at x = unless_waits x.closed x (session_closed_by (quit_at at) x) refl

same_hears : (x : Session) → HearsOn x x
same_hears x = record {
  more = [];
  waits = sym (append-nil x.waiting);
  stays = λ c e. (e, refl);
  other = λ c e f. absurd (none-some c (sym e ∙ f));
  same_shown = refl;
}

ended_leaves : (w : World) (x : Session) (b : Bool) → session_of w 1 ≡ Some x → EntryLeaves x (world_ended_if b w)
ended_leaves w x true e = record {
  session = session_quit w.entries x;
  there = slice_get-map (session_quit w.entries) w.sessions 0 ∙ ap (option_map (session_quit w.entries)) e;
  hears = hears_quit w.entries x;
  waits = quit_waits w.entries x;
}
ended_leaves w x false e = record { session = x; there = e; hears = same_hears x; waits = refl }

-- a world with the sessions at the end of an entry
end_leaves : (w v : World) (x : Session) → v.sessions ≡ (world_then w).sessions → session_of w 1 ≡ Some x → EntryLeaves x v
end_leaves w v x same e =
    let h = ended_leaves w x (w.entries + 1 == w.limits.entries) e in record {
      session = h.session;
      there = ap (λ (xs : List Session). slice_get xs 0) same ∙ h.there;
      hears = h.hears;
      waits = h.waits;
    }

entry_leaves : (w : World) (x : Session) → session_of w 1 ≡ Some x → EntryLeaves x (after_entry w)
entry_leaves w x e = end_leaves w (after_entry w) x (at_end_sessions false w) e

settled_entry_leaves : (w : World) (x : Session) (is_seen : Bool) → session_of w 1 ≡ Some x → EntryLeaves x (after_settled_entry is_seen w)
settled_entry_leaves w x is_seen e = end_leaves w (after_settled_entry is_seen w) x (at_end_sessions is_seen w) e

entry_room : (w : World) → (after_entry w).capacity ≡ w.capacity
entry_room w = at_end_room false w

-- another than its own close closes it
abbrev ByOthers : Session → Type 0
ByOthers x = (c : Cause) → x.closed ≡ Some c → IsOther c

others_on : (x y : Session) → HearsOn x y → ByOthers x → ByOthers y
others_on x y h is c e = by_cause x.closed refl
  where
    by_cause : (k : Option Cause) → x.closed ≡ k → IsOther c
    by_cause None f = h.other c f e
    by_cause (Some d) f = subst (λ (z : Cause). IsOther z) (same_Some d c (sym (h.stays d f).0 ∙ e)) (is d f)

-- ---- entries in front
runs_then : (w v : World) (event : Event) (calls : List Call) (entries : List Entry) → world_made (step w event) ≡ Some v → RunsWhole v calls entries
    → RunsWhole w (calls_in 1 event ++ calls) (entry_alone event ∷ entries)
runs_then w v event calls entries e h = record {
  last = h.last;
  runs = ap (option_and_then (λ (u : World). run_from u entries)) e ∙ h.runs;
  session = h.session;
  there = h.there;
  taken = h.taken;
  cause = h.cause;
  closed = h.closed;
  rest = h.rest;
  calls_are = ap (λ (l : List Call). calls_in 1 event ++ l) h.calls_are ∙ sym (append_assoc (calls_in 1 event) (calls_of 1 entries) h.rest);
  whole = h.whole;
}

not_own : (c : Cause) (entry : ℕ) {A : Type 0} → IsOther c → c ≡ closed_at entry → A
not_own c entry is e = absurd (subst (λ (d : Cause). IsOther d) e is)

-- the end, where another entry has closed the session
solo_ends : (w : World) (x : Session) (c : Cause) (calls : List Call) → session_of w 1 ≡ Some x → x.waiting ≡ [] → x.closed ≡ Some c → IsOther c → RunsWhole w calls []
solo_ends w x c calls e f g is = record {
  last = w;
  runs = refl;
  session = x;
  there = e;
  taken = f;
  cause = c;
  closed = g;
  rest = calls;
  calls_are = refl;
  whole = λ entry h. not_own c entry is h;
}

-- session 1 is there, open or closed by another entry, and nothing waits for it
record IsIdle (w : World) (x : Session) : Type 0 where
  there : session_of w 1 ≡ Some x
  taken : x.waiting ≡ []
  others : ByOthers x
  room : 0 < w.capacity

-- what follows, given for a session that isn't closed
abbrev Follows : (World → List Entry) → List Call → Type 0
Follows rest calls = (w : World) (x : Session) → IsIdle w x → x.closed ≡ None → RunsWhole w calls (rest w)

rest_runs : (rest : World → List Entry) (calls : List Call) (w : World) (x : Session) → Follows rest calls → IsIdle w x → RunsWhole w calls (solo_rest rest w)
rest_runs rest calls w x goes h =
    subst (λ (o : Option Session). RunsWhole w calls (entries_if (is_live o) (rest w))) (sym h.there) (by_cause x.closed refl)
  where
    by_cause : (c : Option Cause) → x.closed ≡ c → RunsWhole w calls (entries_if (not (is_some c)) (rest w))
    by_cause None e = goes w x h e
    by_cause (Some c) e = solo_ends w x c calls h.there h.taken e (h.others c e)

-- ---- a take
-- by what waits and whether a scene is due
take_step : (w : World) (x : Session) → session_of w 1 ≡ Some x → step w (take_of 1) ≡ session_take_outcome (is_scene_due w 1 x) w 1 x
take_step w x e = ap (λ (o : Option Session). take_outcome o w 1) e

none_waits : (ms : List Sent) (scene : Bool) → is_nothing_due ms scene ≡ true → ms ≡ []
none_waits [] scene e = refl
none_waits (m ∷ ms) scene e = cc

take_runs : (rest : World → List Entry) (calls : List Call) (w : World) (x : Session) (none scene : Bool) → session_of w 1 ≡ Some x
    → step w (take_of 1) ≡ some_take_outcome none scene w 1 x → (none ≡ true → x.waiting ≡ []) → ByOthers x → 0 < w.capacity
    → Follows rest calls → RunsWhole w calls (solo_with_take rest w (some_take_outcome none scene w 1 x))
take_runs rest calls w x true scene e f empty is room goes = by_cause x.closed
  where
    idle : IsIdle w x
    idle = record { there = e; taken = empty refl; others = is; room = room }

    by_cause : (c : Option Cause) → RunsWhole w calls (solo_with_take rest w (empty_take_outcome c))
    by_cause None = rest_runs rest calls w x goes idle
    by_cause (Some c) = rest_runs rest calls w x goes idle
take_runs rest calls w x false scene e f empty is room goes =
    let y : Session = session_emptied (shown_after scene w.stamp x.shown) x in
    let taken : World = with_session_at w 1 y in
    let h = entry_leaves taken y (set_here w.sessions 0 x y e) in
    let idle : IsIdle (after_entry taken) h.session = record {
      there = h.there;
      taken = h.waits;
      others = others_on y h.session h.hears is;
      room = subst (λ (c : ℕ). 0 < c) (sym (entry_room taken)) room;
    } in
    runs_then w (after_entry taken) (take_of 1) calls (solo_rest rest (after_entry taken)) (ap world_made f)
    (rest_runs rest calls (after_entry taken) h.session goes idle)

-- ---- a request
-- it is never held
request_step : (w : World) (x : Session) (call : Call) → IsIdle w x → x.closed ≡ None
    → step w (request_of 1 call)
    ≡ becomes (after_settled_entry (outcome_of_frame w.editor 1 call).is_seen (world_after_call w 1 call (outcome_of_frame w.editor 1 call))) done
request_step w x call h e =
    let low : nat_le w.capacity (2 * length x.waiting) ≡ false = grind (arith, nat_tests, h.room, ap (λ (l : List Sent). length l) h.taken) in
    ap (λ (o : Option Session). request_outcome o w 1 call) h.there
    ∙ ap (λ (c : Option Cause). live_request_outcome c w 1 x call) e
    ∙ ap (λ (b : Bool). held_outcome b w 1 x call) low

called_at : (w : World) (x : Session) (call : Call) (o : CallOutcome) → session_of w 1 ≡ Some x
    → session_of (world_after_call w 1 call o) 1 ≡ Some (session_after_call w.entries w.capacity true o.facts (reply_message call o.result) x)
called_at w x call o e =
    get_after_call w.entries w.capacity 1 1 o.facts (reply_message call o.result) w.sessions 0
    ∙ ap (option_map (session_after_call w.entries w.capacity true o.facts (reply_message call o.result))) e

request_runs : (rest : World → List Entry) (call : Call) (calls : List Call) (w : World) (x : Session) → IsIdle w x → x.closed ≡ None → Follows rest calls
    → RunsWhole w (call ∷ calls) (solo_with_request call rest (step w (request_of 1 call)))
request_runs rest call calls w x h e goes =
    let o : CallOutcome = outcome_of_frame w.editor 1 call in
    let made = request_step w x call h e in
    let called = world_after_call w 1 call (outcome_of_frame w.editor 1 call) in
    let y : Session = session_after_call w.entries w.capacity true (outcome_of_frame w.editor 1 call).facts (reply_message call (outcome_of_frame w.editor 1 call).result) x in
    let heard : HearsOn x y = hears_call w.entries w.capacity true (outcome_of_frame w.editor 1 call).facts (reply_message call (outcome_of_frame w.editor 1 call).result) x in
    let l = settled_entry_leaves (world_after_call w 1 call (outcome_of_frame w.editor 1 call)) y (outcome_of_frame w.editor 1 call).is_seen (called_at w x call (outcome_of_frame w.editor 1 call) h.there) in
    let v : World = after_settled_entry (outcome_of_frame w.editor 1 call).is_seen (world_after_call w 1 call (outcome_of_frame w.editor 1 call)) in
    let is : ByOthers l.session = others_on y l.session l.hears (others_on x y heard h.others) in
    let room : 0 < v.capacity =
    subst (λ (c : ℕ). 0 < c) (sym (at_end_room (outcome_of_frame w.editor 1 call).is_seen (world_after_call w 1 call (outcome_of_frame w.editor 1 call)))) h.room in
    let scene : Bool = is_scene_due v 1 l.session in
    let took : RunsWhole v calls (solo_with_take rest v (step v (take_of 1))) =
    subst (λ (z : Outcome). RunsWhole v calls (solo_with_take rest v z)) (sym (take_step v l.session l.there))
    (take_runs rest calls v l.session (is_nothing_due l.session.waiting scene) scene l.there (take_step v l.session l.there)
    (none_waits l.session.waiting scene) is room goes) in
    subst (λ (z : Outcome). RunsWhole w (call ∷ calls) (solo_with_request call rest z)) (sym made)
    (runs_then w v (request_of 1 call) calls (solo_with_take rest v (step v (take_of 1))) (ap world_made made) took)

-- ---- the close
close_step : (w : World) (x : Session) → session_of w 1 ≡ Some x → x.closed ≡ None
    → step w (close_of 1) ≡ becomes (after_settled_entry false (with_session_at w 1 (session_closed_by (closed_at w.entries) x))) closes
close_step w x e f =
    ap (λ (o : Option Session). close_outcome o w 1) e ∙ ap (λ (c : Option Cause). live_close_outcome c w 1 x) f

close_runs : (w : World) (x : Session) → IsIdle w x → x.closed ≡ None → RunsWhole w [] (solo_with_close (step w (close_of 1)))
close_runs w x h e =
    let y : Session = session_closed_by (closed_at w.entries) x in
    let l = settled_entry_leaves (with_session_at w 1 y) y false (set_here w.sessions 0 x y h.there) in
    let made = close_step w x h.there e in
    subst (λ (z : Outcome). RunsWhole w [] (solo_with_close z)) (sym made)
    (runs_then w (after_settled_entry false (with_session_at w 1 y)) (close_of 1) [] [] (ap world_made made)
    (record {
      last = after_settled_entry false (with_session_at w 1 y);
      runs = refl;
      session = l.session;
      there = l.there;
      taken = l.waits ∙ h.taken;
      cause = closed_at w.entries;
      closed = (l.hears.stays (closed_at w.entries) refl).0;
      rest = [];
      calls_are = refl;
      whole = λ entry f. refl;
    }))

-- ---- all of it
solo_from_runs : (calls : List Call) (w : World) (x : Session) → IsIdle w x → x.closed ≡ None → RunsWhole w calls (solo_from w calls)
solo_from_runs [] w x h e = close_runs w x h e
solo_from_runs (call ∷ calls) w x h e = request_runs (λ v. solo_from v calls) call calls w x h e (λ v y i f. solo_from_runs calls v y i f)

pub solo_runs : SoloRuns
unfolding SoloRuns
solo_runs capacity limits calls room =
    let w : World = fresh_world capacity limits in
    let started : World = record w { sessions = fresh_session ∷ [] } in
    let l = entry_leaves started fresh_session refl in
    let idle : IsIdle (after_entry started) l.session = record {
      there = l.there;
      taken = l.waits;
      others = others_on fresh_session l.session l.hears (λ c e. absurd (none-some c e));
      room = subst (λ (c : ℕ). 0 < c) (sym (entry_room started)) room;
    } in
    runs_then w (after_entry started) open_session calls (solo_rest (λ v. solo_from v calls) (after_entry started)) refl
    (rest_runs (λ v. solo_from v calls) calls (after_entry started) l.session (λ v y i f. solo_from_runs calls v y i f) idle)
