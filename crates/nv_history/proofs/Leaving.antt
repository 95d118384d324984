-- Which entries leave the editor, and which settle its windows.
use Rattle.std.proofs.Common.{◌≡◌, ◌≢◌, ℕ, zero, suc, ◌+◌, slice_get, slice_set, List, [], ◌∷◌, ◌++◌, map, refl, ap, sym, ◌∙◌, subst, arith, Bool, true, false, not, cond, filter, Option, Some, None}
use Rattle.std.specs.Prelude.{option_map, is_some, ◌==◌}
use Rattle.std.specs.List.{AllByRecursion}
use Rattle.std.proofs.lemmas.Option.{none-some, slice_get-map}
use Rattle.std.proofs.lemmas.Bool.Decides.{nat_tests}
use Rattle.nv_model.specs.Editors.{ModelEditor}
use Rattle.nv_model.specs.Seen.{seen_of}
use Rattle.nv_model.specs.Stage.{with_uis, other_uis}
use Rattle.nv_model.specs.declared.parts.Ui.{Ui}
use Rattle.nv_scene.specs.Settling.{IsSettled}
use Rattle.nv_history.specs.Events.{Event, open_session, request_of, take_of, close_of, Cause, closed_at, quit_at}
use Rattle.nv_history.specs.Sessions.{Session, fresh_session, session_closed_by, shown_after, session_emptied, unless_closed, session_quit}
use Rattle.nv_history.specs.Worlds.{World, settled_editor, fresh_world, session_of, with_session_at, world_ended_if, is_live, sessions_losing_uis, world_without_uis, world_at_end, after_entry, after_settled_entry, outcome_of_frame, world_after_call, is_scene_due, step, world_made}
use Rattle.nv_history.specs.UiLaws.{IsOpeningOrTake, LeavesEditor, OpeningsAndTakesLeave, IsRequestOrClose, RequestsAndClosesSettle}
use Rattle.nv_history.proofs.Places.{set_here, set_there, get_push}
use Rattle.nv_history.proofs.LiveUis.{AreLive, losing, live_in, OnlyLive, run_live, left_live, all_lost, Lost}
use Rattle.nv_history.proofs.Makings.{step_makes}

-- ---- no UI is lost where all are of live sessions
none_losing : (live : Ui → Bool) (us : List Ui) → AreLive live us → losing live us ≡ []
none_losing live [] h = refl
none_losing live (u ∷ us) h =
    ap (λ (b : Bool). map (λ (v : Ui). v.session) (cond (not b) (u ∷ filter (λ v. not (live v)) us) (filter (λ v. not (live v)) us))) h.0
    ∙ none_losing live us h.1

-- an entry behind which the editor goes on
goes_on : (u : World) → OnlyLive u → (u.entries + 1 == u.limits.entries) ≡ false → ((after_entry u).editor ≡ u.editor) × ((after_entry u).stamp ≡ u.stamp)
goes_on u h e =
    let same : world_at_end false u ≡ u =
    ap (λ (b : Bool). world_without_uis false (sessions_losing_uis (world_ended_if b u)) (world_ended_if b u)) e
    ∙ ap (λ (ss : List ℕ). world_without_uis false ss u) (none_losing (live_in u) u.editor.stage.uis h) in
    (ap (λ (x : World). x.editor) same, ap (λ (x : World). x.stamp) same)

-- ---- the end of the editor
not_live : (at : ℕ) (x : Session) (c : Option Cause) → x.closed ≡ c → is_some (unless_closed c (session_closed_by (quit_at at) x) x).closed ≡ true
not_live at x None e = refl
not_live at x (Some c) e = ap is_some e

quit_ends : (at : ℕ) (o : Option Session) → is_live (option_map (session_quit at) o) ≡ false
quit_ends at None = refl
quit_ends at (Some x) = ap not (not_live at x x.closed refl)

none_live : (u : World) (n : ℕ) → is_live (session_of (world_ended_if true u) n) ≡ false
none_live u zero = refl
none_live u (suc p) = ap is_live (slice_get-map (session_quit u.entries) u.sessions p) ∙ quit_ends u.entries (slice_get u.sessions p)

not_both : (b : Bool) {A : Type 0} → b ≡ true → b ≡ false → A
not_both true e f = absurd cc
not_both false e f = absurd cc

none_left : (u : World) (us : List Ui) → AreLive (live_in (world_ended_if true u)) us → us ≡ []
none_left u [] h = refl
none_left u (v ∷ us) h = not_both (live_in (world_ended_if true u) v) h.0 (none_live u v.session)

-- windows that are settled stay so without UIs
settled_without : (m : ModelEditor) (us : List Ui) → us ≡ [] → IsSettled (seen_of m) → IsSettled (seen_of (record m { stage = with_uis us m.stage }))
settled_without m us e h = subst (λ (vs : List Ui). IsSettled (seen_of (record m { stage = with_uis vs m.stage }))) (sym e) h

ends_settled : (u : World) (ss : List ℕ) → sessions_losing_uis (world_ended_if true u) ≡ ss → IsSettled (seen_of u.editor)
    → IsSettled (seen_of (world_without_uis false ss (world_ended_if true u)).editor)
ends_settled u [] e h = h
ends_settled u (s ∷ ss) e h =
    settled_without u.editor (other_uis (s ∷ ss) u.editor.stage.uis)
    (none_left u (other_uis (s ∷ ss) u.editor.stage.uis)
    (left_live (live_in (world_ended_if true u)) (s ∷ ss) u.editor.stage.uis
    (subst (λ (l : List ℕ). AllByRecursion (Lost (live_in (world_ended_if true u)) l) u.editor.stage.uis) e (all_lost (live_in (world_ended_if true u)) u.editor.stage.uis)))) h

by_end : (u : World) (b : Bool) → OnlyLive u → IsSettled (seen_of u.editor) → IsSettled (seen_of (world_without_uis false (sessions_losing_uis (world_ended_if b u)) (world_ended_if b u)).editor)
by_end u true live h = ends_settled u (sessions_losing_uis (world_ended_if true u)) refl h
by_end u false live h =
    subst (λ (ss : List ℕ). IsSettled (seen_of (world_without_uis false ss u).editor)) (sym (none_losing (live_in u) u.editor.stage.uis live)) h

-- ---- an opening and a take
pub grown_live : (w : World) (us : List Ui) → AreLive (live_in w) us → AreLive (live_in (record w { sessions = w.sessions ++ fresh_session ∷ [] })) us
grown_live w [] h = tt
grown_live w (u ∷ us) h = (by_number u.session h.0, grown_live w us h.1)
  where
    by_number : (n : ℕ) → is_live (session_of w n) ≡ true → is_live (session_of (record w { sessions = w.sessions ++ fresh_session ∷ [] }) n) ≡ true
    by_number zero k = k
    by_number (suc p) k = get_push (λ (o : Option Session). is_live o ≡ true) w.sessions fresh_session p (λ e. refl) k

set_alive : (xs : List Session) (p i : ℕ) (x y : Session) → slice_get xs p ≡ Some x → y.closed ≡ x.closed → (b : Bool) → (p == i) ≡ b
    → is_live (slice_get (slice_set xs p y) i) ≡ is_live (slice_get xs i)
set_alive xs p i x y e f true same =
    let here : p ≡ i = grind (arith, nat_tests) in
    subst (λ (j : ℕ). is_live (slice_get (slice_set xs p y) j) ≡ is_live (slice_get xs j)) here
    (ap is_live (set_here xs p x y e) ∙ ap (λ (c : Option Cause). not (is_some c)) f ∙ sym (ap is_live e))
set_alive xs p i x y e f false same =
    let apart : p ≢ i = λ (k : p ≡ i). grind (arith, nat_tests) in
    ap is_live (set_there xs p i y apart)

set_same : (w : World) (s n : ℕ) (x y : Session) → session_of w s ≡ Some x → y.closed ≡ x.closed → is_live (session_of (with_session_at w s y) n) ≡ is_live (session_of w n)
set_same w zero n x y e f = absurd (none-some x e)
set_same w (suc p) zero x y e f = refl
set_same w (suc p) (suc i) x y e f = set_alive w.sessions p i x y e f (p == i) refl

set_live : (w : World) (s : ℕ) (x y : Session) (us : List Ui) → session_of w s ≡ Some x → y.closed ≡ x.closed → AreLive (live_in w) us → AreLive (live_in (with_session_at w s y)) us
set_live w s x y [] e f h = tt
set_live w s x y (u ∷ us) e f h = (set_same w s u.session x y e f ∙ h.0, set_live w s x y us e f h.1)

-- a world whose entry it is, with the editor, the stamp and the count of another
pub record GoesOnAs (w u : World) : Type 0 where
  pub editor : u.editor ≡ w.editor
  pub stamp : u.stamp ≡ w.stamp
  pub last : (u.entries + 1 == u.limits.entries) ≡ (w.entries + 1 == w.limits.entries)
  pub live : OnlyLive u

pub leaves_by : (w u v : World) → GoesOnAs w u → v ≡ after_entry u → LeavesEditor w v
leaves_by w u v g e =
    subst (λ (x : World). LeavesEditor w x) (sym e) (record {
      same = λ more. let on = goes_on u g.live (g.last ∙ more) in (on.0 ∙ g.editor, on.1 ∙ g.stamp);
      settled = λ h.
          by_end u (u.entries + 1 == u.limits.entries) g.live (subst (λ (m : ModelEditor). IsSettled (seen_of m)) (sym g.editor) h);
    })

pub set_as : (w : World) (s : ℕ) (x y : Session) → session_of w s ≡ Some x → y.closed ≡ x.closed → OnlyLive w → GoesOnAs w (with_session_at w s y)
set_as w zero x y e f h = absurd (none-some x e)
set_as w (suc p) x y e f h = record { editor = refl; stamp = refl; last = refl; live = set_live w (suc p) x y w.editor.stage.uis e f h }

leaves : (w v : World) (event : Event) → OnlyLive w → IsOpeningOrTake event → world_made (step w event) ≡ Some v → LeavesEditor w v
leaves w v open_session h is e =
    leaves_by w (record w { sessions = w.sessions ++ fresh_session ∷ [] }) v
    (record { editor = refl; stamp = refl; last = refl; live = grown_live w w.editor.stage.uis h }) (step_makes w v open_session e)
leaves w v (request_of s call) h is e = absurd is
leaves w v (take_of s) h is e =
    let made = step_makes w v (take_of s) e in
    let x : Session = made.session in
    leaves_by w (with_session_at w s (session_emptied (shown_after (is_scene_due w s made.session) w.stamp made.session.shown) made.session)) v
    (set_as w s made.session (session_emptied (shown_after (is_scene_due w s made.session) w.stamp made.session.shown) made.session) made.there refl h) made.made
leaves w v (close_of s) h is e = absurd is

pub openings_and_takes_leave : OpeningsAndTakesLeave
unfolding OpeningsAndTakesLeave
openings_and_takes_leave capacity limits history w v event runs is e = leaves w v event (run_live (fresh_world capacity limits) w history tt runs) is e

-- ---- a request and a close
settled_by : (is_seen : Bool) (u v : World) → v ≡ after_settled_entry is_seen u → (m : ModelEditor) × (v.editor ≡ settled_editor m)
settled_by is_seen u v e = ((world_at_end is_seen u).editor, ap (λ (x : World). x.editor) e)

settles : (w v : World) (event : Event) → IsRequestOrClose event → world_made (step w event) ≡ Some v → (m : ModelEditor) × (v.editor ≡ settled_editor m)
settles w v open_session is e = absurd is
settles w v (request_of s call) is e =
    settled_by (outcome_of_frame w.editor s call).is_seen (world_after_call w s call (outcome_of_frame w.editor s call)) v (step_makes w v (request_of s call) e).made
settles w v (take_of s) is e = absurd is
settles w v (close_of s) is e = settled_by false (with_session_at w s (session_closed_by (closed_at w.entries) (step_makes w v (close_of s) e).session)) v (step_makes w v (close_of s) e).made

pub requests_and_closes_settle : RequestsAndClosesSettle
unfolding RequestsAndClosesSettle
requests_and_closes_settle w v event is e = settles w v event is e
