-- The end of an entry in the model: UIs that go with their sessions, windows that settle, and the stamp.
use Rattle.std.proofs.Common.{◌≡◌, ℕ, zero, suc, ◌+◌, ◌≤◌, eqb, slice_get, List, [], ◌∷◌, ◌++◌, map, filter, set, refl, ap, sym, ◌∙◌, subst, arith, Bool, true, false, not, ◌||◌, cond, Option, Some, None, is_some}
use Rattle.std.specs.Prelude.{flat_map, ◌==◌}
use Rattle.std.specs.List.{AllByRecursion}
use Rattle.std.proofs.lemmas.Bool.Decides.{nat_tests}
use Rattle.nv_windows.specs.declared.window.Window.{Window}
use Rattle.nv_model.specs.Editors.{ModelEditor, fresh_editor}
use Rattle.nv_model.specs.Operations.{Operation, top_put, with_stage, after_operation, after_operations}
use Rattle.nv_model.specs.Seen.{Seen, seen_of}
use Rattle.nv_model.specs.Stage.{Stage, with_uis, other_uis}
use Rattle.nv_model.specs.declared.parts.Limits.{Limits}
use Rattle.nv_model.specs.declared.parts.Ui.{Ui}
use Rattle.nv_scene.specs.Settling.{IsSettled, top_of, window_settling}
use Rattle.nv_history.specs.Sessions.{Session, fresh_session, session_quit}
use Rattle.nv_history.specs.Worlds.{World, is_live, session_of, with_session_at, sessions_losing_uis, world_counted, world_ended_if, world_stamped_if, world_without_uis, world_at_end, after_entry, settled_editor}
use Rattle.nv_history.proofs.LiveUis.{entry_live}
use Rattle.nv_world.specs.inside.Showings.{has_any, editor_without_uis}
use Rattle.nv_world.specs.inside.States.{OnlyLiveHaveUis}
use Rattle.nv_world.proofs.Stating.{quit_closed}

-- ---- settling
pub fresh_settled : (limits : Limits) → IsSettled (seen_of (fresh_editor limits))
fresh_settled limits = refl

pub settled_same : (m : ModelEditor) → IsSettled (seen_of m) → settled_editor m ≡ m
settled_same m settled = ap (λ (cs : List Operation). after_operations cs m) settled

settle_step : (s : Seen) (w : Window) (ws : List Window) (m : ModelEditor) (b : Bool)
    → ((k : ModelEditor) → (after_operations (flat_map (window_settling s) ws) k).buffers ≡ k.buffers)
    → (after_operations (cond b [] (top_put w.handle (top_of s w) ∷ []) ++ flat_map (window_settling s) ws) m).buffers ≡ m.buffers
settle_step s w ws m true rest = rest m
settle_step s w ws m false rest = rest (after_operation (top_put w.handle (top_of s w)) m)

settles_buffers : (s : Seen) (ws : List Window) (m : ModelEditor) → (after_operations (flat_map (window_settling s) ws) m).buffers ≡ m.buffers
settles_buffers s [] m = refl
settles_buffers s (w ∷ ws) m = settle_step s w ws m (top_of s w == w.top) (settles_buffers s ws)

pub settled_buffers : (m : ModelEditor) → (settled_editor m).buffers ≡ m.buffers
settled_buffers m = settles_buffers (seen_of m) m.stage.workspace.windows m

-- ---- UIs that go
pub without_buffers : (ss : List ℕ) (m : ModelEditor) → (editor_without_uis ss m).buffers ≡ m.buffers
without_buffers [] m = refl
without_buffers (s ∷ ss) m = refl

pub without_editor : (is_seen : Bool) (ss : List ℕ) (w : World) → (world_without_uis is_seen ss w).editor ≡ editor_without_uis ss w.editor
without_editor true [] w = refl
without_editor false [] w = refl
without_editor is_seen (s ∷ ss) w = refl

-- all but editor and stamp stay
pub without_is : (is_seen : Bool) (ss : List ℕ) (w : World)
    → world_without_uis is_seen ss w ≡ record w { editor = editor_without_uis ss w.editor; stamp = cond (is_seen || has_any ss) (w.stamp + 1) w.stamp }
without_is true [] w = refl
without_is false [] w = refl
without_is true (s ∷ ss) w = refl
without_is false (s ∷ ss) w = refl

-- ---- where none goes, and where all do
abbrev live_in : World → Ui → Bool
live_in w u = is_live (session_of w u.session)

none_lost : (live : Ui → Bool) (us : List Ui) → AllByRecursion (λ u. live u ≡ true) us
    → map (λ (u : Ui). u.session) (filter (λ u. not (live u)) us) ≡ []
none_lost live [] h = refl
none_lost live (u ∷ us) h =
    ap (λ (b : Bool). map (λ (v : Ui). v.session) (cond (not b) (u ∷ filter (λ v. not (live v)) us) (filter (λ v. not (live v)) us))) h.0
    ∙ none_lost live us h.1

pub none_loses : (w : World) → OnlyLiveHaveUis w → sessions_losing_uis w ≡ []
none_loses w live = none_lost (live_in w) w.editor.stage.uis live

not_both : (b : Bool) {A : Type 0} → b ≡ true → b ≡ false → A
not_both true e f = absurd cc
not_both false e f = absurd cc

none_left : (live : Ui → Bool) (us : List Ui) → ((u : Ui) → live u ≡ false) → AllByRecursion (λ u. live u ≡ true) us → us ≡ []
none_left live [] dead h = refl
none_left live (u ∷ us) dead h = not_both (live u) h.0 (dead u)

quit_at_place : (at : ℕ) (ys : List Session) (p : ℕ) → is_live (slice_get (map (session_quit at) ys) p) ≡ false
quit_at_place at [] p = refl
quit_at_place at (y ∷ ys) zero = ap not (quit_closed at y)
quit_at_place at (y ∷ ys) (suc p) = quit_at_place at ys p

quit_not_live : (at : ℕ) (ys : List Session) (x : World) (s : ℕ) → x.sessions ≡ map (session_quit at) ys → is_live (session_of x s) ≡ false
quit_not_live at ys x zero e = refl
quit_not_live at ys x (suc p) e = ap (λ (l : List Session). is_live (slice_get l p)) e ∙ quit_at_place at ys p

uis_with : (us : List Ui) (stage : Stage) → (with_uis us stage).uis ≡ us
uis_with [] stage = refl
uis_with (u ∷ us) stage = refl

-- where all UIs go the screen keeps its size, and each window its first row
settled_without : (m : ModelEditor) (us : List Ui) → us ≡ [] → IsSettled (seen_of m) → IsSettled (seen_of (with_stage (λ stage. with_uis us stage) m))
settled_without m us none settled = subst (λ (l : List Ui). IsSettled (seen_of (with_stage (λ stage. with_uis l stage) m))) (sym none) settled

all_go : (ss : List ℕ) (v : World) → (world_without_uis false ss v).editor.stage.uis ≡ [] → IsSettled (seen_of v.editor)
    → IsSettled (seen_of (world_without_uis false ss v).editor)
all_go [] v none settled = settled
all_go (s ∷ ss) v none settled =
    settled_without v.editor (other_uis (s ∷ ss) v.editor.stage.uis) (sym (uis_with (other_uis (s ∷ ss) v.editor.stage.uis) v.editor.stage) ∙ none) settled

pub without_sessions : (is_seen : Bool) (ss : List ℕ) (w : World) → (world_without_uis is_seen ss w).sessions ≡ w.sessions
without_sessions is_seen ss w = ap (λ (v : World). v.sessions) (without_is is_seen ss w)

-- the world at the end of an entry that ends the editor, or doesn't
abbrev ended_by : Bool → World → World
ended_by b w = world_counted (world_without_uis false (sessions_losing_uis (world_ended_if b w)) (world_ended_if b w))

pub entry_settled : (w : World) → OnlyLiveHaveUis w → IsSettled (seen_of w.editor) → IsSettled (seen_of (after_entry w).editor)
entry_settled w live settled = by (w.entries + 1 == w.limits.entries) refl
  where
    by : (b : Bool) → (w.entries + 1 == w.limits.entries) ≡ b → IsSettled (seen_of (ended_by b w).editor)
    by false e = subst (λ (ss : List ℕ). IsSettled (seen_of (world_without_uis false ss w).editor)) (sym (none_loses w live)) settled
    by true e =
        let v : World = world_ended_if true w in
        let only : OnlyLiveHaveUis (ended_by true w) = subst (λ (b : Bool). OnlyLiveHaveUis (ended_by b w)) e (entry_live w) in
        all_go (sessions_losing_uis v) v
        (none_left (live_in (ended_by true w)) (ended_by true w).editor.stage.uis
        (λ u. quit_not_live w.entries w.sessions (ended_by true w) u.session (without_sessions false (sessions_losing_uis v) v)) only) settled

-- ---- live sessions stay live
live_kept : (w v : World) (us : List Ui) → ((s : ℕ) → is_live (session_of w s) ≡ true → is_live (session_of v s) ≡ true)
    → AllByRecursion (λ u. live_in w u ≡ true) us → AllByRecursion (λ u. live_in v u ≡ true) us
live_kept w v [] each h = tt
live_kept w v (u ∷ us) each h = (each u.session h.0, live_kept w v us each h.1)

pub opened_live : (w : World) → OnlyLiveHaveUis w → OnlyLiveHaveUis (record w { sessions = w.sessions ++ fresh_session ∷ [] })
opened_live w live = live_kept w (record w { sessions = w.sessions ++ fresh_session ∷ [] }) w.editor.stage.uis by_number live
  where
    by_place : (ys : List Session) (p : ℕ) → is_live (slice_get ys p) ≡ true → is_live (slice_get (ys ++ fresh_session ∷ []) p) ≡ true
    by_place [] p h = absurd cc
    by_place (y ∷ ys) zero h = h
    by_place (y ∷ ys) (suc p) h = by_place ys p h

    by_number : (s : ℕ) → is_live (session_of w s) ≡ true → is_live (session_of (record w { sessions = w.sessions ++ fresh_session ∷ [] }) s) ≡ true
    by_number zero h = h
    by_number (suc p) h = by_place w.sessions p h

pub taken_live : (w : World) (place : ℕ) (y z : Session) → slice_get w.sessions place ≡ Some y → z.closed ≡ y.closed → OnlyLiveHaveUis w
    → OnlyLiveHaveUis (with_session_at w (suc place) z)
taken_live w place y z there same live = live_kept w (with_session_at w (suc place) z) w.editor.stage.uis by_number live
  where
    by_place : (ys : List Session) (p i : ℕ) → slice_get ys p ≡ Some y → is_live (slice_get ys i) ≡ true → is_live (slice_get (set ys p z) i) ≡ true
    by_place [] p i e h = h
    by_place (v ∷ ys) zero zero e h =
        let f : v ≡ y = cc in
        ap (λ (o : Option _). not (is_some o)) (same ∙ ap (λ (u : Session). u.closed) (sym f)) ∙ h
    by_place (v ∷ ys) zero (suc i) e h = h
    by_place (v ∷ ys) (suc p) zero e h = h
    by_place (v ∷ ys) (suc p) (suc i) e h = by_place ys p i e h

    by_number : (s : ℕ) → is_live (session_of w s) ≡ true → is_live (session_of (with_session_at w (suc place) z) s) ≡ true
    by_number zero h = h
    by_number (suc i) h = by_place w.sessions place i there h

-- a session that has no UI may be closed
pub closed_live : (w : World) (place : ℕ) (z : Session) → AllByRecursion (λ u. eqb u.session (suc place) ≡ false) w.editor.stage.uis → OnlyLiveHaveUis w
    → OnlyLiveHaveUis (with_session_at w (suc place) z)
closed_live w place z apart live = all w.editor.stage.uis apart live
  where
    itself : (n : ℕ) → eqb n n ≡ true
    itself n = grind (arith, nat_tests)

    lower : (i p : ℕ) → eqb (suc (suc i)) (suc (suc p)) ≡ false → eqb (suc i) (suc p) ≡ false
    lower i p e = grind (arith, nat_tests)

    by_place : (ys : List Session) (p i : ℕ) → eqb (suc i) (suc p) ≡ false → is_live (slice_get ys i) ≡ true → is_live (slice_get (set ys p z) i) ≡ true
    by_place [] p i e h = h
    by_place (v ∷ ys) zero zero e h = not_both (eqb 1 1) (itself 1) e
    by_place (v ∷ ys) zero (suc i) e h = h
    by_place (v ∷ ys) (suc p) zero e h = h
    by_place (v ∷ ys) (suc p) (suc i) e h = by_place ys p i (lower i p e) h

    by_number : (s : ℕ) → eqb s (suc place) ≡ false → is_live (session_of w s) ≡ true → is_live (session_of (with_session_at w (suc place) z) s) ≡ true
    by_number zero e h = h
    by_number (suc i) e h = by_place w.sessions place i e h

    all : (us : List Ui) → AllByRecursion (λ u. eqb u.session (suc place) ≡ false) us → AllByRecursion (λ u. live_in w u ≡ true) us
        → AllByRecursion (λ u. live_in (with_session_at w (suc place) z) u ≡ true) us
    all [] a h = tt
    all (u ∷ us) a h = (by_number u.session a.0 h.0, all us a.1 h.1)
