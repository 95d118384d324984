-- No session that is closed has a UI.
use Rattle.std.proofs.Common.{◌≡◌, ℕ, zero, suc, slice_get, List, [], ◌∷◌, ◌++◌, map, refl, ap, sym, ◌∙◌, subst, arith, Bool, true, false, not, cond, filter, Some}
use Rattle.std.specs.Prelude.{flat_map, ◌==◌, ◌||◌}
use Rattle.std.specs.List.{list_any, AllByRecursion}
use Rattle.std.proofs.lemmas.Bool.Decides.{nat_tests}
use Rattle.nv_windows.specs.declared.window.Window.{Window}
use Rattle.nv_model.specs.Editors.{ModelEditor}
use Rattle.nv_model.specs.Operations.{top_put, after_operation, after_operations}
use Rattle.nv_model.specs.Seen.{Seen, seen_of}
use Rattle.nv_model.specs.Stage.{Stage, with_uis, other_uis}
use Rattle.nv_model.specs.declared.parts.Ui.{Ui}
use Rattle.nv_editor.specs.Uis.{has_ui}
use Rattle.nv_scene.specs.Settling.{top_of, window_settling}
use Rattle.nv_history.specs.Events.{Event, open_session, request_of, take_of, close_of, Entry}
use Rattle.nv_history.specs.Sessions.{Session, fresh_session}
use Rattle.nv_history.specs.Worlds.{World, fresh_world, session_of, is_live, sessions_losing_uis, world_without_uis, world_at_end, settled_editor, after_entry, after_settled_entry, with_session_at, outcome_of_frame, world_after_call}
use Rattle.nv_history.specs.Runs.{run_from}
use Rattle.nv_history.specs.UiLaws.{UisAreOfLive}
use Rattle.nv_history.proofs.Staging.{world_then, at_end_sessions}
use Rattle.nv_history.proofs.Makings.{Makes, run_keeps}

-- ---- UIs but those of the sessions that aren't live
abbrev pub AreLive : (Ui → Bool) → List Ui → Type 0
AreLive live us = AllByRecursion (λ u. live u ≡ true) us

abbrev pub losing : (Ui → Bool) → List Ui → List ℕ
losing live us = map (λ u. u.session) (filter (λ u. not (live u)) us)

abbrev pub Lost : (Ui → Bool) → List ℕ → Ui → Type 0
Lost live ss u = live u ≡ false → list_any (λ s. s == u.session) ss ≡ true

-- where none is lost
none_step : (live : Ui → Bool) (u : Ui) (us : List Ui) (b : Bool) → live u ≡ b
    → map (λ (v : Ui). v.session) (cond (not b) (u ∷ filter (λ v. not (live v)) us) (filter (λ v. not (live v)) us)) ≡ []
    → (losing live us ≡ [] → AreLive live us) → AreLive live (u ∷ us)
none_step live u us true is e rest = (is, rest e)
none_step live u us false is e rest = absurd cc

none_lost : (live : Ui → Bool) (us : List Ui) → losing live us ≡ [] → AreLive live us
none_lost live [] e = tt
none_lost live (u ∷ us) e = none_step live u us (live u) refl e (none_lost live us)

-- each one that isn't live is lost
or_true : (b c : Bool) → c ≡ true → (b || c) ≡ true
or_true true c f = refl
or_true false c f = f

lost_step : (live : Ui → Bool) (s : ℕ) (ss : List ℕ) (us : List Ui) → AllByRecursion (Lost live ss) us → AllByRecursion (Lost live (s ∷ ss)) us
lost_step live s ss [] h = tt
lost_step live s ss (u ∷ us) h = (λ e. or_true (s == u.session) (list_any (λ t. t == u.session) ss) (h.0 e), lost_step live s ss us h.1)

itself : (n : ℕ) (b : Bool) → ((n == n) || b) ≡ true
itself n b = let same : (n == n) ≡ true = grind (arith, nat_tests) in ap (λ (t : Bool). t || b) same

not_both : (b : Bool) {A : Type 0} → b ≡ true → b ≡ false → A
not_both true e f = absurd cc
not_both false e f = absurd cc

all_step : (live : Ui → Bool) (u : Ui) (us : List Ui) (b : Bool) → live u ≡ b → AllByRecursion (Lost live (losing live us)) us
    → AllByRecursion (Lost live (map (λ (v : Ui). v.session) (cond (not b) (u ∷ filter (λ v. not (live v)) us) (filter (λ v. not (live v)) us)))) (u ∷ us)
all_step live u us true is h = (λ e. not_both (live u) is e, h)
all_step live u us false is h = (λ e. itself u.session (list_any (λ s. s == u.session) (losing live us)), lost_step live u.session (losing live us) us h)

pub all_lost : (live : Ui → Bool) (us : List Ui) → AllByRecursion (Lost live (losing live us)) us
all_lost live [] = tt
all_lost live (u ∷ us) = all_step live u us (live u) refl (all_lost live us)

-- those that are left are live
left_step : (live : Ui → Bool) (ss : List ℕ) (u : Ui) (us : List Ui) (b : Bool) → list_any (λ s. s == u.session) ss ≡ b → Lost live ss u → AreLive live (other_uis ss us)
    → AreLive live (cond (not b) (u ∷ other_uis ss us) (other_uis ss us))
left_step live ss u us true is lost h = h
left_step live ss u us false is lost h = (by_live (live u) refl, h)
  where
    by_live : (b : Bool) → live u ≡ b → live u ≡ true
    by_live true e = e
    by_live false e = not_both (list_any (λ s. s == u.session) ss) (lost e) is

pub left_live : (live : Ui → Bool) (ss : List ℕ) (us : List Ui) → AllByRecursion (Lost live ss) us → AreLive live (other_uis ss us)
left_live live ss [] h = tt
left_live live ss (u ∷ us) h = left_step live ss u us (list_any (λ s. s == u.session) ss) refl h.0 (left_live live ss us h.1)

-- ---- the UIs of a world
abbrev pub live_in : World → Ui → Bool
live_in w u = is_live (session_of w u.session)

same_session : (w v : World) (n : ℕ) → v.sessions ≡ w.sessions → session_of v n ≡ session_of w n
same_session w v zero e = refl
same_session w v (suc p) e = ap (λ (xs : List Session). slice_get xs p) e

carried : (w v : World) (us : List Ui) → v.sessions ≡ w.sessions → AreLive (live_in w) us → AreLive (live_in v) us
carried w v [] e h = tt
carried w v (u ∷ us) e h = (ap is_live (same_session w v u.session e) ∙ h.0, carried w v us e h.1)

uis_with : (us : List Ui) (stage : Stage) → (with_uis us stage).uis ≡ us
uis_with [] stage = refl
uis_with (u ∷ us) stage = refl

without_live : (is_seen : Bool) (w : World) (ss : List ℕ) → sessions_losing_uis w ≡ ss → AreLive (live_in w) (world_without_uis is_seen ss w).editor.stage.uis
without_live true w [] e = none_lost (live_in w) w.editor.stage.uis e
without_live false w [] e = none_lost (live_in w) w.editor.stage.uis e
without_live is_seen w (s ∷ ss) e =
    subst (λ (us : List Ui). AreLive (live_in w) us) (sym (uis_with (other_uis (s ∷ ss) w.editor.stage.uis) w.editor.stage))
    (left_live (live_in w) (s ∷ ss) w.editor.stage.uis
    (subst (λ (l : List ℕ). AllByRecursion (Lost (live_in w) l) w.editor.stage.uis) e (all_lost (live_in w) w.editor.stage.uis)))

-- settling leaves the UIs
settle_step : (s : Seen) (w : Window) (ws : List Window) (m : ModelEditor) (b : Bool)
    → ((k : ModelEditor) → (after_operations (flat_map (window_settling s) ws) k).stage.uis ≡ k.stage.uis)
    → (after_operations (cond b [] (top_put w.handle (top_of s w) ∷ []) ++ flat_map (window_settling s) ws) m).stage.uis ≡ m.stage.uis
settle_step s w ws m true rest = rest m
settle_step s w ws m false rest = rest (after_operation (top_put w.handle (top_of s w)) m)

settles_uis : (s : Seen) (ws : List Window) (m : ModelEditor) → (after_operations (flat_map (window_settling s) ws) m).stage.uis ≡ m.stage.uis
settles_uis s [] m = refl
settles_uis s (w ∷ ws) m = settle_step s w ws m (top_of s w == w.top) (settles_uis s ws)

pub settled_uis : (m : ModelEditor) → (settled_editor m).stage.uis ≡ m.stage.uis
settled_uis m = settles_uis (seen_of m) m.stage.workspace.windows m

-- ---- after each entry
abbrev pub OnlyLive : World → Type 0
OnlyLive w = AreLive (live_in w) w.editor.stage.uis

pub entry_live : (w : World) → OnlyLive (after_entry w)
entry_live w =
    carried (world_then w) (after_entry w) (after_entry w).editor.stage.uis (at_end_sessions false w)
    (without_live false (world_then w) (sessions_losing_uis (world_then w)) refl)

pub settled_entry_live : (is_seen : Bool) (w : World) → OnlyLive (after_settled_entry is_seen w)
settled_entry_live is_seen w =
    carried (world_then w) (after_settled_entry is_seen w) (after_settled_entry is_seen w).editor.stage.uis (at_end_sessions is_seen w)
    (subst (λ (us : List Ui). AreLive (live_in (world_then w)) us) (sym (settled_uis (world_at_end is_seen w).editor))
    (without_live is_seen (world_then w) (sessions_losing_uis (world_then w)) refl))

by_entry : (u v : World) → v ≡ after_entry u → OnlyLive v
by_entry u v e = subst (λ (x : World). OnlyLive x) (sym e) (entry_live u)

by_settled_entry : (is_seen : Bool) (u v : World) → v ≡ after_settled_entry is_seen u → OnlyLive v
by_settled_entry is_seen u v e = subst (λ (x : World). OnlyLive x) (sym e) (settled_entry_live is_seen u)

pub makes_live : (w v : World) (event : Event) → OnlyLive w → Makes w event v → OnlyLive v
makes_live w v open_session h made = by_entry (record w { sessions = w.sessions ++ fresh_session ∷ [] }) v made
makes_live w v (request_of s call) h made = by_settled_entry (outcome_of_frame w.editor s call).is_seen (world_after_call w s call (outcome_of_frame w.editor s call)) v made.made
makes_live w v (take_of s) h made = by_entry (with_session_at w s _) v made.made
makes_live w v (close_of s) h made = by_settled_entry false (with_session_at w s _) v made.made

pub run_live : (w v : World) (es : List Entry) → OnlyLive w → run_from w es ≡ Some v → OnlyLive v
run_live w v es h e = run_keeps OnlyLive makes_live w v es h e

-- ---- the law
found_step : (w : World) (s : ℕ) (u : Ui) (us : List Ui) (b : Bool) → (u.session == s) ≡ b → live_in w u ≡ true → (has_ui s us ≡ true → is_live (session_of w s) ≡ true)
    → (b || has_ui s us) ≡ true → is_live (session_of w s) ≡ true
found_step w s u us true is h rest e =
    let same : u.session ≡ s = grind (arith, nat_tests) in
    subst (λ (n : ℕ). is_live (session_of w n) ≡ true) same h
found_step w s u us false is h rest e = rest e

found_live : (w : World) (s : ℕ) (us : List Ui) → AreLive (live_in w) us → has_ui s us ≡ true → is_live (session_of w s) ≡ true
found_live w s [] h e = absurd cc
found_live w s (u ∷ us) h e = found_step w s u us (u.session == s) refl h.0 (λ f. found_live w s us h.1 f) e

pub uis_are_of_live : UisAreOfLive
unfolding UisAreOfLive
uis_are_of_live capacity limits history w s runs has = found_live w s w.editor.stage.uis (run_live (fresh_world capacity limits) w history tt runs) has
