-- As long as the stamp stays, the editor looks the same.
use Rattle.std.proofs.Common.{◌≡◌, ℕ, zero, suc, ◌+◌, ◌≤◌, List, [], ◌∷◌, ◌++◌, refl, ap, sym, ◌∙◌, subst, arith, Bool, true, false, cond, Some}
use Rattle.std.specs.Prelude.{◌==◌}
use Rattle.nv_model.specs.Editors.{ModelEditor, fresh_editor}
use Rattle.nv_model.specs.Operations.{Operation, top_put, uis_dropped, after_operations}
use Rattle.nv_model.specs.Seen.{Seen, seen_of}
use Rattle.nv_model.specs.declared.parts.Limits.{Limits}
use Rattle.nv_history.specs.Events.{Event, open_session, request_of, take_of, close_of, Entry, closed_at}
use Rattle.nv_history.specs.Sessions.{Session, fresh_session, session_closed_by, shown_after, session_emptied}
use Rattle.nv_history.specs.Worlds.{World, fresh_world, with_session_at, sessions_losing_uis, world_without_uis, world_at_end, settled_editor, after_entry, after_settled_entry, outcome_of_frame, world_after_call, is_scene_due}
use Rattle.nv_history.specs.Runs.{run_from, run}
use Rattle.nv_history.specs.UiLaws.{WasShown, NothingMeansShown, SameStampSameScenes}
use Rattle.nv_screen.specs.declared.scene.Scene.{Scene}
use Rattle.nv_history.specs.Spoken.{ShowsEditor}
use Rattle.nv_history.proofs.GoingRuns.{run-append, set_editor}
use Rattle.nv_history.proofs.Showings.{shown_by}
use Rattle.nv_history.proofs.Staging.{same_editor, world_then}
use Rattle.nv_history.proofs.Makings.{Makes, run_keeps}
use Rattle.nv_history.proofs.Stamps.{makes_rise, ended_stamp}
use Rattle.nv_history.proofs.UisStand.{AreStanding}
use Rattle.nv_history.proofs.LooksOn.{LooksOn, looks_same, looks_then, scene_stays, settled_stays, below_stays}
use Rattle.nv_history.proofs.WindowBuffers.{AllStill, still-append, ShowBelow, IsPlaced, still_placed}
use Rattle.nv_history.proofs.PlacedCalls.{frame_placed}
use Rattle.nv_model.proofs.Numbering.{handles_stay_below}
use Rattle.nv_windows.specs.declared.window.Window.{Window}
use Rattle.std.proofs.lemmas.Int.{ints}
use Rattle.std.specs.Prelude.{flat_map, option_and_then}
use Rattle.nv_scene.specs.Settling.{top_of, window_settling, settle_operations, IsSettled}
use Rattle.nv_history.proofs.CalmCalls.{frame_calm}
use Rattle.nv_history.proofs.SafeRows.{standing_of}
use Rattle.nv_history.proofs.SettledRuns.{run_kept}

-- ---- an entry behind which the stamp is the same
-- what it does to the editor at its end
record EndsCalmly (is_seen : Bool) (w : World) : Type 0 where
  unseen : is_seen ≡ false
  editor : (world_at_end is_seen w).editor ≡ w.editor

not_next : (n : ℕ) {A : Type 0} → n + 1 ≡ n → A
not_next n e = absurd (omega (arith, e))

calm_end : (is_seen : Bool) (ss : List ℕ) (w : World) → (world_without_uis is_seen ss w).stamp ≡ w.stamp → (is_seen ≡ false) × ((world_without_uis is_seen ss w).editor ≡ w.editor)
calm_end true [] w e = not_next w.stamp e
calm_end false [] w e = (refl, refl)
calm_end is_seen (s ∷ ss) w e = not_next w.stamp e

ends_calmly : (is_seen : Bool) (w : World) → (world_at_end is_seen w).stamp ≡ w.stamp → EndsCalmly is_seen w
ends_calmly is_seen w e =
    let last : Bool = w.entries + 1 == w.limits.entries in
    let end = calm_end is_seen (sessions_losing_uis (world_then w)) (world_then w) (e ∙ sym (ended_stamp w last)) in
    record { unseen = end.0; editor = end.1 ∙ same_editor w last }

-- an editor that is settled, whose windows show no buffer that isn't given yet, with its UIs in
-- order
pub record IsCalmWorld (w : World) : Type 0 where
  pub settled : IsSettled (seen_of w.editor)
  pub below : ShowBelow w.editor.stage
  pub stands : AreStanding w.editor.stage

-- a world that looks the same
pub record LooksThere (m : ModelEditor) (v : World) : Type 0 where
  pub looks : LooksOn m v.editor
  pub calm : IsCalmWorld v

look_there : (m : ModelEditor) (v : World) (later : ModelEditor) → IsSettled (seen_of m) → ShowBelow m.stage → LooksOn m later → v.editor ≡ later → LooksThere m v
look_there m v later settled below looks e =
    let here : LooksOn m v.editor = subst (λ (x : ModelEditor). LooksOn m x) (sym e) looks in
    record { looks = here; calm = record { settled = settled_stays m v.editor here below settled; below = below_stays m v.editor here below; stands = here.stands } }

-- settling leaves an editor that is settled
pub unsettled : (m : ModelEditor) → IsSettled (seen_of m) → settled_editor m ≡ m
unsettled m is = ap (λ (cs : List Operation). after_operations cs m) is

-- an entry that isn't settled behind
entry_looks : (w u v : World) → IsCalmWorld w → u.editor ≡ w.editor → u.stamp ≡ w.stamp → v ≡ after_entry u → v.stamp ≡ w.stamp → LooksThere w.editor v
entry_looks w u v calm editor stamp made same =
    let end = ends_calmly false u (sym (ap (λ (x : World). x.stamp) made) ∙ same ∙ sym stamp) in
    look_there w.editor v w.editor calm.settled calm.below (looks_same w.editor calm.stands) (ap (λ (x : World). x.editor) made ∙ end.editor ∙ editor)

-- and one that is
settled_entry_looks : (w u v : World) (is_seen : Bool) → IsCalmWorld w → (is_seen ≡ false → LooksOn w.editor u.editor) → u.stamp ≡ w.stamp → v ≡ after_settled_entry is_seen u
    → v.stamp ≡ w.stamp → LooksThere w.editor v
settled_entry_looks w u v is_seen calm looks stamp made same =
    let end = ends_calmly is_seen u (sym (ap (λ (x : World). x.stamp) made) ∙ same ∙ sym stamp) in
    let there = looks end.unseen in
    let settled : IsSettled (seen_of u.editor) = settled_stays w.editor u.editor there calm.below calm.settled in
    look_there w.editor v u.editor calm.settled calm.below there
    (ap (λ (x : World). x.editor) made ∙ ap settled_editor end.editor ∙ unsettled u.editor settled)

set_stamp : (w : World) (s : ℕ) (x : Session) → (with_session_at w s x).stamp ≡ w.stamp
set_stamp w zero x = refl
set_stamp w (suc p) x = refl

set_looks : (w : World) (s : ℕ) (x : Session) → AreStanding w.editor.stage → LooksOn w.editor (with_session_at w s x).editor
set_looks w s x stands = subst (λ (m : ModelEditor). LooksOn w.editor m) (sym (set_editor w s x)) (looks_same w.editor stands)

makes_look : (w v : World) (event : Event) → IsCalmWorld w → Makes w event v → v.stamp ≡ w.stamp → LooksThere w.editor v
makes_look w v open_session calm made same = entry_looks w (record w { sessions = w.sessions ++ fresh_session ∷ [] }) v calm refl refl made same
makes_look w v (request_of s call) calm made same =
    settled_entry_looks w (world_after_call w s call (outcome_of_frame w.editor s call)) v (outcome_of_frame w.editor s call).is_seen calm
    (λ e. frame_calm w.editor calm.stands s call e) refl made.made same
makes_look w v (take_of s) calm made same =
    let x : Session = session_emptied (shown_after (is_scene_due w s made.session) w.stamp made.session.shown) made.session in
    entry_looks w (with_session_at w s x) v calm (set_editor w s x) (set_stamp w s x) made.made same
makes_look w v (close_of s) calm made same =
    let x : Session = session_closed_by (closed_at w.entries) made.session in
    settled_entry_looks w (with_session_at w s x) v false calm (λ e. set_looks w s x calm.stands) (set_stamp w s x) made.made same

-- ---- along a run
-- the stamp isn't below this one, and where it is this one the world looks as it did then
pub record IsAsThen (m : ModelEditor) (stamp : ℕ) (v : World) : Type 0 where
  pub above : stamp ≤ v.stamp
  pub looks : v.stamp ≡ stamp → LooksThere m v

step_then : (m : ModelEditor) (stamp : ℕ) (w v : World) (event : Event) → IsAsThen m stamp w → Makes w event v → IsAsThen m stamp v
step_then m stamp w v event h made =
    let rise = makes_rise w v event made in
    let above = h.above in record {
      above = omega (arith, above, rise);
      looks = λ e.
          let same : w.stamp ≡ stamp = omega (arith, above, rise, e) in
          let then = h.looks same in
          let next = makes_look w v event then.calm made (e ∙ sym same) in
          record { looks = looks_then m w.editor v.editor then.looks next.looks; calm = next.calm };
    }

pub run_then : (w v : World) (es : List Entry) → IsCalmWorld w → run_from w es ≡ Some v → IsAsThen w.editor w.stamp v
run_then w v es calm runs =
    run_keeps (IsAsThen w.editor w.stamp) (step_then w.editor w.stamp) w v es
    (record { above = omega arith; looks = λ e. record { looks = looks_same w.editor calm.stands; calm = calm } }) runs

-- ---- windows show no buffer that isn't given yet
window_still : (s : Seen) (w : Window) (b : Bool) → AllStill (cond b [] (top_put w.handle (top_of s w) ∷ []))
window_still s w true = tt
window_still s w false = (tt, tt)

settling_still : (s : Seen) (ws : List Window) → AllStill (flat_map (window_settling s) ws)
settling_still s [] = tt
settling_still s (w ∷ ws) = still-append (window_settling s w) (flat_map (window_settling s) ws) (window_still s w (top_of s w == w.top)) (settling_still s ws)

settled_placed : (m : ModelEditor) → IsPlaced m → IsPlaced (settled_editor m)
settled_placed m placed = still_placed (settle_operations (seen_of m)) m (settling_still (seen_of m) m.stage.workspace.windows) placed

without_placed : (is_seen : Bool) (ss : List ℕ) (w : World) → IsPlaced w.editor → IsPlaced (world_without_uis is_seen ss w).editor
without_placed true [] w h = h
without_placed false [] w h = h
without_placed is_seen (s ∷ ss) w h = still_placed (uis_dropped (s ∷ ss) ∷ []) w.editor (tt, tt) h

at_end_placed : (is_seen : Bool) (w : World) → IsPlaced w.editor → IsPlaced (world_at_end is_seen w).editor
at_end_placed is_seen w h =
    without_placed is_seen (sessions_losing_uis (world_then w)) (world_then w)
    (subst (λ (m : ModelEditor). IsPlaced m) (sym (same_editor w (w.entries + 1 == w.limits.entries))) h)

by_entry : (w v : World) → v ≡ after_entry w → IsPlaced w.editor → IsPlaced v.editor
by_entry w v e h = subst (λ (u : World). IsPlaced u.editor) (sym e) (at_end_placed false w h)

by_settled_entry : (is_seen : Bool) (w v : World) → v ≡ after_settled_entry is_seen w → IsPlaced w.editor → IsPlaced v.editor
by_settled_entry is_seen w v e h =
    subst (λ (u : World). IsPlaced u.editor) (sym e) (settled_placed (world_at_end is_seen w).editor (at_end_placed is_seen w h))

set_placed : (w : World) (s : ℕ) (x : Session) → IsPlaced w.editor → IsPlaced (with_session_at w s x).editor
set_placed w s x h = subst (λ (m : ModelEditor). IsPlaced m) (sym (set_editor w s x)) h

makes_placed : (w v : World) (event : Event) → IsPlaced w.editor → Makes w event v → IsPlaced v.editor
makes_placed w v open_session h made = by_entry (record w { sessions = w.sessions ++ fresh_session ∷ [] }) v made h
makes_placed w v (request_of s call) h made =
    by_settled_entry (outcome_of_frame w.editor s call).is_seen (world_after_call w s call (outcome_of_frame w.editor s call)) v made.made (frame_placed w.editor h s call)
makes_placed w v (take_of s) h made = by_entry (with_session_at w s _) v made.made (set_placed w s _ h)
makes_placed w v (close_of s) h made = by_settled_entry false (with_session_at w s _) v made.made (set_placed w s _ h)

fresh_placed : (limits : Limits) → IsPlaced (fresh_editor limits)
fresh_placed limits = (handles_stay_below.0 limits, (omega (arith, ints), tt))

pub run_placed : (capacity : ℕ) (limits : Limits) (history : List Entry) (w : World) → run capacity limits history ≡ Some w → IsPlaced w.editor
run_placed capacity limits history w runs = run_keeps (λ (u : World). IsPlaced u.editor) makes_placed (fresh_world capacity limits) w history (fresh_placed limits) runs

-- ---- the law
pub same_stamp_same_scenes : SameStampSameScenes
unfolding SameStampSameScenes
same_stamp_same_scenes capacity limits before after w v scene runs goes same shows =
    let order = (run_kept capacity limits before w runs).order in
    let placed = run_placed capacity limits before w runs in
    let calm : IsCalmWorld w = record { settled = order.settled; below = placed.1; stands = standing_of w.editor.stage order.safe.1 } in
    let then = (run_then w v after calm goes).looks same in
    record { shows = scene_stays w.editor v.editor then.looks scene shows.shows; sound = shows.sound }

-- ---- nothing to take
shown_still : (capacity : ℕ) (limits : Limits) (history : List Entry) (w : World) (s : ℕ) → run capacity limits history ≡ Some w → (shown : WasShown capacity limits s history w.stamp)
    → run_from shown.world (shown.entry ∷ shown.after) ≡ Some w
shown_still capacity limits history w s runs shown =
    sym (ap (option_and_then (λ (v : World). run_from v (shown.entry ∷ shown.after))) shown.runs)
    ∙ sym (run-append (fresh_world capacity limits) shown.before (shown.entry ∷ shown.after))
    ∙ sym (ap (λ (l : List Entry). run capacity limits l) shown.history_is)
    ∙ runs

unfold_same : SameStampSameScenes → (capacity : ℕ) (limits : Limits) (before after : List Entry) (w v : World) (scene : Scene) → run capacity limits before ≡ Some w
    → run_from w after ≡ Some v → v.stamp ≡ w.stamp → ShowsEditor w.editor scene → ShowsEditor v.editor scene
unfolding SameStampSameScenes
unfold_same h = h

pub nothing_means_shown : NothingMeansShown
unfolding NothingMeansShown
nothing_means_shown capacity limits history w s runs has e =
    let shown = shown_by capacity limits history w s runs has e in record {
      shown = shown;
      stays = λ scene shows.
          unfold_same same_stamp_same_scenes capacity limits shown.before (shown.entry ∷ shown.after) shown.world w scene shown.runs
          (shown_still capacity limits history w s runs shown) (sym shown.same_stamp) shows;
    }
