-- After each entry of a history the windows are sound and settled.
use Rattle.std.proofs.Common.{◌≡◌, ℕ, pos, ◌+◌, List, [], ◌∷◌, ◌++◌, refl, ap, sym, subst, Bool, true, false, cond, Option, Some, None}
use Rattle.std.specs.Prelude.{flat_map, ◌==◌}
use Rattle.std.proofs.lemmas.List.Elements.{All-nil}
use Rattle.nv_layout.specs.declared.nodes.Rect.{Rect}
use Rattle.nv_windows.specs.Rooms.{text_area}
use Rattle.nv_windows.specs.Workspace.{window_on}
use Rattle.nv_windows.specs.declared.window.Window.{Window}
use Rattle.nv_windows.proofs.SoundTabs.{fresh_sound}
use Rattle.nv_model.specs.Buffers.{fresh_buffer}
use Rattle.nv_model.specs.Editors.{ModelEditor, fresh_editor}
use Rattle.nv_model.specs.Operations.{top_put}
use Rattle.nv_model.specs.Seen.{Seen, SeenBuffer, seen_buffer, seen_of}
use Rattle.nv_model.specs.declared.parts.Limits.{Limits}
use Rattle.nv_editor.specs.Uis.{HasScreenSize}
use Rattle.nv_scene.specs.Settling.{top_by, top_of, window_settling, settle_operations, IsSettled}
use Rattle.nv_scene.proofs.SettlingLaws.{settling_is_once}
use Rattle.nv_history.specs.Events.{Event, open_session, request_of, take_of, close_of, Entry, closed_at}
use Rattle.nv_history.specs.Sessions.{Session, fresh_session, session_closed_by, shown_after, session_emptied}
use Rattle.nv_history.specs.Worlds.{World, fresh_world, with_session_at, sessions_losing_uis, world_without_uis, world_at_end, settled_editor, after_entry, after_settled_entry, outcome_of_frame, world_after_call, is_scene_due}
use Rattle.nv_history.specs.Runs.{run}
use Rattle.nv_history.specs.UiLaws.{EditorsAreSettled, WindowsAreSound}
use Rattle.nv_history.proofs.GoingRuns.{set_editor}
use Rattle.nv_history.proofs.Leaving.{GoesOnAs, grown_live, leaves_by, set_as}
use Rattle.nv_history.proofs.LiveUis.{OnlyLive, makes_live}
use Rattle.nv_history.proofs.Staging.{same_editor, world_then}
use Rattle.nv_history.proofs.Makings.{Makes, run_keeps}
use Rattle.nv_history.proofs.SafeCalls.{frame_safe}
use Rattle.nv_history.proofs.SafeStages.{IsSafeStage, AllHarmless, harmless-append, all_harmless_safe, uis_dropped_safe}

-- ---- settling, and UIs that go
window_harmless : (s : Seen) (w : Window) (b : Bool) → AllHarmless (cond b [] (top_put w.handle (top_of s w) ∷ []))
window_harmless s w true = tt
window_harmless s w false = (tt, tt)

settling_harmless : (s : Seen) (ws : List Window) → AllHarmless (flat_map (window_settling s) ws)
settling_harmless s [] = tt
settling_harmless s (w ∷ ws) = harmless-append (window_settling s w) (flat_map (window_settling s) ws) (window_harmless s w (top_of s w == w.top)) (settling_harmless s ws)

settled_safe : (m : ModelEditor) → IsSafeStage m.stage → IsSafeStage (settled_editor m).stage
settled_safe m safe = all_harmless_safe (settle_operations (seen_of m)) (settling_harmless (seen_of m) m.stage.workspace.windows) m safe

without_safe : (is_seen : Bool) (ss : List ℕ) (w : World) → IsSafeStage w.editor.stage → IsSafeStage (world_without_uis is_seen ss w).editor.stage
without_safe true [] w h = h
without_safe false [] w h = h
without_safe is_seen (s ∷ ss) w h = uis_dropped_safe (s ∷ ss) w.editor h

at_end_safe : (is_seen : Bool) (w : World) → IsSafeStage w.editor.stage → IsSafeStage (world_at_end is_seen w).editor.stage
at_end_safe is_seen w h =
    without_safe is_seen (sessions_losing_uis (world_then w)) (world_then w)
    (subst (λ (m : ModelEditor). IsSafeStage m.stage) (sym (same_editor w (w.entries + 1 == w.limits.entries))) h)

set_safe : (w : World) (s : ℕ) (x : Session) → IsSafeStage w.editor.stage → IsSafeStage (with_session_at w s x).editor.stage
set_safe w s x h = subst (λ (m : ModelEditor). IsSafeStage m.stage) (sym (set_editor w s x)) h

-- ---- one entry
-- a world with sound and settled windows, of whose sessions that are closed none has a UI
pub record IsInOrder (w : World) : Type 0 where
  pub safe : IsSafeStage w.editor.stage
  pub settled : IsSettled (seen_of w.editor)

by_entry : (w u v : World) → GoesOnAs w u → IsInOrder w → v ≡ after_entry u → IsInOrder v
by_entry w u v goes order e = record {
  safe = subst (λ (x : World). IsSafeStage x.editor.stage) (sym e) (at_end_safe false u (subst (λ (m : ModelEditor). IsSafeStage m.stage) (sym goes.editor) order.safe));
  settled = (leaves_by w u v goes e).settled order.settled;
}

by_settled_entry : (is_seen : Bool) (u v : World) → IsSafeStage u.editor.stage → v ≡ after_settled_entry is_seen u → IsInOrder v
by_settled_entry is_seen u v safe e =
    let end = at_end_safe is_seen u safe in record {
      safe = subst (λ (x : World). IsSafeStage x.editor.stage) (sym e) (settled_safe (world_at_end is_seen u).editor end);
      settled = subst (λ (x : World). IsSettled (seen_of x.editor)) (sym e) (settling_is_once (world_at_end is_seen u).editor end.0);
    }

order_kept : (w v : World) (event : Event) → OnlyLive w → IsInOrder w → Makes w event v → IsInOrder v
order_kept w v open_session live order made =
    by_entry w (record w { sessions = w.sessions ++ fresh_session ∷ [] }) v
    (record { editor = refl; stamp = refl; last = refl; live = grown_live w w.editor.stage.uis live }) order made
order_kept w v (request_of s call) live order made =
    by_settled_entry (outcome_of_frame w.editor s call).is_seen (world_after_call w s call (outcome_of_frame w.editor s call)) v (frame_safe w.editor order.safe s call) made.made
order_kept w v (take_of s) live order made =
    by_entry w (with_session_at w s (session_emptied (shown_after (is_scene_due w s made.session) w.stamp made.session.shown) made.session)) v
    (set_as w s made.session (session_emptied (shown_after (is_scene_due w s made.session) w.stamp made.session.shown) made.session) made.there refl live) order made.made
order_kept w v (close_of s) live order made =
    by_settled_entry false (with_session_at w s (session_closed_by (closed_at w.entries) made.session)) v
    (set_safe w s (session_closed_by (closed_at w.entries) made.session) order.safe) made.made

pub record IsKept (w : World) : Type 0 where
  pub live : OnlyLive w
  pub order : IsInOrder w

makes_kept : (w v : World) (event : Event) → IsKept w → Makes w event v → IsKept v
makes_kept w v event kept made = record { live = makes_live w v event kept.live made; order = order_kept w v event kept.live kept.order made }

-- ---- a fresh editor
top_at_first : (o : Option Rect) (b : SeenBuffer) → top_by (window_on (pos 1000) (pos 1)) o (Some b) ≡ 0
top_at_first None b = refl
top_at_first (Some area) b = refl

fresh_settled : (limits : Limits) → IsSettled (seen_of (fresh_editor limits))
fresh_settled limits =
    ap (λ (n : ℕ). cond (n == 0) [] (top_put (pos 1000) n ∷ []) ++ [])
    (top_at_first (text_area (fresh_editor limits).stage.workspace (pos 1000)) (seen_buffer (fresh_buffer true)))

fresh_kept : (capacity : ℕ) (limits : Limits) → IsKept (fresh_world capacity limits)
fresh_kept capacity limits = record {
  live = tt;
  order = record {
    safe = (fresh_sound (pos 1), record { rising = tt; narrow = All-nil HasScreenSize; least = tt });
    settled = fresh_settled limits;
  };
}

pub run_kept : (capacity : ℕ) (limits : Limits) (history : List Entry) (w : World) → run capacity limits history ≡ Some w → IsKept w
run_kept capacity limits history w runs = run_keeps IsKept makes_kept (fresh_world capacity limits) w history (fresh_kept capacity limits) runs

pub editors_are_settled : EditorsAreSettled
unfolding EditorsAreSettled
editors_are_settled capacity limits history w runs = (run_kept capacity limits history w runs).order.settled

pub windows_are_sound : WindowsAreSound
unfolding WindowsAreSound
windows_are_sound capacity limits history w runs = (run_kept capacity limits history w runs).order.safe.0
