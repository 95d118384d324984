-- The buffers of the editor after an entry are those that its call leaves.
use Rattle.std.proofs.Common.{◌≡◌, ℕ, ◌+◌, List, [], ◌∷◌, ◌++◌, refl, ap, ◌∙◌, Bool, true, false, cond, Some}
use Rattle.std.specs.Prelude.{flat_map, ◌==◌}
use Rattle.nv_windows.specs.declared.window.Window.{Window}
use Rattle.nv_model.specs.Editors.{ModelEditor}
use Rattle.nv_model.specs.Operations.{top_put, after_operation, after_operations}
use Rattle.nv_model.specs.Seen.{Seen, seen_of}
use Rattle.nv_scene.specs.Settling.{top_of, window_settling}
use Rattle.nv_history.specs.Events.{Event, open_session, request_of, take_of, close_of, closed_at}
use Rattle.nv_history.specs.Sessions.{Session, fresh_session, session_closed_by, shown_after, session_emptied}
use Rattle.nv_history.specs.Worlds.{World, with_session_at, sessions_losing_uis, world_without_uis, world_at_end, settled_editor, after_entry, after_settled_entry, outcome_of_frame, world_after_call, is_scene_due, step, world_made}
use Rattle.nv_history.specs.MarkPlaces.{operations_of}
use Rattle.nv_history.proofs.GoingRuns.{set_editor}
use Rattle.nv_history.proofs.Staging.{same_editor, world_then}
use Rattle.nv_history.proofs.Makings.{Makes, step_makes}

-- ---- settling and UIs leave buffers
settle_step : (s : Seen) (w : Window) (ws : List Window) (m : ModelEditor) (b : Bool)
    → ((k : ModelEditor) → (after_operations (flat_map (window_settling s) ws) k).buffers ≡ k.buffers)
    → (after_operations (cond b [] (top_put w.handle (top_of s w) ∷ []) ++ flat_map (window_settling s) ws) m).buffers ≡ m.buffers
settle_step s w ws m true rest = rest m
settle_step s w ws m false rest = rest (after_operation (top_put w.handle (top_of s w)) m)

settles_buffers : (s : Seen) (ws : List Window) (m : ModelEditor) → (after_operations (flat_map (window_settling s) ws) m).buffers ≡ m.buffers
settles_buffers s [] m = refl
settles_buffers s (w ∷ ws) m = settle_step s w ws m (top_of s w == w.top) (settles_buffers s ws)

pub settled_buffers : (m : ModelEditor) → (settled_editor m).buffers ≡ m.buffers
settled_buffers m = settles_buffers (seen_of m) m.stage.workspace.windows m

without_buffers : (is_seen : Bool) (ss : List ℕ) (w : World) → (world_without_uis is_seen ss w).editor.buffers ≡ w.editor.buffers
without_buffers true [] w = refl
without_buffers false [] w = refl
without_buffers is_seen (s ∷ ss) w = refl

at_end_buffers : (is_seen : Bool) (w : World) → (world_at_end is_seen w).editor.buffers ≡ w.editor.buffers
at_end_buffers is_seen w =
    without_buffers is_seen (sessions_losing_uis (world_then w)) (world_then w)
    ∙ ap (λ (m : ModelEditor). m.buffers) (same_editor w (w.entries + 1 == w.limits.entries))

by_entry : (w v : World) → v ≡ after_entry w → v.editor.buffers ≡ w.editor.buffers
by_entry w v e = ap (λ (u : World). u.editor.buffers) e ∙ at_end_buffers false w

by_settled_entry : (is_seen : Bool) (w v : World) → v ≡ after_settled_entry is_seen w → v.editor.buffers ≡ w.editor.buffers
by_settled_entry is_seen w v e =
    ap (λ (u : World). u.editor.buffers) e ∙ settled_buffers (world_at_end is_seen w).editor ∙ at_end_buffers is_seen w

set_buffers : (w : World) (s : ℕ) (x : Session) → (with_session_at w s x).editor.buffers ≡ w.editor.buffers
set_buffers w s x = ap (λ (m : ModelEditor). m.buffers) (set_editor w s x)

makes_buffers : (w v : World) (event : Event) → Makes w event v → v.editor.buffers ≡ (after_operations (operations_of w event) w.editor).buffers
makes_buffers w v open_session made = by_entry (record w { sessions = w.sessions ++ fresh_session ∷ [] }) v made
makes_buffers w v (request_of s call) made =
    by_settled_entry (outcome_of_frame w.editor s call).is_seen (world_after_call w s call (outcome_of_frame w.editor s call)) v made.made
makes_buffers w v (take_of s) made =
    by_entry (with_session_at w s (session_emptied (shown_after (is_scene_due w s made.session) w.stamp made.session.shown) made.session)) v made.made
    ∙ set_buffers w s (session_emptied (shown_after (is_scene_due w s made.session) w.stamp made.session.shown) made.session)
makes_buffers w v (close_of s) made =
    by_settled_entry false (with_session_at w s (session_closed_by (closed_at w.entries) made.session)) v made.made
    ∙ set_buffers w s (session_closed_by (closed_at w.entries) made.session)

-- by the operations of the event
pub step_buffers : (w v : World) (event : Event) → world_made (step w event) ≡ Some v → v.editor.buffers ≡ (after_operations (operations_of w event) w.editor).buffers
step_buffers w v event e = makes_buffers w v event (step_makes w v event e)
