-- What the end of an entry leaves: the sessions, and the buffers of the editor.
use Rattle.std.proofs.Common.{◌≡◌, ℕ, ◌+◌, List, [], ◌∷◌, refl, sym, ◌∙◌, subst, Bool, true, false, cond}
use Rattle.std.specs.Prelude.{flat_map, ◌==◌}
use Rattle.nv_windows.specs.declared.window.Window.{Window}
use Rattle.nv_model.specs.Editors.{ModelEditor}
use Rattle.nv_model.specs.Operations.{top_put, uis_dropped}
use Rattle.nv_model.specs.Seen.{Seen, seen_of}
use Rattle.nv_scene.specs.Settling.{top_of, window_settling, settle_operations}
use Rattle.nv_dispatch.specs.Telling.{IsSoundModel}
use Rattle.nv_dispatch.proofs.Kept.{KeepsPasts, keeps_same, keeps_then, leaves_keeps, AllLeaveTexts, all_leave-append, all_leave_keeps}
use Rattle.nv_history.specs.Worlds.{World, world_ended_if, sessions_losing_uis, world_without_uis, world_at_end, settled_editor, after_entry, after_settled_entry}

-- ---- settling
window_leaves : (s : Seen) (w : Window) (b : Bool) → AllLeaveTexts (cond b [] (top_put w.handle (top_of s w) ∷ []))
window_leaves s w true = tt
window_leaves s w false = (tt, tt)

settling_leaves : (s : Seen) (ws : List Window) → AllLeaveTexts (flat_map (window_settling s) ws)
settling_leaves s [] = tt
settling_leaves s (w ∷ ws) =
    all_leave-append (window_settling s w) (flat_map (window_settling s) ws) (window_leaves s w (top_of s w == w.top)) (settling_leaves s ws)

pub settled_keeps : (m : ModelEditor) → IsSoundModel m → KeepsPasts m (settled_editor m)
settled_keeps m sound =
    all_leave_keeps (settle_operations (seen_of m)) (settling_leaves (seen_of m) m.stage.workspace.windows) m sound

-- ---- UIs that go
pub without_keeps : (is_seen : Bool) (ss : List ℕ) (w : World) → IsSoundModel w.editor → KeepsPasts w.editor (world_without_uis is_seen ss w).editor
without_keeps true [] w sound = keeps_same w.editor sound
without_keeps false [] w sound = keeps_same w.editor sound
without_keeps is_seen (s ∷ ss) w sound = leaves_keeps (uis_dropped (s ∷ ss)) tt w.editor sound

without_sessions_same : (is_seen : Bool) (ss : List ℕ) (w : World) → (world_without_uis is_seen ss w).sessions ≡ w.sessions
without_sessions_same true [] w = refl
without_sessions_same false [] w = refl
without_sessions_same is_seen (s ∷ ss) w = refl

without_room : (is_seen : Bool) (ss : List ℕ) (w : World) → (world_without_uis is_seen ss w).capacity ≡ w.capacity
without_room true [] w = refl
without_room false [] w = refl
without_room is_seen (s ∷ ss) w = refl

-- ---- the end of the editor
pub same_editor : (w : World) (b : Bool) → (world_ended_if b w).editor ≡ w.editor
same_editor w true = refl
same_editor w false = refl

ended_room : (w : World) (b : Bool) → (world_ended_if b w).capacity ≡ w.capacity
ended_room w true = refl
ended_room w false = refl

-- ---- the end of an entry
-- the world once the editor ended, where it did
abbrev pub world_then : World → World
world_then w = world_ended_if (w.entries + 1 == w.limits.entries) w

pub at_end_sessions : (is_seen : Bool) (w : World) → (world_at_end is_seen w).sessions ≡ (world_then w).sessions
at_end_sessions is_seen w = without_sessions_same is_seen (sessions_losing_uis (world_then w)) (world_then w)

pub at_end_room : (is_seen : Bool) (w : World) → (world_at_end is_seen w).capacity ≡ w.capacity
at_end_room is_seen w =
    without_room is_seen (sessions_losing_uis (world_then w)) (world_then w) ∙ ended_room w (w.entries + 1 == w.limits.entries)

pub at_end_keeps : (is_seen : Bool) (w : World) → IsSoundModel w.editor → KeepsPasts w.editor (world_at_end is_seen w).editor
at_end_keeps is_seen w sound =
    let same = same_editor w (w.entries + 1 == w.limits.entries) in
    subst (λ (m : ModelEditor). KeepsPasts m (world_at_end is_seen w).editor) same
    (without_keeps is_seen (sessions_losing_uis (world_then w)) (world_then w) (subst (λ (m : ModelEditor). IsSoundModel m) (sym same) sound))

pub entry_keeps : (w : World) → IsSoundModel w.editor → KeepsPasts w.editor (after_entry w).editor
entry_keeps w sound = at_end_keeps false w sound

pub settled_entry_keeps : (is_seen : Bool) (w : World) → IsSoundModel w.editor → KeepsPasts w.editor (after_settled_entry is_seen w).editor
settled_entry_keeps is_seen w sound =
    let k = at_end_keeps is_seen w sound in
    keeps_then w.editor (world_at_end is_seen w).editor (settled_editor (world_at_end is_seen w).editor) k (settled_keeps (world_at_end is_seen w).editor k.sound)
