-- Stamps rise, and what a UI was given.
use Rattle.std.proofs.Common.{◌≡◌, ℕ, zero, suc, ◌+◌, ◌≤◌, List, [], ◌∷◌, ◌++◌, refl, sym, subst, arith, Bool, true, false, Some}
use Rattle.std.specs.Prelude.{◌==◌}
use Rattle.nv_history.specs.Events.{Event, open_session, request_of, take_of, close_of, Entry}
use Rattle.nv_history.specs.Sessions.{Session, fresh_session}
use Rattle.nv_history.specs.Worlds.{World, with_session_at, world_ended_if, sessions_losing_uis, world_without_uis, world_at_end, after_entry, after_settled_entry, outcome_of_frame, world_after_call}
use Rattle.nv_history.specs.Runs.{run_from}
use Rattle.nv_history.specs.UiLaws.{StampsOnlyRise}
use Rattle.nv_history.proofs.Staging.{world_then}
use Rattle.nv_history.proofs.Makings.{Makes, run_keeps}

-- ---- stamps rise
pub ended_stamp : (w : World) (b : Bool) → (world_ended_if b w).stamp ≡ w.stamp
ended_stamp w true = refl
ended_stamp w false = refl

without_rises : (is_seen : Bool) (ss : List ℕ) (w : World) → w.stamp ≤ (world_without_uis is_seen ss w).stamp
without_rises true [] w = omega arith
without_rises false [] w = omega arith
without_rises is_seen (s ∷ ss) w = omega arith

pub end_rises : (is_seen : Bool) (w : World) → w.stamp ≤ (world_at_end is_seen w).stamp
end_rises is_seen w =
    subst (λ (n : ℕ). n ≤ (world_at_end is_seen w).stamp) (ended_stamp w (w.entries + 1 == w.limits.entries))
    (without_rises is_seen (sessions_losing_uis (world_then w)) (world_then w))

set_stamp : (w : World) (s : ℕ) (x : Session) → (with_session_at w s x).stamp ≡ w.stamp
set_stamp w zero x = refl
set_stamp w (suc p) x = refl

rises_to : (n : ℕ) (w v : World) → n ≤ w.stamp → v ≡ w → n ≤ v.stamp
rises_to n w v h e = subst (λ (u : World). n ≤ u.stamp) (sym e) h

rises_by : (n : ℕ) (w : World) (is_seen : Bool) → n ≡ w.stamp → n ≤ (world_at_end is_seen w).stamp
rises_by n w is_seen e = subst (λ (k : ℕ). k ≤ (world_at_end is_seen w).stamp) (sym e) (end_rises is_seen w)

pub makes_rise : (w v : World) (event : Event) → Makes w event v → w.stamp ≤ v.stamp
makes_rise w v open_session made =
    rises_to w.stamp (after_entry (record w { sessions = w.sessions ++ fresh_session ∷ [] })) v (rises_by w.stamp (record w { sessions = w.sessions ++ fresh_session ∷ [] }) false refl) made
makes_rise w v (request_of s call) made =
    rises_to w.stamp (after_settled_entry (outcome_of_frame w.editor s call).is_seen (world_after_call w s call (outcome_of_frame w.editor s call))) v
    (rises_by w.stamp (world_after_call w s call (outcome_of_frame w.editor s call)) (outcome_of_frame w.editor s call).is_seen refl) made.made
makes_rise w v (take_of s) made = rises_to w.stamp (after_entry (with_session_at w s _)) v (rises_by w.stamp (with_session_at w s _) false (sym (set_stamp w s _))) made.made
makes_rise w v (close_of s) made = rises_to w.stamp (after_settled_entry false (with_session_at w s _)) v (rises_by w.stamp (with_session_at w s _) false (sym (set_stamp w s _))) made.made

at_least : (n : ℕ) (w v : World) (event : Event) → n ≤ w.stamp → Makes w event v → n ≤ v.stamp
at_least n w v event h made = omega (arith, h, makes_rise w v event made)

pub stays_above : (n : ℕ) (w v : World) (es : List Entry) → n ≤ w.stamp → run_from w es ≡ Some v → n ≤ v.stamp
stays_above n w v es h runs = run_keeps (λ (u : World). n ≤ u.stamp) (at_least n) w v es h runs

pub stamps_only_rise : StampsOnlyRise
unfolding StampsOnlyRise
stamps_only_rise w v entries runs = stays_above w.stamp w v entries (omega arith) runs
