-- The entry that ended a world, in each history that goes on.
use Rattle.std.proofs.Common.{◌≡◌, ℕ, zero, suc, List, [], ◌∷◌, Bool, true, false, Option, Some, None, refl, ap, ◌∙◌}
use Rattle.std.specs.Prelude.{◌+◌, ◌==◌, ◌++◌}
use Rattle.std.proofs.lemmas.Option.{none-some}
use mathlib.Core.List.{IsPrefix}
use Rattle.nv_history.specs.Events.{Event, open_session, request_of, take_of, close_of, Entry, closed_at}
use Rattle.nv_history.specs.Sessions.{Session, fresh_session, shown_after, session_emptied, session_closed_by, has_quit}
use Rattle.nv_history.specs.Worlds.{World, first_end, world_ended_if, sessions_losing_uis, world_without_uis, with_session_at, after_entry, after_settled_entry, outcome_of_frame, world_after_call, is_scene_due}
use Rattle.nv_history.proofs.Makings.{Makes, run_keeps}
use Rattle.nv_core.specs.declared.start.Start.{Start}
use Rattle.nv_core.specs.Starts.{world_of_run}
use Rattle.nv_halves.proofs.Staying.{of_each}

first_stays : (b : Bool) (at entry : ℕ) (o : Option ℕ) → o ≡ Some entry → first_end b at o ≡ Some entry
first_stays b at entry None h = absurd (none-some entry h)
first_stays b at entry (Some x) h = h

without_ended : (is_seen : Bool) (ss : List ℕ) (w : World) → (world_without_uis is_seen ss w).ended ≡ w.ended
without_ended true [] w = refl
without_ended false [] w = refl
without_ended is_seen (s ∷ ss) w = refl

ended_if : (b : Bool) (w : World) (entry : ℕ) → w.ended ≡ Some entry → (world_ended_if b w).ended ≡ Some entry
ended_if true w entry h = first_stays true w.entries entry w.ended h
ended_if false w entry h = h

at_end_ended : (is_seen b : Bool) (w : World) (entry : ℕ) → w.ended ≡ Some entry → (world_without_uis is_seen (sessions_losing_uis (world_ended_if b w)) (world_ended_if b w)).ended ≡ Some entry
at_end_ended is_seen b w entry h = without_ended is_seen (sessions_losing_uis (world_ended_if b w)) (world_ended_if b w) ∙ ended_if b w entry h

same_ended : (w : World) (s : ℕ) (x : Session) → (with_session_at w s x).ended ≡ w.ended
same_ended w zero x = refl
same_ended w (suc p) x = refl

entry_ended : (w u : World) (entry : ℕ) → w.ended ≡ Some entry → u ≡ after_entry w → u.ended ≡ Some entry
entry_ended w u entry h is = ap (λ (v : World). v.ended) is ∙ at_end_ended false (w.entries + 1 == w.limits.entries) w entry h

settled_ended : (is_seen : Bool) (w u : World) (entry : ℕ) → w.ended ≡ Some entry → u ≡ after_settled_entry is_seen w → u.ended ≡ Some entry
settled_ended is_seen w u entry h is = ap (λ (v : World). v.ended) is ∙ at_end_ended is_seen (w.entries + 1 == w.limits.entries) w entry h

makes_ended : (entry : ℕ) (w v : World) (event : Event) → w.ended ≡ Some entry → Makes w event v → v.ended ≡ Some entry
makes_ended entry w v open_session h made = entry_ended (record w { sessions = w.sessions ++ fresh_session ∷ [] }) v entry h made
makes_ended entry w v (request_of s call) h made =
    let o = outcome_of_frame w.editor s call in
    settled_ended o.is_seen (world_after_call w s call o) v entry (first_stays (has_quit o.facts) w.entries entry w.ended h) made.made
makes_ended entry w v (take_of s) h made =
    let x = session_emptied (shown_after (is_scene_due w s made.session) w.stamp made.session.shown) made.session in
    entry_ended (with_session_at w s x) v entry (same_ended w s x ∙ h) made.made
makes_ended entry w v (close_of s) h made =
    let x = session_closed_by (closed_at w.entries) made.session in
    settled_ended false (with_session_at w s x) v entry (same_ended w s x ∙ h) made.made

-- the entry that ended the world after a history is the one that ended it in each that goes on
pub ended_stays : (start : Option Start) (seen history : List Entry) (w v : World) (entry : ℕ) → world_of_run start seen ≡ Some w → w.ended ≡ Some entry → IsPrefix seen history → world_of_run start history ≡ Some v → v.ended ≡ Some entry
ended_stays start seen history w v entry runs h begins later =
    of_each start seen w (λ (u : World). u.ended ≡ Some entry) runs h
    (λ u more goes e. run_keeps (λ (x : World). x.ended ≡ Some entry) (makes_ended entry) w u more e goes)
    history v later begins
